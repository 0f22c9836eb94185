-- The answers of checked operations are numbers that fit.
use Rattle.std.proofs.Common.{◌≡◌, refl, ◌^◌, ℤ, pos, negsuc, ◌+ℤ◌, ◌-ℤ◌, ◌*ℤ◌, neg_ℤ, Option, Some, None, Bool, true, false, ap, ◌∙◌}
use Rattle.std.specs.Int.RustNames.{FitsSigned}
use Rattle.std.specs.Int.{w128}
use Rattle.std.specs.Option.{SomeIff}
use Rattle.std.proofs.lemmas.Bool.{lt-ltb, ltb-true}
use Rattle.jh_query.specs.queries.Fitting.{is_wide, fitted, fitted_of, both_fitted, checked_number}
use Rattle.jh_query.specs.queries.Tree.{NumTree}
use Rattle.jh_query.specs.queries.Tree as t
use Rattle.jh_query.specs.queries.Truth.{Reading, read_number}

pub fits_wide : (z : ℤ) → FitsSigned w128 z → is_wide z ≡ true
fits_wide (pos a) h = lt-ltb a (2 ^ 127) h.sfits
fits_wide (negsuc a) h = lt-ltb a (2 ^ 127) h.sfits

pub wide_fits : (z : ℤ) → is_wide z ≡ true → FitsSigned w128 z
wide_fits (pos a) h = record { sfits = ltb-true a (2 ^ 127) h }
wide_fits (negsuc a) h = record { sfits = ltb-true a (2 ^ 127) h }

unfitted : (z : ℤ) (b : Bool) → is_wide z ≡ b → (is_wide z ≡ true → ⊥) → None ≡ fitted z
unfitted z true e h = absurd (h e)
unfitted z false e h = rw e refl

pub some_fitted : (r : Option ℤ) (z : ℤ) → SomeIff r (FitsSigned w128 z) z → r ≡ fitted z
some_fitted None z h = unfitted z (is_wide z) refl (λ e. h (wide_fits z e))
some_fitted (Some x) z (fits, e) = rw (e, fits_wide z fits) refl

pub ruleset fitting_steps = (some_fitted)

-- where no part leaves `i128`, a number is what it comes to
by_wide : (z v : ℤ) (b : Bool) → is_wide z ≡ b → fitted z ≡ Some v → z ≡ v
by_wide z v true h e = let same : Some z ≡ Some v = rw h at e in cc
by_wide z v false h e = let none : None ≡ Some v = rw h at e in cc

fitted-is : (z v : ℤ) → fitted z ≡ Some v → z ≡ v
fitted-is z v e = by_wide z v (is_wide z) refl e

of-is : (f : ℤ → ℤ) (a : Option ℤ) (x v : ℤ) → ((y : ℤ) → a ≡ Some y → x ≡ y) → fitted_of f a ≡ Some v → f x ≡ v
of-is f None x v h e = cc
of-is f (Some a) x v h e = ap f (h a refl) ∙ fitted-is (f a) v e

both-is : (f : ℤ → ℤ → ℤ) (a b : Option ℤ) (x y v : ℤ) → ((z : ℤ) → a ≡ Some z → x ≡ z) → ((z : ℤ) → b ≡ Some z → y ≡ z) → both_fitted f a b ≡ Some v → f x y ≡ v
both-is f None b x y v h k e = cc
both-is f (Some a) b x y v h k e = ap (λ z. f z y) (h a refl) ∙ of-is (f a) b y v k e

pub checked-is : (m : Reading) (a : NumTree) (v : ℤ) → checked_number m a ≡ Some v → read_number m a ≡ v
checked-is m (t.const c) v e = fitted-is (m.constant c) v e
checked-is m (t.number l) v e = fitted-is (m.number l) v e
checked-is m (t.add a b) v e = both-is (λ x y. x +ℤ y) (checked_number m a) (checked_number m b) (read_number m a) (read_number m b) v (checked-is m a) (checked-is m b) e
checked-is m (t.sub a b) v e = both-is (λ x y. x -ℤ y) (checked_number m a) (checked_number m b) (read_number m a) (read_number m b) v (checked-is m a) (checked-is m b) e
checked-is m (t.neg a) v e = of-is neg_ℤ (checked_number m a) (read_number m a) v (checked-is m a) e
checked-is m (t.scale k a) v e = of-is (λ x. k *ℤ x) (checked_number m a) (read_number m a) v (checked-is m a) e
checked-is m (t.card s) v e = fitted-is (m.card s) v e
