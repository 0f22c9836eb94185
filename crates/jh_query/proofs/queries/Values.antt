-- What is made of values is the value of what is made of them.
use Rattle.std.proofs.Common.{◌≡◌, ℤ, ◌+ℤ◌, ◌-ℤ◌, ◌*ℤ◌, neg_ℤ, Option, Some, None, Bool, true, false, IfSome, option_map, refl, ap}
use Rattle.jh_form.specs.Meaning.{divides_number}
use Rattle.jh_query.specs.queries.Fitting.{is_wide, fitted, fitted_of, both_fitted, both_of}

-- the answer, where there is one, is this
abbrev pub Gives : {A : Type 0} → Option A → A → Type 0
Gives r x = IfSome r (λ value. value ≡ x)

by_wide : (z w : ℤ) (b : Bool) → is_wide z ≡ b → z ≡ w → Gives (fitted z) w
by_wide z w true h e = rw h e
by_wide z w false h e = rw h tt

fitted-gives : (z w : ℤ) → z ≡ w → Gives (fitted z) w
fitted-gives z w e = by_wide z w (is_wide z) refl e

of-gives : (f : ℤ → ℤ) (a : Option ℤ) (x : ℤ) → Gives a x → Gives (fitted_of f a) (f x)
of-gives f None x h = tt
of-gives f (Some a) x h = fitted-gives (f a) (f x) (ap f h)

both-gives : (f : ℤ → ℤ → ℤ) (a b : Option ℤ) (x y : ℤ) → Gives a x → Gives b y → Gives (both_fitted f a b) (f x y)
both-gives f None b x y h k = tt
both-gives f (Some a) b x y h k = rw (← h) (of-gives (f a) b y k)

pub sum-gives : (r a b : Option ℤ) (x y : ℤ) → r ≡ both_fitted (λ m n. m +ℤ n) a b → Gives a x → Gives b y → Gives r (x +ℤ y)
sum-gives r a b x y e h k = rw e (both-gives (λ m n. m +ℤ n) a b x y h k)

pub difference-gives : (r a b : Option ℤ) (x y : ℤ) → r ≡ both_fitted (λ m n. m -ℤ n) a b → Gives a x → Gives b y → Gives r (x -ℤ y)
difference-gives r a b x y e h k = rw e (both-gives (λ m n. m -ℤ n) a b x y h k)

pub negated-gives : (r a : Option ℤ) (x : ℤ) → r ≡ fitted_of neg_ℤ a → Gives a x → Gives r (neg_ℤ x)
negated-gives r a x e h = rw e (of-gives neg_ℤ a x h)

pub scaled-gives : (r a : Option ℤ) (k x : ℤ) → r ≡ fitted_of (λ m. k *ℤ m) a → Gives a x → Gives r (k *ℤ x)
scaled-gives r a k x e h = rw e (of-gives (λ m. k *ℤ m) a x h)

pub tested-gives : (test : ℤ → ℤ → Bool) (r : Option Bool) (a b : Option ℤ) (x y : ℤ) → r ≡ both_of test a b → Gives a x → Gives b y → Gives r (test x y)
tested-gives test r None b x y e h k = rw e tt
tested-gives test r (Some a) None x y e h k = rw e tt
tested-gives test r (Some a) (Some b) x y e h k = rw (e, h, k) refl

pub divided-gives : (r : Option Bool) (a : Option ℤ) (k x : ℤ) → r ≡ option_map (divides_number k) a → Gives a x → Gives r (divides_number k x)
divided-gives r None k x e h = rw e tt
divided-gives r (Some a) k x e h = rw (e, h) refl

pub ruleset value_steps = (sum-gives, difference-gives, negated-gives, scaled-gives, tested-gives, divided-gives)
