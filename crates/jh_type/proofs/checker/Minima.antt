-- The least fault of a list is in it, and no other is less.
use Rattle.std.proofs.Common.{◌≡◌, refl, sym, ap, subst, ◌∙◌, ℕ, zero, suc, ◌<◌, Bool, true, false, List, [], ◌∷◌, length, Option, Some, None, is_some, arith, if◌then◌else◌}
use Rattle.std.specs.List.{Contains, slice_index_or}
use Rattle.std.specs.Option.{option_map_or}
use Rattle.std.proofs.lemmas.Bool.{true≢false}
use Rattle.std.proofs.lemmas.Bool.Decides.{nat_tests}
use Rattle.jh_ast.specs.Programs.{ProgramTree}
use Rattle.jh_rules.specs.declared.fault.Fault.{Fault}
use Rattle.jh_rules.specs.Found.{least, lesser, is_less}
use Rattle.jh_rules.specs.Breaks.{faults_of}
use Rattle.jh_type.specs.checker.Refused.{IsLeastFault}

not-self : (x : Fault) → is_less x x ≡ false
unfolding is_less
not-self x = grind (arith, nat_tests)

not-back : (x y : Fault) → is_less x y ≡ true → is_less y x ≡ false
unfolding is_less
not-back x y e = grind (arith, nat_tests)

not-trans : (x y z : Fault) → is_less x y ≡ false → is_less y z ≡ false → is_less x z ≡ false
unfolding is_less
not-trans x y z a b = grind (arith, nat_tests)

lesser-some : (x y : Fault) (b : Bool) → is_some (if b then Some y else Some x) ≡ true
lesser-some x y true = refl
lesser-some x y false = refl

is-there : (x : Fault) (o : Option Fault) → is_some (lesser (Some x) o) ≡ true
is-there x None = refl
is-there x (Some y) = lesser-some x y (is_less y x)

pub least-none : (xs : List Fault) → least xs ≡ None → xs ≡ []
unfolding least
least-none [] e = refl
least-none (x ∷ xs) e = absurd (true≢false (sym (is-there x (least xs)) ∙ ap is_some e))

abbrev or_self : Fault → Option Fault → Fault
or_self d o = option_map_or (λ x. x) o d

some-same : (x y : Fault) → Some x ≡ Some y → x ≡ y
some-same x y e = ap (or_self x) e

-- what is least is in the list, and none in it is less
pub record Least (xs : List Fault) (x : Fault) : Type 0 where
  pub inside : Contains xs x
  pub below : (y : Fault) → Contains xs y → is_less y x ≡ false

here : (x y : Fault) (xs : List Fault) → y ≡ x → Contains (y ∷ xs) x
here x y xs e = (0, omega arith, e)

there : (x y : Fault) (xs : List Fault) → Contains xs x → Contains (y ∷ xs) x
there x y xs h = (suc h.0, omega arith, h.2)

below-first : (y x : Fault) (xs : List Fault) → is_less y x ≡ false → ((u : Fault) → Contains xs u → is_less u x ≡ false) → (k : ℕ) (u : Fault) → k < length (y ∷ xs) → slice_index_or (y ∷ xs) k u ≡ u → is_less u x ≡ false
below-first y x xs a b zero u lt e = ap (λ v. is_less v x) (sym e) ∙ a
below-first y x xs a b (suc k) u lt e = b u (k, omega arith, e)

picked : (y z x : Fault) (xs : List Fault) (b : Bool) → is_less z y ≡ b → (if b then Some z else Some y) ≡ Some x → Least xs z → Least (y ∷ xs) x
picked y z x xs true e h l =
    let same : z ≡ x = some-same z x h in
    subst (Least (y ∷ xs)) same (record { inside = there z y xs l.inside; below = λ u c. below-first y z xs (not-back z y e) l.below c.0 u c.1 c.2 })
picked y z x xs false e h l =
    let same : y ≡ x = some-same y x h in
    subst (Least (y ∷ xs)) same (record { inside = here y y xs refl; below = λ u c. below-first y y xs (not-self y) (λ v d. not-trans v z y (l.below v d) e) c.0 u c.1 c.2 })

none-inside : (u : Fault) → Contains [] u → ⊥
none-inside u c = omega arith

at-least : (y x : Fault) (xs : List Fault) (o : Option Fault) → least xs ≡ o → lesser (Some y) o ≡ Some x → ((z : Fault) → least xs ≡ Some z → Least xs z) → Least (y ∷ xs) x
at-least y x xs None e h ih =
    let same : y ≡ x = some-same y x h in
    subst (Least (y ∷ xs)) same (record { inside = here y y xs refl; below = λ u c. below-first y y xs (not-self y) (λ v d. absurd (none-inside v (subst (λ zs. Contains zs v) (least-none xs e) d))) c.0 u c.1 c.2 })
at-least y x xs (Some z) e h ih = picked y z x xs (is_less z y) refl h (ih z e)

pub least-is : (xs : List Fault) (x : Fault) → least xs ≡ Some x → Least xs x
unfolding least
least-is [] x e = absurd (true≢false (sym (ap is_some e)))
least-is (y ∷ xs) x e = at-least y x xs (least xs) refl e (λ z h. least-is xs z h)

pub least-fault : (p : ProgramTree) (x : Fault) → Some x ≡ least (faults_of p) → IsLeastFault p x
least-fault p x e =
    let l = least-is (faults_of p) x (sym e) in
    record { breaks = l.inside; least = l.below }

pub none-broken : (xs : List Fault) → xs ≡ [] → (x : Fault) → Contains xs x → ⊥
none-broken xs e x c = none-inside x (subst (λ ys. Contains ys x) e c)
