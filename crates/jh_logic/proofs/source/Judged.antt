-- What is known of a part in which nothing is wrong.
use Rattle.std.proofs.Common.{◌≡◌, refl, sym, ap, ◌∙◌, ℕ, Bool, true, false, List, [], ◌∷◌, Some, None}
use Rattle.std.specs.Option.{option_map_or}
use Rattle.jh_name.specs.declared.place.Place.{Place}
use Rattle.jh_rules.specs.declared.fault.Fault.{Fault}
use Rattle.jh_rules.specs.Faults.{Judged, fault, broken, needs, needs_none, both, pair_of, ◌>>=◌}
use Rattle.jh_logic.proofs.source.Lists.{more-not-empty, left-empty, right-empty}

-- nothing is wrong in a part, and it is known
pub record IsRight {T : Type 0} (j : Judged T) (x : T) : Type 0 where
  pub faultless : j.faults ≡ []
  pub known : j.known ≡ Some x

pub not-broken : (rule : ℕ) (place : Place) (test : Bool) → broken rule place test ≡ [] → test ≡ false
not-broken rule place true e = absurd (more-not-empty (fault rule place) [] e)
not-broken rule place false e = refl

pub met : {T : Type 0} (test : Bool) (rule : ℕ) (place : Place) (x : T) → (needs test rule place x).faults ≡ [] → test ≡ true
met true rule place x e = refl
met false rule place x e = absurd (more-not-empty (fault rule place) [] e)

-- then the value is the one that was to be given
pub met-known : {T : Type 0} (test : Bool) (rule : ℕ) (place : Place) (x : T) → (needs test rule place x).faults ≡ [] → (needs test rule place x).known ≡ Some x
met-known true rule place x e = refl
met-known false rule place x e = absurd (more-not-empty (fault rule place) [] e)

pub none-known : (fs : List Fault) → (needs_none fs).faults ≡ [] → fs ≡ []
none-known [] e = refl
none-known (x ∷ xs) e = absurd (more-not-empty x xs e)

module _ {A B : Type 0} where
  -- what is asked of a part that is known
  pub then-first : (a : Judged A) (f : A → Judged B) → (a >>= f).faults ≡ [] → a.faults ≡ []
  then-first a f e = left-empty a.faults (option_map_or (λ x. (f x).faults) a.known []) e

  pub then-next : (a : Judged A) (f : A → Judged B) (x : A) → (a >>= f).faults ≡ [] → a.known ≡ Some x → (f x).faults ≡ []
  then-next a f x e k = ap (λ o. option_map_or (λ x. (f x).faults) o []) (sym k) ∙ right-empty a.faults (option_map_or (λ x. (f x).faults) a.known []) e

  pub then-known : (a : Judged A) (f : A → Judged B) (x : A) → a.known ≡ Some x → (a >>= f).known ≡ (f x).known
  then-known a f x k = ap (λ o. option_map_or (λ x. (f x).known) o None) k

  pub both-known : (a : Judged A) (b : Judged B) (x : A) (y : B) → a.known ≡ Some x → b.known ≡ Some y → (both a b).known ≡ Some (x, y)
  both-known a b x y e f = (λ i. pair_of (e i) (f i))
