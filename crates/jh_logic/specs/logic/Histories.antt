-- What the names of formulas say along a command: at turn 0 what they are now, at turn 1 what they were at the method's entry, and beyond
-- what a third interpretation says of them. A history fixes what it says of the turns that were used.
use Rattle.std.specs.Prelude.{◌≡◌, ◌<◌, ℕ, zero, suc}
use Rattle.jh_name.specs.declared.naming.Name.{Name}
use Rattle.jh_form.specs.Meaning.{Interp, InUniverse}
use Rattle.jh_boxed_operations.specs.comparison.Inside.{SameMembers, SameFields}
use Rattle.jh_vars.specs.Resolved.{own}
use Rattle.jh_semantics.specs.State.{State}

abbrev pub by_turns : {X : Type 0} → ℕ → X → X → X → X
by_turns zero now old other = now
by_turns (suc zero) now old other = old
by_turns (suc (suc k)) now old other = other

abbrev pub viewed : State → State → Interp → Interp
viewed now old other = record {
  last = now.last;
  object = λ x. by_turns x.turn (now.object x) (old.object (own x.text 0)) (other.object x);
  number = λ x. by_turns x.turn (now.number x) (old.number (own x.text 0)) (other.number x);
  truth = λ x. by_turns x.turn (now.truth x) (old.truth (own x.text 0)) (other.truth x);
  set = λ x. by_turns x.turn (now.set x) (old.set (own x.text 0)) (other.set x);
  field = λ x. by_turns x.turn (now.field x) (old.field (own x.text 0)) (other.field x);
}

-- one interpretation says of a name what another says of one, at each sort
pub record Gives (m : Interp) (y : Name) (r : Interp) (x : Name) : Type 0 where
  pub object : m.object y ≡ r.object x
  pub number : m.number y ≡ r.number x
  pub truth : m.truth y ≡ r.truth x
  pub set : m.set y ≡ r.set x
  pub field : m.field y ≡ r.field x

-- the second says of names before turn t what the first says
abbrev pub Below : ℕ → Interp → Interp → Type 0
Below t h m = (z : Name) → z.turn < t → Gives m z h z

-- the objects that names and fields give are those from 0 to n
pub record Inner (n : ℕ) (m : Interp) : Type 0 where
  pub object : (x : Name) → m.object x < suc n
  pub field : (x : Name) (a : ℕ) → a < suc n → (m.field x).objects a < suc n

-- A predicate holds of two states where it holds of what they say with any interpretation that agrees with the history.
abbrev pub Holds : ℕ → ℕ → Interp → State → State → (Interp → Type 0) → Type 0
Holds n t h s o P = (m : Interp) → Inner n m → Below t h m → P (viewed s o m)

-- Two interpretations say the same of a universe: sets have the same members in it.
pub record Alike (m w : Interp) : Type 0 where
  pub last : m.last ≡ w.last
  pub object : (x : Name) → m.object x ≡ w.object x
  pub number : (x : Name) → m.number x ≡ w.number x
  pub truth : (x : Name) → m.truth x ≡ w.truth x
  pub set : (x : Name) → SameMembers m.last (m.set x) (w.set x)
  pub field : (x : Name) → SameFields m.last (m.field x) (w.field x)

-- a predicate that can't tell them apart
abbrev pub Respects : (Interp → Type 0) → Type 0
Respects P = (m w : Interp) → InUniverse m → Alike m w → P m → P w
