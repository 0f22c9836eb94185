-- States. A state gives each name of a program its value: the sets `alloc`, those of the classes, the statics, the fields, ghost
-- variables among them, the parameters and locals, and `this`. So it is an interpretation of the names at turn 0; what it gives to
-- other names plays no part.
use Rattle.std.specs.Prelude.{◌≡◌, ◌<◌, ℕ, zero, suc, ◌&&◌, nat_lt, true, codes}
use Rattle.jh_name.specs.declared.naming.Name.{Name}
use Rattle.jh_form.specs.Meaning.{Interp, InUniverse, Datum, a_set, a_field, updated}
use Rattle.jh_form.specs.Assigned.{assigned}
use Rattle.jh_vars.specs.Resolved.{own}
use Rattle.jh_semantics.specs.Code.{Text}

abbrev pub State : Type 0
State = Interp

abbrev pub named : Text → Name
named x = own x 0

abbrev pub this_name : Name
this_name = named (codes "this")

-- the set of all objects that there are
abbrev pub alloc_name : Name
alloc_name = named (codes "alloc")

abbrev pub result_name : Name
result_name = named (codes "result")

-- A state of the objects 0 to `last`, where nothing else is in it: each object that a name or a field has is one of them, and so is
-- each member of a set.
pub record IsWhole (s : State) : Type 0 where
  pub objects : InUniverse s
  pub sets : (x : Name) (a : ℕ) → s.set x a ≡ true → a < suc s.last
  pub members : (x : Name) (a b : ℕ) → a < suc s.last → (s.field x).sets a b ≡ true → b < suc s.last

-- what a state holds of a value: of a set the members that are objects of its universe
abbrev pub held : State → Datum → Datum
held s (a_set test) = a_set (λ a. nat_lt a (suc s.last) && test a)
held s d = d

-- the state in which a name has a value; a whole field is no value of a name
abbrev pub stored : State → Text → Datum → State
stored s x (a_field f) = s
stored s x d = assigned s (named x) (held s d)

-- the state in which a field has a value at an object
abbrev pub stored_at : State → Text → ℕ → Datum → State
stored_at s f a d = assigned s (named f) (a_field (updated (s.field (named f)) a (held s d)))

-- of turn 0 what is now, of another turn what was at entry
abbrev pub by_turn : {X : Type 0} → ℕ → X → X → X
by_turn zero now old = now
by_turn (suc k) now old = old

-- What the names of formulas say in a state, with that at a method's entry for `old`: the names under `old` have turn 1.
abbrev pub shown : State → State → Interp
shown now old = record {
  last = now.last;
  object = λ x. by_turn x.turn (now.object x) (old.object (own x.text 0));
  number = λ x. by_turn x.turn (now.number x) (old.number (own x.text 0));
  truth = λ x. by_turn x.turn (now.truth x) (old.truth (own x.text 0));
  set = λ x. by_turn x.turn (now.set x) (old.set (own x.text 0));
  field = λ x. by_turn x.turn (now.field x) (old.field (own x.text 0));
}
