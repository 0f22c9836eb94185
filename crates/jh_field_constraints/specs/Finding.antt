-- What the steps over the facts of a sequent come to.
use Rattle.std.specs.Prelude.{◌≡◌, ◌++◌, ◌+◌, List, if◌then◌else◌, take, drop, Option, None, Some}
use Rattle.jh_name.specs.declared.naming.Name.{Name}
use Rattle.jh_arena.specs.table.Entries.{Listing}
use Rattle.jh_seq.specs.sequent.Sequents.{HypTree}
use Rattle.jh_fca.specs.elimination.Constraints.{Constraint}
use Rattle.jh_fca.specs.elimination.Derived.{is_of, first_for, without_first}
use Rattle.jh_field_constraints.specs.declared.stepping.Found.{Found}
use Rattle.jh_field_constraints.specs.Standing.{IsConstraint}

-- a constraint, where it is one of this field
abbrev pub kept : Name → Option Constraint → Option Constraint
kept f o = if is_of f o then o else None

-- The first hypothesis that constrains a field stands at this place, and what constrains it is this.
pub record IsAtPlace (t : Listing) (found : Found) (f : Name) (hs : List HypTree) (c : Constraint) : Type 0 where
  pub named : c.field ≡ f
  pub first : first_for f hs ≡ Some c
  pub of : IsConstraint t found.of c
  pub others : without_first f hs ≡ take found.place hs ++ drop (found.place + 1) hs

unfoldable pub IsFound : Listing → Option Found → Name → List HypTree → Type 0
IsFound t None f hs = first_for f hs ≡ None
IsFound t (Some found) f hs = (c : Constraint) × IsAtPlace t found f hs c
