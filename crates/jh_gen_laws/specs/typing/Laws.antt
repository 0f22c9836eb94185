-- That a program which a made source spells breaks no type rule, and has no cyclic variable.
use Rattle.std.specs.Prelude.{ℕ, ◌≤◌}
use Rattle.jh_name.specs.declared.place.Place.{Place}
use Rattle.jh_ast.specs.Programs.{ProgramTree}
use Rattle.jh_rules.specs.Breaks.{Breaks}
use Rattle.jh_vars.specs.Reading.{IsAcyclic}
use Rattle.jh_gen_laws.specs.typing.Trees.{IsMade}

abbrev pub MadeIsTyped : Type 0
MadeIsTyped = (n : ℕ) (p : ProgramTree) → n ≤ 200 → IsMade n p → (rule : ℕ) (place : Place) → Breaks p rule place → ⊥

abbrev pub MadeIsAcyclic : Type 0
MadeIsAcyclic = (n : ℕ) (p : ProgramTree) → IsMade n p → IsAcyclic p
