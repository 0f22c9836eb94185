-- A program with the node of the value of each of its formulas.
use Rattle.std.specs.Prelude.{◌≡◌, ◌<◌, ℕ, List, Some, length}
use Rattle.jh_ast.specs.declared.program.Program.{Program}
use Rattle.jh_ast.specs.declared.word.Word.{Word}
use Rattle.jh_ast.specs.Programs.{ProgramTree}
use Rattle.jh_arena.specs.table.Entries.{Listing}
use Rattle.jh_arena.specs.table.Nodes.{nodes}
use Rattle.jh_vars.specs.Opened.{opened}
use Rattle.jh_vars.specs.Reading.{IsFirstCyclic}
use Rattle.jh_unfolding.specs.unfolder.Adding.{place_of, value_of}
use Rattle.jh_unfolding.specs.declared.unfolder.faults.VarsError.{VarsError}
use Rattle.jh_unfolding.specs.declared.unfolder.faults.VarsError.TheVariants as e

-- a program, the nodes of a table, and the place of each formula's node among them
pub record Whole : Type 0 where
  pub program : Program
  pub listing : Listing
  pub places : List (ℕ × ℕ)

-- the nodes stand in the table, and each formula's value stands at its node
pub record AreOpened (p : ProgramTree) (l : Listing) (places : List (ℕ × ℕ)) : Type 0 where
  pub inside : (n k : ℕ) → place_of places n ≡ Some k → k < length (nodes l)
  pub is : (n : ℕ) → value_of (nodes l) places n ≡ opened p n

-- why a program isn't unfolded: its first cyclic variable, or want of memory
abbrev pub IsCause : ProgramTree → VarsError → Type 0
IsCause p (e.CyclicDef name) = (class : ℕ) × IsFirstCyclic p (record { class = class; name = name.text })
IsCause p e.Memory = Unit {0}

-- a fault names the variable of a word, or is want of memory
abbrev pub IsNamed : Word → VarsError → Type 0
IsNamed w (e.CyclicDef name) = name ≡ w.text
IsNamed w e.Memory = Unit {0}
