use Rattle.std.proofs.Common.{◌≡◌, ◌-◌, map, length, ℕ, List}
use Rattle.indexmap.specs.IndexMap.{get_by_text}
use Rattle.jh_ast.specs.Programs.{ProgramTree}
use Rattle.jh_ast.specs.Bare.{class_part}
use Rattle.jh_rules.specs.Names.{number_of, states_from}
use Rattle.jh_symbols.specs.declarations.Entries.{AreTables}
use Rattle.jh_symbols.specs.declarations.States.{first_of, last_of}
use Rattle.jh_symbols.proofs.declarations.Reversals.{behind}
use Rattle.jh_symbols.proofs.declarations.states.put_states.Given as goal

-- the tables say what the classes behind have
abbrev pub invariant-loop-back : goal.invariant-loop-back
invariant-loop-back l = record {
  firsts : (p : ProgramTree) → AreTables (number_of p) 0 l.tables (map class_part l.classes) → (x : List ℕ) → get_by_text l.firsts x ≡ first_of (states_from p (length l.classes - l.back) x (map class_part (behind l.classes l.back)));
  lasts : (p : ProgramTree) → AreTables (number_of p) 0 l.tables (map class_part l.classes) → (x : List ℕ) → get_by_text l.lasts x ≡ last_of (states_from p (length l.classes - l.back) x (map class_part (behind l.classes l.back)));
}
