use Rattle.std.proofs.Common.{◌≡◌, ℕ, List, Some, length}
use Rattle.jh_arena.specs.table.Growth.{Extends}
use Rattle.jh_arena.specs.table.Nodes.{nodes}
use Rattle.jh_resolution.specs.Meant.{AreHeld}
use Rattle.jh_symbols.specs.member_numbers.Numbering.{number_in}
use Rattle.jh_definitions.specs.expansion.Opening.{source_of, IsAmong}
use Rattle.jh_definitions.proofs.expansion.Steps.{MeantBelow}
use Rattle.jh_definitions.proofs.expansion.opening.opened.Given as goal

abbrev pub invariant-loop-definition : goal.invariant-loop-definition
invariant-loop-definition l = record {
  grows : Extends l.fn.table l.table;
  held : AreHeld (nodes l.table) l.made;
  only : (c : ℕ) (x : List ℕ) (n : ℕ) → number_in l.made c x ≡ Some n → IsAmong l.definitions c x;
  count : length l.made.maps.items ≡ length l.classes;
  known : MeantBelow (source_of l.classes) (nodes l.table) l.made l.definitions l.definition-index;
}
