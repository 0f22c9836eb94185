use Rattle.std.proofs.Common.{◌≡◌, length}
use Rattle.jh_arena.specs.table.Nodes.{nodes}
use Rattle.jh_cong.specs.flattening.Plain.{AreBehind, AreMade}
use Rattle.jh_cong.proofs.flattening.flattening.fill.Given as goal

abbrev pub invariant-loop-number : goal.invariant-loop-number
invariant-loop-number l = record {
  made : AreMade l.table l.made.items l.helpers.items;
  count : length l.made.items ≡ l.number;
  behind : AreBehind (length (nodes l.table)) l.helpers.items;
}
