use Rattle.std.proofs.Common.{drop}
use Rattle.jh_arena.specs.table.Growth.{Extends}
use Rattle.jh_resolution.specs.Spots.{fields_in}
use Rattle.jh_resolution.proofs.Loops.{Making}
use Rattle.jh_resolution.proofs.fields.field_nodes.Given as goal

abbrev pub invariant-loop-word : goal.invariant-loop-word
invariant-loop-word l = record {
  grows : Extends l.fn.table l.table;
  making : Making l.table l.made.items (fields_in l.context l.at (drop l.word-index l.words)) (fields_in l.context l.at l.words);
}
