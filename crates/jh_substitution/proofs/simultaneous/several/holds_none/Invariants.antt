use Rattle.std.proofs.Common.{◌≡◌, ◌<◌, true, drop, slice_get}
use Rattle.jh_form.specs.Passing.{value_passes}
use Rattle.jh_arena.specs.table.Entries.{the_value}
use Rattle.jh_arena.specs.table.Nodes.{nodes}
use Rattle.jh_substitution.specs.simultaneous.Pairs.{pairs_in}
use Rattle.jh_substitution.specs.simultaneous.Several.{none_of}
use Rattle.jh_substitution.proofs.simultaneous.several.holds_none.Given as goal

-- none of the first names stands in the node
abbrev pub invariant-loop-index : goal.invariant-loop-index
invariant-loop-index l = record {
  rest : value_passes (the_value (slice_get (nodes l.table) l.node)) (λ y s. none_of (pairs_in l.table (drop l.index l.pairs)) y) ≡ true → value_passes (the_value (slice_get (nodes l.table) l.node)) (λ y s. none_of (pairs_in l.table l.pairs) y) ≡ true;
  some : 0 < l.index → value_passes (the_value (slice_get (nodes l.table) l.node)) (λ y s. true) ≡ true;
}
