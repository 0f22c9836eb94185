use Rattle.std.proofs.Common.{◌+◌, ◌*◌, take}
use Rattle.jh_arena.specs.table.Growth.{Extends}
use Rattle.jh_arena.specs.table.Parts.{parts}
use Rattle.jh_substitution.specs.opening.Openings.{AreOpened}
use Rattle.jh_substitution.proofs.opening.walking.+put.Given as goal

-- the parts of a node have smaller numbers
abbrev pub decreases-put : goal.decreases-put
decreases-put l = 4 * l.node + 3

abbrev pub decreases-put_inner : goal.decreases-put_inner
decreases-put_inner l = 4 * l.node + 2

abbrev pub decreases-put_single : goal.decreases-put_single
decreases-put_single l = 4 * l.node + 1

abbrev pub decreases-put_both : goal.decreases-put_both
decreases-put_both l = 4 * l.node + 1

abbrev pub decreases-put_each : goal.decreases-put_each
decreases-put_each l = 4 * l.node + 1

abbrev pub decreases-put_part : goal.decreases-put_part
decreases-put_part l = 4 * l.node

-- the answers so far are those of the first parts
abbrev pub invariant-put_each-loop-index : goal.invariant-put_each-loop-index
invariant-put_each-loop-index l = record {
  grows : Extends l.initial.table l.table;
  answers : AreOpened l.table l.with l.below (take l.index (parts l.initial.table.pools.lists l.shape)) l.answers.items;
}
