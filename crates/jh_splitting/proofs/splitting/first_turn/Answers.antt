use Rattle.std.proofs.Common.{◌∙◌, slice_get}
use Rattle.jh_arena.specs.table.Nodes.{nodes}
use Rattle.jh_splitting.proofs.Shapes.{truth-inside}
use Rattle.jh_splitting.proofs.Numberings.{least-turn}
use Rattle.jh_splitting.proofs.splitting.first_turn.Goals as goal

pub next_turn-requires : goal.next_turn-requires
next_turn-requires c = truth-inside (nodes c.args.table.now) c.args.node c.requires.there

pub returns-in-Ok : goal.returns-in-Ok
returns-in-Ok c = record {
  turn = c.next_turn.result;
  least = least-turn (slice_get (nodes c.args.table.now) c.args.node) c.next_turn.result c.requires.there c.next_turn.ensures;
  is = c.in-Ok.ensures.1 ∙ c.max-first.ensures;
}
