use Rattle.std.proofs.Common.{drop}
use Rattle.jh_arena.specs.table.Nodes.{nodes}
use Rattle.jh_open_branches.specs.Placed.{noted}
use Rattle.jh_deriv.specs.Replays.{AreBranches, bare_steps, open_at}
use Rattle.jh_deriv.proofs.Following.{Led}
use Rattle.jh_deriv.proofs.replaying.first_failure.Given as goal

abbrev pub invariant-loop-index : goal.invariant-loop-index
invariant-loop-index l = record {
  branches : AreBranches (nodes l.table) l.branches.facts.facts.items (noted l.branches.facts.places) l.branches.waiting.items;
  led : Led (open_at (nodes l.fn.table) l.fn.branches.facts.facts.items l.fn.branches.waiting.items) (bare_steps l.steps) (open_at (nodes l.table) l.branches.facts.facts.items l.branches.waiting.items) (bare_steps (drop l.index l.steps)) l.index;
}
