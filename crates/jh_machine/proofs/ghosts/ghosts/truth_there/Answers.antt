use Rattle.std.proofs.Common.{slice_get}
use Rattle.jh_form.specs.Tree.{of_truth}
use Rattle.jh_arena.specs.table.Entries.{the_truth}
use Rattle.jh_arena.specs.table.Nodes.{nodes}
use Rattle.jh_sem.specs.Wide.{IsWide}
use Rattle.jh_store.specs.state_pairs.Seen.{seen}
use Rattle.jh_machine.proofs.ghosts.NodeSteps.{stop_as}
use Rattle.jh_machine.proofs.ghosts.ghosts.truth_there.Goals as goal

pub returns-in-Err-clause-stop : goal.returns-in-Err-clause-stop
returns-in-Err-clause-stop c =
    stop_as c.args.place c.in-Err.error c.stop_at.result (IsWide (seen c.args.moment.now) (of_truth (the_truth (slice_get (nodes c.args.moment.now.table.now) c.args.node)))) c.stop_at.ensures c.in-Err.ensures.wide
