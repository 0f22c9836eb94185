use Rattle.std.proofs.Common.{slice_get}
use Rattle.jh_form.specs.Tree.{of_set}
use Rattle.jh_arena.specs.table.Entries.{the_set}
use Rattle.jh_arena.specs.table.Nodes.{nodes}
use Rattle.jh_sem.specs.Wide.{IsWide}
use Rattle.jh_store.specs.memory.Held.{state_in}
use Rattle.jh_store.specs.state_pairs.Seen.{seen}
use Rattle.jh_machine.proofs.ghosts.NodeSteps.{stop_as}
use Rattle.jh_machine.proofs.ghosts.ghosts.node_has.Goals as goal

pub member_of_node-requires-clause-object : goal.member_of_node-requires-clause-object
unfolding state_in
member_of_node-requires-clause-object c = c.requires.object

pub returns-in-Err-clause-stop : goal.returns-in-Err-clause-stop
returns-in-Err-clause-stop c =
    stop_as c.args.place c.in-Err.error c.stop_at.result (IsWide (seen c.args.moment.now) (of_set (the_set (slice_get (nodes c.args.moment.now.table.now) c.args.node)))) c.stop_at.ensures c.in-Err.ensures.wide
