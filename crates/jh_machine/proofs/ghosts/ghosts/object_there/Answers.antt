use Rattle.std.proofs.Common.{◌≡◌, slice_get}
use Rattle.std.proofs.lemmas.Result.{IfErr-weaker}
use Rattle.jh_form.specs.Tree.{of_object}
use Rattle.jh_arena.specs.table.Entries.{the_object}
use Rattle.jh_arena.specs.table.Nodes.{nodes}
use Rattle.jh_sem.specs.Wide.{IsWide}
use Rattle.jh_store.specs.state_pairs.Seen.{seen}
use Rattle.jh_machine.specs.declared.continuation.stop.Stop.TheVariants as s
use Rattle.jh_machine.specs.continuation.Formulas.{OverflowsOnly}
use Rattle.jh_machine.proofs.ghosts.NodeSteps.{stop_as, memory_only}
use Rattle.jh_machine.proofs.ghosts.ghosts.object_there.Goals as goal

pub returns-in-Ok-clause-stop : goal.returns-in-Ok-clause-stop
returns-in-Ok-clause-stop c =
    let wide = IsWide (seen c.args.moment.now) (of_object (the_object (slice_get (nodes c.args.moment.now.table.now) c.args.node))) in
    IfErr-weaker c.inside.result (λ why. why ≡ s.Memory) (OverflowsOnly c.args.place wide) (λ why h. memory_only c.args.place wide why h) c.inside.ensures.stop

pub returns-in-Err-clause-stop : goal.returns-in-Err-clause-stop
returns-in-Err-clause-stop c =
    stop_as c.args.place c.in-Err.error c.stop_at.result (IsWide (seen c.args.moment.now) (of_object (the_object (slice_get (nodes c.args.moment.now.table.now) c.args.node)))) c.stop_at.ensures c.in-Err.ensures.wide
