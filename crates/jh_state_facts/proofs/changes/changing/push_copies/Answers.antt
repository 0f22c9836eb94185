use Rattle.jh_arena.proofs.table.Listed.{extends-trans}
use Rattle.jh_command_terms.specs.jh_wp.Command as w
use Rattle.jh_semantics.specs.State.{named}
use Rattle.jh_command_terms.specs.jh_guard.Items.{Sorted, free_of}
use Rattle.jh_command_terms.specs.jh_guard.Steps.{fresh}
use Rattle.jh_state_facts.specs.changes.Added.{sorted_of}
use Rattle.jh_state_facts.proofs.changes.AddedSteps.{adds-next}
use Rattle.jh_state_facts.proofs.changes.changing.push_copies.Goals as goal

pub loop-place-preserved : goal.loop-place-preserved
loop-place-preserved c = record {
  grows = extends-trans c.args.table.now c.loop-place.table c.push_copy.new.table c.loop-place.invariant.grows c.push_copy.ensures.grows;
  commands =
      adds-next (λ (x : Sorted). w.assign (fresh x.text c.args.turn) (free_of x.sort (named x.text))) sorted_of c.args.names.now c.name_at.result c.loop-place.place c.loop-place.table c.push_copy.new.table c.args.commands.now.items c.loop-place.commands.items c.push_copy.new.commands.items
      c.name_at.ensures c.push_copy.ensures.grows c.loop-place.invariant.commands c.in_ok-push_copy.ensures.commands;
}
