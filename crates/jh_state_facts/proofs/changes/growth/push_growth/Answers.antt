use Rattle.std.proofs.Common.{◌∙◌, ap, map, filter, subst, arith}
use Rattle.jh_arena.proofs.table.Listed.{extends-trans}
use Rattle.jh_command_terms.specs.jh_guard.Items.{is_of_objects}
use Rattle.jh_state_facts.specs.changes.Added.{AddsCommands, sorted_of, grew}
use Rattle.jh_state_facts.proofs.changes.AddedSteps.{adds-next, adds-all, grew-items}
use Rattle.jh_state_facts.proofs.changes.growth.push_growth.Goals as goal

pub loop-place-preserved : goal.loop-place-preserved
loop-place-preserved c = record {
  grows = extends-trans c.args.table.now c.loop-place.table c.push_grew.new.table c.loop-place.invariant.grows c.push_grew.ensures.grows;
  commands =
      adds-next (grew c.args.turn) sorted_of c.args.sets.now c.set_at.result c.loop-place.place c.loop-place.table c.push_grew.new.table c.args.commands.now.items c.loop-place.commands.items c.push_grew.new.commands.items
      c.set_at.ensures c.push_grew.ensures.grows c.loop-place.invariant.commands c.in_ok-push_grew.ensures.commands;
}

pub returns-clause-commands : goal.returns-clause-commands
returns-clause-commands c = λ xs e.
    subst (λ cs. AddsCommands c.loop-place.table c.args.commands.now.items c.loop-place.commands.items cs) (ap (map (grew c.args.turn)) e ∙ grew-items c.args.turn (filter is_of_objects xs))
    (adds-all (grew c.args.turn) sorted_of c.args.sets.now c.loop-place.place c.loop-place.table c.args.commands.now.items c.loop-place.commands.items (omega (arith, c.loop-place-test.false)) c.loop-place.invariant.commands)
