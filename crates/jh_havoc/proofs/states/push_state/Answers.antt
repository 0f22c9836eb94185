use Rattle.jh_form.specs.Tree.{of_truth}
use Rattle.jh_arena.proofs.table.Listed.{extends-trans}
use Rattle.jh_state_facts.proofs.changes.AddedSteps.{adds-two}
use Rattle.jh_havoc.proofs.StopSteps.{truth-stays}
use Rattle.jh_havoc.proofs.states.push_state.Goals as goal

pub assume_named-requires : goal.assume_named-requires
assume_named-requires c = truth-stays c.args.table.now c.push_changed.new.table c.args.well_formed c.requires c.push_changed.ensures.grows

pub returns-clause-commands : goal.returns-clause-commands
returns-clause-commands c =
    let t1 = c.push_changed.new.table in
    let t2 = c.assume_named.new.table in
    let t3 = c.push_growth.new.table in
    λ wf xs at sets.
    adds-two t1 t3 c.args.commands.now.items c.push_changed.new.commands.items c.push_growth.new.commands.items _ _ c.in_ok-next.ensures.commands (extends-trans t1 t2 t3 c.assume_named.ensures.grows c.push_growth.ensures.grows)
    (adds-two t2 t3 c.push_changed.new.commands.items c.assume_named.new.commands.items c.push_growth.new.commands.items _ _ (c.in_ok-assume_named.ensures.commands wf (c.push_changed.ensures.grows.nodes.keeps c.args.well_formed (of_truth wf) at)) c.push_growth.ensures.grows (c.in_ok-push_growth.ensures.commands xs sets))
