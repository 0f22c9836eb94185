use Rattle.std.proofs.Common.{ap, sym, ◌∙◌, ◌++◌, Some, map, arith}
use Rattle.jh_ast.specs.Bare.{class_part}
use Rattle.jh_vars.specs.state_names.States.{class_sets, set_state}
use Rattle.jh_vars.proofs.state_names.Lists.{sets-step, sets-end}
use Rattle.jh_vars.proofs.state_names.listing.push_sets.Goals as goal

-- src/listing.rt
pub loop-number-preserved : goal.loop-number-preserved
loop-number-preserved c =
    sets-step c.args.classes.now c.loop-number.number c.loop-number.list.items c.push.new.self.items (c.args.list.now.items ++ class_sets 0 (map class_part c.args.classes.now)) c.index-classes-number.result c.in_ok-state.state c.loop-number-test.true c.index-classes-number.is
    (c.in_ok-state.ensures ∙ ap (λ x. set_state x (Some c.loop-number.number)) (c.text.ensures ∙ ap (λ k. k.name.text.text) (sym c.index-classes-number.is))) c.in_ok-push.ensures.items c.loop-number.invariant

-- src/listing.rt
pub returns : goal.returns
returns c =
    sets-end c.args.classes.now c.loop-number.number c.loop-number.list.items c.push-2.new.self.items (c.args.list.now.items ++ class_sets 0 (map class_part c.args.classes.now)) c.in_ok-plain.plain (omega arith) c.in_ok-plain.ensures c.in_ok-push-2.ensures.items c.loop-number.invariant
