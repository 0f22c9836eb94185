use Rattle.std.proofs.Common.{◌++◌, map, arith}
use Rattle.jh_ast.specs.Bare.{class_part}
use Rattle.jh_vars.specs.state_names.States.{members}
use Rattle.jh_vars.proofs.state_names.Lists.{members-step, members-end}
use Rattle.jh_vars.proofs.state_names.listing.push_classes.Goals as goal

-- src/listing.rt
pub loop-number-preserved : goal.loop-number-preserved
loop-number-preserved c =
    members-step c.args.classes.now c.loop-number.number c.loop-number.list.items c.push_class.new.list.items (c.args.list.now.items ++ members 0 (map class_part c.args.classes.now)) c.index-classes-number.result c.loop-number-test.true c.index-classes-number.is
    c.in_ok-push_class.ensures c.loop-number.invariant

-- src/listing.rt
pub returns : goal.returns
returns c =
    members-end c.args.classes.now c.loop-number.number c.loop-number.list.items (c.args.list.now.items ++ members 0 (map class_part c.args.classes.now)) (omega arith) c.loop-number.invariant
