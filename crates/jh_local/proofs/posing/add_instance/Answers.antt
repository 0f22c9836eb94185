use Rattle.std.proofs.Common.{◌∙◌, sym}
use Rattle.jh_arena.specs.table.Nodes.{nodes}
use Rattle.jh_inst.specs.instances.Instances.{is_ground}
use Rattle.jh_local.proofs.Made.{instance-more, truths-more}
use Rattle.jh_local.proofs.posing.add_instance.Goals as goal

pub returns-in_ok-push-clause-truths : goal.returns-in_ok-push-clause-truths
returns-in_ok-push-clause-truths c =
    truths-more (nodes c.args.table.now) c.args.instances.now.items c.push.new.self.items c.args.formula c.in_ok-push.ensures.items c.requires.there c.requires.truths

pub returns-in_ok-push-clause-instances : goal.returns-in_ok-push-clause-instances
returns-in_ok-push-clause-instances c = λ a f.
    instance-more (nodes c.args.table.now) c.args.instances.now.items c.push.new.self.items c.args.formula a c.in_ok-push.ensures.items f (is_ground a) (sym (c.is_ground.ensures a f) ∙ c.if-is_ground.true)
