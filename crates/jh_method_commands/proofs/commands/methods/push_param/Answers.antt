use Rattle.std.proofs.Common.{refl}
use Rattle.jh_method_commands.proofs.commands.MethodSteps.{known-pushed}
use Rattle.jh_method_commands.proofs.commands.methods.push_param.Goals as goal

pub returns : goal.returns
returns c = known-pushed c.args.scope.now.items c.push.new.self.items _ c.args.param.now c.in_ok-push.ensures.items c.text.ensures refl
