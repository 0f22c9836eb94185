use Rattle.std.proofs.Common.{refl}
use Rattle.jh_method_commands.proofs.commands.ScopeSteps.{declares-new}
use Rattle.jh_method_commands.proofs.commands.scope.declare_target.Goals as goal

pub returns-in_ok-push-in-New-clause-locals : goal.returns-in_ok-push-in-New-clause-locals
returns-in_ok-push-in-New-clause-locals c = declares-new c.args.scope.now.items c.push.new.self.items _ c.in-New.local c.args.target.now c.in_ok-push-in-New.ensures.items c.text.ensures refl c.in-New.is
