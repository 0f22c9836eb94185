use Rattle.std.proofs.Common.{refl}
use Rattle.jh_arena.specs.table.Nodes.{nodes}
use Rattle.jh_deriv.proofs.Turning.{alone-other}
use Rattle.jh_deriv.proofs.suiting.suits.Goals as goal

pub returns-in_default : goal.returns-in_default
returns-in_default c = (λ h. alone-other (nodes c.args.table.now) c.args.step c.in_default.not-Reflexive c.in_default.not-Replacing, λ h. refl)
