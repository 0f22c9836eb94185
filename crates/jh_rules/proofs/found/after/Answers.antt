use Rattle.std.proofs.Common.{refl}
use Rattle.jh_rules.proofs.Judgements.{finds-then}
use Rattle.jh_rules.proofs.found.after.Goals as goal

-- src/found.rt
pub returns : goal.returns
returns g c = λ a f x h e k. finds-then a f c.args.found c.args.rule _ x h e k refl c.lesser.ensures
