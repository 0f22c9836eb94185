use Rattle.jh_rules.proofs.Judgements.{finds-both}
use Rattle.jh_rules.proofs.found.both.Goals as goal

-- src/found.rt
pub returns : goal.returns
returns g c = λ a b h k. finds-both a b c.args.left c.args.right _ h k c.pair_of.ensures c.lesser.ensures
