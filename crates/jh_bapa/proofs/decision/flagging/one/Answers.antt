use Rattle.jh_bapa.proofs.decision.Choosing.{one-yes, one-no}
use Rattle.jh_bapa.proofs.decision.flagging.one.Goals as goal

pub returns : goal.returns
returns c = λ i p q f g. (one-yes c.args.left c.args.right i p q f g, one-no c.args.left c.args.right i p q f g)
