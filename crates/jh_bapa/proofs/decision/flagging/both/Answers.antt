use Rattle.jh_bapa.proofs.decision.Choosing.{both-yes, both-no}
use Rattle.jh_bapa.proofs.decision.flagging.both.Goals as goal

pub returns : goal.returns
returns c = λ i p q f g. (both-yes c.args.left c.args.right i p q f g, both-no c.args.left c.args.right i p q f g)
