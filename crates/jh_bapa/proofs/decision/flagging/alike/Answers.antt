use Rattle.std.proofs.Common.{not, ◌&&◌, subst}
use Rattle.jh_bapa.specs.decision.Choices.{Allows}
use Rattle.jh_bapa.proofs.decision.Choosing.{agree-is}
use Rattle.jh_bapa.proofs.decision.flagging.alike.Goals as goal

pub returns : goal.returns
returns c = λ i p q f g.
    subst (λ x. Allows c.one.result i x) (agree-is p q)
    (c.one.ensures i (p && q) (not p && not q) (c.both-true_both.ensures i p q f g) (c.both-false_both.ensures i (not p) (not q) (c.turned.ensures i p f) (c.turned-2.ensures i q g)))
