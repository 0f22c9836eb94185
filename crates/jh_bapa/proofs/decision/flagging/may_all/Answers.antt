use Rattle.jh_bapa.proofs.decision.Choosing.{all-ones, all-more, and-ones}
use Rattle.jh_bapa.proofs.decision.flagging.may_all.Goals as goal

pub loop-cond-init : goal.loop-cond-init
loop-cond-init c = λ z i h a ch e. all-ones i h

pub loop-cond-preserved : goal.loop-cond-preserved
loop-cond-preserved c = λ z i h a ch e.
    let parts = all-more z c.args.conds.now c.loop-cond.cond-index c.cond-item.result c.loop-cond-test.true c.cond-item.is e in
    and-ones c.loop-cond.yes c.truths-yes.result.yes i (c.loop-cond.invariant z i h a ch parts.0) ((c.truths-yes.ensures z i h a ch).0 parts.1)
