use Rattle.std.proofs.Common.{arith}
use Rattle.jh_bapa.proofs.decision.Choosing.{flag-yes, flag-no, all-ones}
use Rattle.jh_bapa.proofs.decision.flagging.flag_may.Goals as goal

pub returns-then-flag-lt32 : goal.returns-then-flag-lt32
returns-then-flag-lt32 c = λ z i h ch.
    let same = c.flag_word-yes.ensures i h in
    (flag-yes z c.args.flag c.args.block i c.flag_word-yes.result ch same, flag-no z c.args.flag c.args.block i c.flag_word-yes.result h (omega arith) ch same)

pub returns-else-flag-lt32 : goal.returns-else-flag-lt32
returns-else-flag-lt32 c = λ z i h ch. (λ e. all-ones i h, λ e. all-ones i h)
