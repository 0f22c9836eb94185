use Rattle.jh_bapa.proofs.decision.Choosing.{high-set, high-clear}
use Rattle.jh_bapa.proofs.decision.flagging.high_flag.Goals as goal

pub returns-then-block-flag-eq1 : goal.returns-then-block-flag-eq1
returns-then-block-flag-eq1 c = high-set c.args.flag c.args.block c.requires.low c.if-block-flag-eq1.true

pub returns-else-block-flag-eq1 : goal.returns-else-block-flag-eq1
returns-else-block-flag-eq1 c = high-clear c.args.flag c.args.block c.requires.low c.if-block-flag-eq1.false
