use Rattle.std.proofs.Common.{refl, arith}
use Rattle.jh_bapa.proofs.decision.Choosing.{low-word}
use Rattle.jh_bapa.proofs.decision.flagging.flag_word.Goals as goal

pub returns-in-0 : goal.returns-in-0
returns-in-0 c = rw c.in-0.is (low-word 12297829382473034410 0 c.args.block (omega arith) refl)

pub returns-in-1 : goal.returns-in-1
returns-in-1 c = rw c.in-1.is (low-word 14757395258967641292 1 c.args.block (omega arith) refl)

pub returns-in-2 : goal.returns-in-2
returns-in-2 c = rw c.in-2.is (low-word 17361641481138401520 2 c.args.block (omega arith) refl)

pub returns-in-3 : goal.returns-in-3
returns-in-3 c = rw c.in-3.is (low-word 18374966859414961920 3 c.args.block (omega arith) refl)

pub returns-in-4 : goal.returns-in-4
returns-in-4 c = rw c.in-4.is (low-word 18446462603027742720 4 c.args.block (omega arith) refl)

pub returns-in-5 : goal.returns-in-5
returns-in-5 c = rw c.in-5.is (low-word 18446744069414584320 5 c.args.block (omega arith) refl)
