use Rattle.jh_bapa.proofs.decision.Choosing.{known-true, known-false, unknown}
use Rattle.jh_bapa.proofs.decision.flagging.known.Goals as goal

pub returns-in-Some-true : goal.returns-in-Some-true
returns-in-Some-true c = λ i h. rw (c.in-Some-true.is, c.in-Some-true.field-0-test) (known-true i h)

pub returns-in-Some-false : goal.returns-in-Some-false
returns-in-Some-false c = λ i h. rw (c.in-Some-false.is, c.in-Some-false.field-0-test) (known-false i h)

pub returns-in-None : goal.returns-in-None
returns-in-None c = λ i h. rw c.in-None.is (unknown i h)
