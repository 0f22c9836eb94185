use Rattle.jh_report.proofs.causes.Spelling.{kept-none, none-great, read-least}
use Rattle.jh_report.proofs.causes.digits.value_of.Goals as goal

pub returns-in-None : goal.returns-in-None
returns-in-None c =
    none-great _ _ _ (kept-none _ _ _ c.with_digit.ensures c.in-None.is)
    (read-least c.args.digits.now c.digits.at _ c.digits.value c.digits-test.true c.digits.invariant.within c.digits.invariant.value)
