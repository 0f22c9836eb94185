use Rattle.std.proofs.Common.{◌<◌, arith}
use Rattle.jh_report.proofs.causes.Shown.{one-shown}
use Rattle.jh_report.proofs.causes.local.add_literal.Goals as goal

pub returns-in_ok-add_equality-in-EqObj : goal.returns-in_ok-add_equality-in-EqObj
returns-in_ok-add_equality-in-EqObj c = λ ps rest h.
    let some : 0 < c.args.left = search arith in
    (_, c.in_ok-add_equality-in-EqObj.ensures ps h, one-shown ps rest c.args.left c.args.literal.now _ _ some (search) c.in-EqObj.is)
