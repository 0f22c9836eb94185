use Rattle.std.proofs.Common.{rules}
use Rattle.jh_operands.specs.declared.exprs.NumberExpr.TheVariants as x
use Rattle.jh_machine_code.specs.numbering.Numbered.{IsNumber}
use Rattle.jh_machine_code.proofs.numbering.Standing.{stands_still}
use Rattle.jh_machine_code.proofs.numbering.NumberSteps.{number_add, number_sub, number_minus, number_times}
use Rattle.jh_machine_code.proofs.numbering.numbers.+number_expr.Goals as goal

-- src/numbers.rt
pub returns-in_ok-right-in-Add-2-clause-is : goal.returns-in_ok-right-in-Add-2-clause-is
returns-in_ok-right-in-Add-2-clause-is t c =
    number_add {q = c.in-Add.place} {u = c.in-Add.left} {l = c.in_ok-left-in-Add-2.left} {v = c.in-Add.right} {r = c.in_ok-right-in-Add-2.right} c.in-Add.is c.deref.ensures c.in_ok-left-in-Add-2.ensures.ok
    (stands_still c.number_expr-in-Add.ensures.grows c.in_ok-left-in-Add.ensures.is) c.deref-in-Add.ensures c.in_ok-right-in-Add-2.ensures.ok c.in_ok-right-in-Add.ensures.is

-- src/numbers.rt
pub returns-in_ok-right-in-Sub-2-clause-is : goal.returns-in_ok-right-in-Sub-2-clause-is
returns-in_ok-right-in-Sub-2-clause-is t c =
    number_sub {q = c.in-Sub.place} {u = c.in-Sub.left} {l = c.in_ok-left-in-Sub-2.left} {v = c.in-Sub.right} {r = c.in_ok-right-in-Sub-2.right} c.in-Sub.is c.deref-in-Sub.ensures c.in_ok-left-in-Sub-2.ensures.ok
    (stands_still c.number_expr-in-Sub-2.ensures.grows c.in_ok-left-in-Sub.ensures.is) c.deref-in-Sub-2.ensures c.in_ok-right-in-Sub-2.ensures.ok c.in_ok-right-in-Sub.ensures.is

-- src/numbers.rt
pub returns-in_ok-inner-in-Minus-2-clause-is : goal.returns-in_ok-inner-in-Minus-2-clause-is
returns-in_ok-inner-in-Minus-2-clause-is t c =
    number_minus {q = c.in-Minus.place} {u = c.in-Minus.inner} {l = c.in_ok-inner-in-Minus-2.inner} c.in-Minus.is c.deref-in-Minus.ensures c.in_ok-inner-in-Minus-2.ensures.ok c.in_ok-inner-in-Minus.ensures.is

-- src/numbers.rt
pub returns-in_ok-inner-in-Times-2-clause-is : goal.returns-in_ok-inner-in-Times-2-clause-is
returns-in_ok-inner-in-Times-2-clause-is t c =
    let whole : IsNumber c.number_expr-in-Times.new.names c.args.code.now (x.Times c.in-Times.place c.in-Times.factor c.in_ok-inner-in-Times-2.inner) =
    number_times {q = c.in-Times.place} {z = c.in-Times.factor} {u = c.in-Times.inner} {l = c.in_ok-inner-in-Times-2.inner} c.in-Times.is c.deref-in-Times.ensures c.in_ok-inner-in-Times-2.ensures.ok c.in_ok-inner-in-Times.ensures.is in
    search rules
