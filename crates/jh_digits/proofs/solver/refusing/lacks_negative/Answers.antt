use Rattle.std.proofs.Common.{sym, ◌∙◌, arith}
use Rattle.std.proofs.lemmas.Bool.{eqb-true}
use Rattle.jh_digits.specs.systems.Solution.{entry_of, right_of}
use Rattle.jh_digits.proofs.solver.Refusals.{not_negative}
use Rattle.jh_digits.proofs.solver.refusing.lacks_negative.Goals as goal

pub returns : goal.returns
returns c = λ t v w. not_negative (entry_of c.args.system.now c.args.row) v c.args.system.now.columns (right_of c.args.system.now c.args.row) (sym c.negative_sum.ensures.value ∙ eqb-true c.negative_sum.result 0 t) (omega (arith, c.minus_right.ensures.value, c.if-minus_right-eq0.false)) w
