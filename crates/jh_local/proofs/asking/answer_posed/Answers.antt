use Rattle.std.proofs.Common.{◌≤◌, ℕ, List}
use Rattle.std.proofs.lemmas.Result.{IfOk-weaker}
use Rattle.jh_form.specs.Tree.{FormulaTree}
use Rattle.jh_arena.specs.table.Nodes.{nodes}
use Rattle.jh_propagation.specs.propagation.Problems.{instances_in}
use Rattle.jh_local.specs.Answers.{IsOutcome, IsSearchedFor}
use Rattle.jh_local.proofs.asking.answer_posed.Goals as goal

pub returns-clause-right : goal.returns-clause-right
returns-clause-right c =
    let p = c.args.problem in
    IfOk-weaker
    c.answer_of.result
    (λ answer. (is : List FormulaTree) (many leaves : ℕ) → IsOutcome is many leaves c.in_ok-searching.cause → IsSearchedFor is many leaves answer)
    (λ answer. (many : ℕ) → many ≤ 100000 → IsSearchedFor (instances_in (nodes p.table) p) many c.args.leaves answer)
    (λ answer right many few. right (instances_in (nodes p.table) p) many c.args.leaves (c.in_ok-searching.ensures many few))
    c.answer_of.ensures.right
