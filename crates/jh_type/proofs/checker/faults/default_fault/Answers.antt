use Rattle.std.proofs.Common.{sym, ap, ◌∙◌, not}
use Rattle.jh_ast.specs.Bare.{expr_tree}
use Rattle.jh_ast.proofs.ExprSteps.{place-tree}
use Rattle.jh_rules.specs.Faults.{broken}
use Rattle.jh_rules.specs.Found.{least}
use Rattle.jh_type.specs.checker.Parts.{init_faults}
use Rattle.jh_type.proofs.checker.faults.default_fault.Goals as goal

-- src/faults.rt
pub returns-in-Some : goal.returns-in-Some
returns-in-Some c =
    c.broken.ensures ∙ (λ i. least (broken 7 (sym (place-tree c.args.expr.now.place c.args.expr.now.body) i) (not (c.is_default.ensures i))))
    ∙ ap (λ o. least (init_faults o (expr_tree c.args.expr.now))) (sym c.in-Some.is)
