use Rattle.std.proofs.Common.{sym, ◌∙◌}
use Rattle.jh_boxed_operations.proofs.comparison.DerivedEq.{names_eq-decides, optional_eq-decides}
use Rattle.jh_boxed_operations.proofs.comparison.marks.names_match.Goals as goal

pub returns-then-eq : goal.returns-then-eq
returns-then-eq c = (
  λ h. (
    (optional_eq-decides c.args.left.now.name c.args.right.now.name).0 (sym c.eq.ensures ∙ c.if-eq.true),
    (names_eq-decides c.args.left.now.from c.args.right.now.from).0 (sym c.eq-then-eq.ensures ∙ h),
  ),
  λ p. c.eq-then-eq.ensures ∙ (names_eq-decides c.args.left.now.from c.args.right.now.from).1 p.1,
)
