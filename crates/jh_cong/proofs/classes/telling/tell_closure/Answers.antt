use Rattle.std.proofs.Common.{sym, subst}
use Rattle.jh_closure.specs.congruence_closure.Levels.{Asserted}
use Rattle.jh_cong.specs.classes.States.{AreEnough}
use Rattle.jh_cong.proofs.classes.Keeping.{enough-known}
use Rattle.jh_cong.proofs.classes.telling.tell_closure.Goals as goal

pub returns-then-is_known-clause-enough : goal.returns-then-is_known-clause-enough
returns-then-is_known-clause-enough c =
    let old = c.args.closure.now in
    subst (λ (z : Asserted). AreEnough z.nodes z.said c.args.enough) (sym c.in_ok-assert.ensures.ok)
    (enough-known old.nodes old.said c.args.equation c.args.enough c.requires.inside (c.same-is_known.ensures.0 c.if-is_known.true) c.requires.enough)
