use Rattle.std.proofs.Common.{◌∙◌, sym, subst, ap, List}
use Rattle.jh_closure.specs.declared.union_find.merge.Merge.{Merge}
use Rattle.jh_closure.specs.congruence_closure.Uses.{AreUses}
use Rattle.jh_closure.proofs.congruence_closure.Oks.{ok-of}
use Rattle.jh_closure.proofs.congruence_closure.Using.{uses-joined}
use Rattle.jh_closure.proofs.congruence_closure.classes.unite.Goals as goal

pub returns-else-is_err-clause-uses : goal.returns-else-is_err-clause-uses
returns-else-is_err-clause-uses c ns u =
    let old = c.args.core.now.forest.merges in
    let is = ok-of c.attach-attached.result (sym c.is_err.ensures.value ∙ c.if-is_err.false) c.attach-attached.ensures.ok in
    subst (λ (us : List Merge). AreUses ns us c.pass_uses.new.uses.items) (sym (ap (λ k. k.merges) is))
    (uses-joined ns old c.args.core.now.uses.items u c.args.merge c.pass_uses.new.uses.items c.pass_uses.ensures.count c.in_ok-pass_uses.ensures.passed)
