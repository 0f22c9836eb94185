use Rattle.std.proofs.Common.{sym, subst, ◌∙◌, ap, List}
use Rattle.jh_closure.specs.declared.union_find.merge.Merge.{Merge}
use Rattle.jh_closure.specs.congruence_closure.Uses.{AreUses}
use Rattle.jh_closure.proofs.congruence_closure.Starting.{uses-start}
use Rattle.jh_closure.proofs.congruence_closure.beginning.first_core.Goals as goal

pub returns-clause-core : goal.returns-clause-core
returns-clause-core c =
    let u = c.in_ok-uses.ensures in
    record {
      count = ap (λ k. k.count) c.in_ok-forest.ensures ∙ (c.in_ok-weights.ensures ∙ u.count);
      uses = subst (λ (ms : List Merge). AreUses c.args.nodes.now ms c.in_ok-uses.uses.items) (sym (ap (λ k. k.merges) c.in_ok-forest.ensures)) (uses-start c.args.nodes.now c.in_ok-uses.uses.items u.covers u.inside u.count);
    }
