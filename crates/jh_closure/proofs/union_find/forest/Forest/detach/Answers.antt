use Rattle.std.proofs.Common.{◌≡◌, sym, subst, ◌∙◌, List, [], ◌∷◌, ◌++◌}
use Rattle.jh_closure.specs.declared.union_find.merge.Merge.{Merge}
use Rattle.jh_closure.specs.union_find.Stamps.{IsForest}
use Rattle.jh_closure.proofs.union_find.Stamping.{detached-forest}
use Rattle.jh_closure.proofs.union_find.forest.Forest.detach.Goals as goal

pub invariant_of-self-2 : goal.invariant_of-self-2
invariant_of-self-2 c =
    let i = c.self.inside in
    detached-forest c.pop.new.self.items i.stamps.items i.weights.items c.take_weight.new.weights.items c.in_ok-merge.merge
    (subst (λ (ms : List Merge). IsForest ms i.stamps.items i.weights.items) c.in_ok-merge.ensures.items c.self.invariant) c.take_weight.ensures
