use Rattle.std.proofs.Common.{rules, ◌≡◌, ◌≤◌, sym, subst, ◌∙◌, List, [], length, arith}
use Rattle.jh_closure.specs.declared.union_find.merge.Merge.{Merge}
use Rattle.jh_closure.specs.union_find.Stamps.{IsForest, never}
use Rattle.jh_closure.proofs.union_find.Stamping.{fresh-forest}
use Rattle.jh_closure.proofs.union_find.forest.Forest.new.Goals as goal

pub invariant_of-result : goal.invariant_of-result
invariant_of-result c =
    subst (λ (ms : List Merge). IsForest ms c.in_ok-stamps.stamps.items c.args.weights.items) (sym c.new.ensures.items)
    (subst (λ xs. IsForest [] xs c.args.weights.items) (sym (c.in_ok-stamps.ensures.items_if_clones_equal (λ y e. e)))
    (fresh-forest c.len.result c.args.weights.items (search rules) (search rules)))
