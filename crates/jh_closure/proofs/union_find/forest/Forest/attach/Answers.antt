use Rattle.std.proofs.Common.{◌≡◌, ◌<◌, sym, subst, ◌∙◌, List, [], ◌∷◌, ◌++◌, length, set}
use Rattle.jh_closure.specs.declared.union_find.merge.Merge.{Merge}
use Rattle.jh_closure.specs.union_find.Merges.{Classes, class_of}
use Rattle.jh_closure.specs.union_find.Stamps.{IsForest}
use Rattle.jh_closure.proofs.union_find.Stamping.{attached-forest, few-merges}
use Rattle.jh_closure.proofs.union_find.forest.Forest.attach.Goals as goal

pub invariant_of-self-2 : goal.invariant_of-self-2
invariant_of-self-2 c =
    let i = c.self.inside in
    let m = c.args.merge in
    subst (λ (ms : List Merge). IsForest ms c.note.new.stamps.items c.add_weight.new.weights.items) (sym c.in_ok-note.ensures.merges)
    (subst (λ xs. IsForest (i.merges.items ++ m ∷ []) xs c.add_weight.new.weights.items) (sym c.in_ok-note.ensures.stamps)
    (attached-forest i.merges.items i.stamps.items i.weights.items c.add_weight.new.weights.items m c.self.invariant
    (subst (λ (k : Classes). m.small < k.count) (sym c.self.view_is) c.requires.small)
    (subst (λ (k : Classes). m.large < k.count) (sym c.self.view_is) c.requires.large)
    (subst (λ (k : Classes). class_of k.merges m.small ≡ m.small) (sym c.self.view_is) c.requires.small_root)
    (subst (λ (k : Classes). class_of k.merges m.large ≡ m.large) (sym c.self.view_is) c.requires.large_root)
    c.requires.apart c.add_weight.ensures))

pub returns-clause-few : goal.returns-clause-few
returns-clause-few c = few-merges c.note.new.merges.items c.note.new.stamps.items c.add_weight.new.weights.items (
    let i = c.self.inside in
    let m = c.args.merge in
    subst (λ (ms : List Merge). IsForest ms c.note.new.stamps.items c.add_weight.new.weights.items) (sym c.in_ok-note.ensures.merges)
    (subst (λ xs. IsForest (i.merges.items ++ m ∷ []) xs c.add_weight.new.weights.items) (sym c.in_ok-note.ensures.stamps)
    (attached-forest i.merges.items i.stamps.items i.weights.items c.add_weight.new.weights.items m c.self.invariant
    (subst (λ (k : Classes). m.small < k.count) (sym c.self.view_is) c.requires.small)
    (subst (λ (k : Classes). m.large < k.count) (sym c.self.view_is) c.requires.large)
    (subst (λ (k : Classes). class_of k.merges m.small ≡ m.small) (sym c.self.view_is) c.requires.small_root)
    (subst (λ (k : Classes). class_of k.merges m.large ≡ m.large) (sym c.self.view_is) c.requires.large_root)
    c.requires.apart c.add_weight.ensures)))
