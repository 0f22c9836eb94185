use Rattle.std.proofs.Common.{◌≡◌, ◌<◌, ◌⊎◌, ◌++◌, sym, subst, inl, refl, ℕ, List, [], ◌∷◌, length}
use Rattle.jh_closure.specs.union_find.Merges.{class_of}
use Rattle.jh_closure.specs.declared.union_find.merge.Merge.{Merge}
use Rattle.jh_closure.specs.congruence_closure.Nodes.{Has}
use Rattle.jh_closure.specs.congruence_closure.Closing.{IsTable, AreAlike, AreRight, Keeps, Touches, alike}
use Rattle.jh_closure.specs.congruence_closure.Tables.{found}
use Rattle.jh_closure.specs.congruence_closure.Uses.{AreUses}
use Rattle.jh_closure.proofs.congruence_closure.Joining.{small-inside, small-root, large-root, sides-apart, nodes-joined, classes-kept, table-joined}
use Rattle.jh_closure.proofs.congruence_closure.Oks.{on-ok, on-ok-then}
use Rattle.jh_closure.proofs.congruence_closure.Righting.{right-joined}
use Rattle.jh_closure.proofs.congruence_closure.Using.{touches-before}
use Rattle.jh_closure.proofs.congruence_closure.settling.join.Goals as goal

pub find-first-requires : goal.find-first-requires
find-first-requires c = subst (λ z. c.args.cause.left < z) (sym c.requires.core.count) (c.requires.table.waiting.left c.args.cause (inl refl))

pub find-second-requires : goal.find-second-requires
find-second-requires c = subst (λ z. c.args.cause.right < z) (sym c.requires.core.count) (c.requires.table.waiting.right c.args.cause (inl refl))

pub unite-requires-clause-small_root : goal.unite-requires-clause-small_root
unite-requires-clause-small_root c = small-root c.args.nodes.now c.args.core.now.forest.merges (found c.args.core.now.table.nodes.entries) c.args.pending.now.items c.args.cause c.requires.table c.requires.apart c.find-first.result c.find-second.result c.find-first.ensures.class c.find-second.ensures.class c.merge_of-merge.result c.merge_of-merge.ensures

pub unite-requires-clause-large_root : goal.unite-requires-clause-large_root
unite-requires-clause-large_root c = large-root c.args.nodes.now c.args.core.now.forest.merges (found c.args.core.now.table.nodes.entries) c.args.pending.now.items c.args.cause c.requires.table c.requires.apart c.find-first.result c.find-second.result c.find-first.ensures.class c.find-second.ensures.class c.merge_of-merge.result c.merge_of-merge.ensures

pub uses_of-requires : goal.uses_of-requires
uses_of-requires c =
    let u = c.unite.ensures.uses c.args.nodes.now c.requires.core.uses in
    subst (λ z. c.merge_of-merge.result.small < z) (sym u.long) (small-inside c.args.nodes.now c.args.core.now.forest.merges (found c.args.core.now.table.nodes.entries) c.args.pending.now.items c.args.cause c.requires.table c.requires.apart c.find-first.result c.find-second.result c.find-first.ensures.class c.find-second.ensures.class c.merge_of-merge.result c.merge_of-merge.ensures)

pub sign_all-requires-clause-table : goal.sign_all-requires-clause-table
sign_all-requires-clause-table c =
    let m = c.merge_of-merge.result in
    let ms = c.args.core.now.forest.merges in
    let e = c.in_ok-unite.ensures.ok in
    let u : AreUses c.args.nodes.now (ms ++ m ∷ []) c.unite.new.core.uses.items = subst (λ (us : List Merge). AreUses c.args.nodes.now us c.unite.new.core.uses.items) e (c.unite.ensures.uses c.args.nodes.now c.requires.core.uses) in
    let t : Touches c.args.nodes.now (class_of ms) m.small c.uses_of.result.now = subst (λ (ks : List ℕ). Touches c.args.nodes.now (class_of ms) m.small ks) (sym c.uses_of.ensures) (touches-before c.args.nodes.now ms m c.unite.new.core.uses.items u (sides-apart c.args.nodes.now c.args.core.now.forest.merges (found c.args.core.now.table.nodes.entries) c.args.pending.now.items c.args.cause c.requires.table c.requires.apart c.find-first.result c.find-second.result c.find-first.ensures.class c.find-second.ensures.class c.merge_of-merge.result c.merge_of-merge.ensures)) in
    subst (λ es. IsTable c.args.nodes.now (class_of c.unite.new.core.forest.merges) (found es) c.args.pending.now.items c.uses_of.result.now) (sym c.unite.ensures.table)
    (subst (λ (us : List Merge). IsTable c.args.nodes.now (class_of us) (found c.args.core.now.table.nodes.entries) c.args.pending.now.items c.uses_of.result.now) (sym e) (table-joined c.args.nodes.now c.args.core.now.forest.merges (found c.args.core.now.table.nodes.entries) c.args.pending.now.items c.args.cause c.requires.table c.requires.apart c.find-first.result c.find-second.result c.find-first.ensures.class c.find-second.ensures.class c.merge_of-merge.result c.merge_of-merge.ensures c.uses_of.result.now t))

pub returns-clause-right : goal.returns-clause-right
returns-clause-right c =
    let m = c.merge_of-merge.result in
    let ms = c.args.core.now.forest.merges in
    let e = c.in_ok-unite.ensures.ok in
    on-ok-then c.sign_all.result
    (λ from said h. subst (λ (us : List Merge). AreRight c.args.nodes.now said us c.sign_all.new.pending.items) (sym e)
    (right-joined c.args.nodes.now said ms c.args.cause c.args.pending.now.items c.sign_all.new.pending.items m c.find-first.result c.find-second.result (sym c.find-first.ensures.class) (sym c.find-second.ensures.class) c.merge_of-merge.ensures
    (c.requires.table.waiting.left c.args.cause (inl refl)) (c.requires.table.waiting.right c.args.cause (inl refl))
    (λ q w. subst (λ (us : List Merge). Has c.args.pending.now.items q ⊎ ((q ≡ alike q.left q.right) × AreAlike c.args.nodes.now (class_of us) q.left q.right)) e (from q w)) h))
    c.sign_all.ensures.alike

pub returns-clause-keeps : goal.returns-clause-keeps
returns-clause-keeps c =
    on-ok c.sign_all.result
    (subst (λ (us : List Merge). Keeps (length c.args.nodes.now) (class_of c.args.core.now.forest.merges) (class_of us)) (sym c.in_ok-unite.ensures.ok) (classes-kept c.args.nodes.now c.args.core.now.forest.merges (found c.args.core.now.table.nodes.entries) c.args.pending.now.items c.args.cause c.requires.table c.requires.apart c.find-first.result c.find-second.result c.find-first.ensures.class c.find-second.ensures.class c.merge_of-merge.result c.merge_of-merge.ensures))

pub returns-clause-joined : goal.returns-clause-joined
returns-clause-joined c =
    on-ok c.sign_all.result
    (subst (λ (us : List Merge). class_of us c.args.cause.left ≡ class_of us c.args.cause.right) (sym c.in_ok-unite.ensures.ok) (nodes-joined c.args.nodes.now c.args.core.now.forest.merges (found c.args.core.now.table.nodes.entries) c.args.pending.now.items c.args.cause c.requires.table c.requires.apart c.find-first.result c.find-second.result c.find-first.ensures.class c.find-second.ensures.class c.merge_of-merge.result c.merge_of-merge.ensures))
