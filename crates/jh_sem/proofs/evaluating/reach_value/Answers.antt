use Rattle.std.proofs.Common.{rules, ◌≡◌, ◌<◌, ℕ, suc, List, sym, ap, subst, ◌∙◌, slice_get, arith}
use Rattle.std.proofs.lemmas.Result.{err_from_is_err_and}
use Rattle.jh_form.specs.Tree.{FieldTree, of_truth}
use Rattle.jh_form.specs.Meaning.{Fields, reaches, is_forest, fields_value}
use Rattle.jh_boxed.specs.Parts.{Among}
use Rattle.jh_arena.specs.table.Entries.{the_truth, the_list, fields_at}
use Rattle.jh_arena.specs.table.Nodes.{nodes}
use Rattle.jh_sem.specs.Bounds.{bound_list}
use Rattle.jh_sem.specs.Graphs.{AreRows, listed_fields}
use Rattle.jh_sem.proofs.Sames.{reaches-same, forest-same}
use Rattle.jh_sem.proofs.Evaluated.{reach-part, tree-part}
use Rattle.jh_sem.proofs.EvalSteps.{value-Reach, value-Tree}
use Rattle.jh_sem.proofs.evaluating.reach_value.Goals as goal

pub returns-in_err-rows-clause-wide : goal.returns-in_err-rows-clause-wide
returns-in_err-rows-clause-wide g c =
    let t0 = g.W.World.listing c.args.world.now in
    let p = err_from_is_err_and c.from_residual-in_err-rows.result c.from_residual-in_err-rows.ensures.1 in
    rw (p.1, p.2) (λ wide. c.in_err-rows.ensures.wide wide (of_truth (the_truth (slice_get (nodes t0) c.args.node))) (λ f among. reach-part t0 c.args.node c.args.list c.args.a c.args.b c.requires.stands f (subst (λ (ns : List ℕ). Among f (fields_at (nodes t0) ns)) c.fields_of.ensures among)))

pub leads_to-requires-clause-rows : goal.leads_to-requires-clause-rows
leads_to-requires-clause-rows g c =
    let m = g.W.World.meaning c.args.world.now in
    let whole : AreRows m.last c.as_slice.result.now = subst (λ (rs : List (List ℕ)). AreRows m.last rs) (sym c.as_slice.ensures.value) c.in_ok-rows.ensures.rows in
    subst (λ (n : ℕ). AreRows n c.as_slice.result.now) (sym c.last.ensures) whole

pub returns-clause-value : goal.returns-clause-value
returns-clause-value g c =
    let t0 = g.W.World.listing c.args.world.now in
    let m = g.W.World.meaning c.args.world.now in
    let e = bound_list c.args.bound.now in
    let ts = nodes t0 in
    c.in_ok-reached.ensures
    ∙ (λ i. reaches (c.last.ensures i) (listed_fields (c.as_slice.ensures.value i)) c.in_ok-from.from c.in_ok-to.to)
    ∙ reaches-same m.last c.in_ok-rows.rows.items (fields_value (fields_at ts c.fields_of.result.now) m e) c.in_ok-rows.ensures.rows c.in_ok-rows.ensures.value c.in_ok-from.from c.in_ok-to.to c.in_ok-from.ensures.inside
    ∙ (λ i. reaches m.last (fields_value (fields_at ts (c.fields_of.ensures i)) m e) (c.in_ok-from.ensures.value i) (c.in_ok-to.ensures.value i))
    ∙ value-Reach t0 c.args.node m c.args.list c.args.a c.args.b c.requires.stands e
