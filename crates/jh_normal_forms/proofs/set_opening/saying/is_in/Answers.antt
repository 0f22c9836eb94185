use Rattle.std.proofs.Common.{◌≡◌, sym, ap, ◌∙◌, Some, slice_get}
use Rattle.std.proofs.lemmas.Result.{IfOk-weaker}
use Rattle.jh_form.specs.Tree.{of_object, of_set, of_truth}
use Rattle.jh_form.specs.Tree as t
use Rattle.jh_arena.specs.table.Entries.{the_object, the_set, the_truth, is_set}
use Rattle.jh_arena.specs.table.Nodes.{nodes, fits_in}
use Rattle.jh_arena.proofs.table.PartSteps.{part-Compr-a}
use Rattle.jh_normal_forms.specs.set_opening.SetsOpened.{is_in}
use Rattle.jh_normal_forms.proofs.set_opening.Arms.{set-inside, in-compr, in-other}
use Rattle.jh_normal_forms.proofs.set_opening.saying.is_in.Goals as goal

pub shape-requires : goal.shape-requires
shape-requires c = set-inside (nodes c.args.table.now) c.args.set c.requires.set

pub put-requires-clause-body : goal.put-requires-clause-body
put-requires-clause-body c =
    let v = c.args.table.now in
    part-Compr-a v.pools (nodes v) c.in-Compr.formula (ap (fits_in v) (sym c.in-Compr.is) ∙ c.shape.ensures.fits)

pub returns-in-Compr-clause-node : goal.returns-in-Compr-clause-node
unfolding is_in
returns-in-Compr-clause-node c =
    let v = c.args.table.now in
    let x = the_object (slice_get (nodes v) c.args.object) in
    IfOk-weaker
    c.put.result
    (λ made. slice_get (nodes c.put.new.table) made ≡ Some (of_truth (is_in x (t.compr (the_truth (slice_get (nodes v) c.in-Compr.formula))))))
    (λ made. slice_get (nodes c.put.new.table) made ≡ Some (of_truth (is_in x (the_set (slice_get (nodes v) c.args.set)))))
    (λ made at. at ∙ ap (λ f. Some (of_truth f)) (in-compr v.pools (nodes v) c.shape.result c.in-Compr.formula x c.in-Compr.is ∙ ap (λ o. is_in x (the_set o)) (sym c.shape.ensures.tree)))
    c.put.ensures.tree

pub returns-in_default-clause-node : goal.returns-in_default-clause-node
returns-in_default-clause-node c =
    let v = c.args.table.now in
    let x = the_object (slice_get (nodes v) c.args.object) in
    IfOk-weaker
    c.member.result
    (λ made. slice_get (nodes c.member.new.table) made ≡ Some (of_truth (t.member x (the_set (slice_get (nodes v) c.args.set)))))
    (λ made. slice_get (nodes c.member.new.table) made ≡ Some (of_truth (is_in x (the_set (slice_get (nodes v) c.args.set)))))
    (λ made at. at ∙ ap (λ f. Some (of_truth f)) (ap (λ o. t.member x (the_set o)) c.shape.ensures.tree ∙ in-other v.pools (nodes v) c.shape.result x c.in_default.not-Compr (ap is_set (sym c.shape.ensures.tree) ∙ c.requires.set) ∙ ap (λ o. is_in x (the_set o)) (sym c.shape.ensures.tree)))
    c.member.ensures.node
