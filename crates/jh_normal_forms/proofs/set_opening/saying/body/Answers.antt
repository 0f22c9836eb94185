use Rattle.std.proofs.Common.{◌≡◌, sym, ap, ◌∙◌, Some, slice_get}
use Rattle.std.proofs.lemmas.Result.{IfOk-weaker}
use Rattle.jh_form.specs.Tree.{of_object, of_set, of_truth}
use Rattle.jh_form.specs.Tree as t
use Rattle.jh_boxed.specs.Mapped.{mapped_set}
use Rattle.jh_arena.specs.table.Entries.{the_set, is_set}
use Rattle.jh_arena.specs.table.Nodes.{nodes, fits_in}
use Rattle.jh_arena.proofs.table.PartSteps.{part-Compr-a}
use Rattle.jh_substitution.specs.simultaneous.Lifted.{lifting}
use Rattle.jh_normal_forms.specs.set_opening.SetsOpened.{body}
use Rattle.jh_normal_forms.proofs.set_opening.Arms.{set-inside, body-compr, body-other}
use Rattle.jh_normal_forms.proofs.set_opening.saying.body.Goals as goal

pub shape-requires : goal.shape-requires
shape-requires c = set-inside (nodes c.args.table.now) c.args.set c.requires.set

pub returns-in-Compr-clause-node : goal.returns-in-Compr-clause-node
returns-in-Compr-clause-node c =
    let v = c.args.table.now in
    body-compr v.pools (nodes v) c.shape.result c.in-Compr.formula c.in-Compr.is (part-Compr-a v.pools (nodes v) c.in-Compr.formula (ap (fits_in v) (sym c.in-Compr.is) ∙ c.shape.ensures.fits))
    ∙ ap (λ o. Some (of_truth (body (the_set o)))) (sym c.shape.ensures.tree)

pub returns-in_default-clause-node : goal.returns-in_default-clause-node
returns-in_default-clause-node c =
    let v = c.args.table.now in
    let same : t.member (t.bound 0) (mapped_set (the_set (slice_get (nodes v) c.args.set)) (lifting 1) 0) ≡ body (the_set (slice_get (nodes v) c.args.set)) =
    ap (λ o. t.member (t.bound 0) (mapped_set (the_set o) (lifting 1) 0)) c.shape.ensures.tree
    ∙ body-other v.pools (nodes v) c.shape.result c.in_default.not-Compr (ap is_set (sym c.shape.ensures.tree) ∙ c.requires.set)
    ∙ ap (λ o. body (the_set o)) (sym c.shape.ensures.tree) in
    IfOk-weaker
    c.variable_in.result
    (λ made. slice_get (nodes c.variable_in.new.table) made ≡ Some (of_truth (t.member (t.bound 0) (mapped_set (the_set (slice_get (nodes v) c.args.set)) (lifting 1) 0))))
    (λ made. slice_get (nodes c.variable_in.new.table) made ≡ Some (of_truth (body (the_set (slice_get (nodes v) c.args.set)))))
    (λ made at. at ∙ ap (λ f. Some (of_truth f)) same)
    c.variable_in.ensures.node
