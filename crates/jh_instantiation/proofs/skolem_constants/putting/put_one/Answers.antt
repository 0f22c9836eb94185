use Rattle.std.proofs.Common.{◌≡◌, sym, ap, ◌∙◌, slice_get, Some}
use Rattle.std.proofs.lemmas.Result.{IfOk-weaker}
use Rattle.jh_form.specs.Tree.{of_truth}
use Rattle.jh_form.specs.Tree as tree
use Rattle.jh_arena.specs.table.Nodes.{nodes}
use Rattle.jh_arena.specs.declared.table.shapes.Shape.TheVariants as s
use Rattle.jh_arena.specs.table.Entries.{the_truth, the_object}
use Rattle.jh_boxed_operations.specs.substitution.Opened.{opened}
use Rattle.jh_form.specs.Tree.{FormulaTree, TermTree}
use Rattle.std.specs.Prelude.{List, ◌∷◌}
use Rattle.jh_inst.specs.instances.Rounds.{put_at}
use Rattle.jh_instantiation.specs.skolem_constants.Standing.{IsFormula}
use Rattle.jh_instantiation.proofs.skolem_constants.Elses.{put-else}
use Rattle.jh_instantiation.proofs.skolem_constants.Shapes.{truth-inside, formula-same, formula-there, truth-at, object-at, shaped, all-part, not-all}
use Rattle.jh_instantiation.proofs.skolem_constants.putting.put_one.Goals as goal

pub shape-requires : goal.shape-requires
shape-requires c = truth-inside (nodes c.args.table.now) c.args.node c.requires.there

pub open-requires-clause-body : goal.open-requires-clause-body
open-requires-clause-body c =
    let u = c.args.table.now in
    let p = all-part u c.args.node c.in-All.a (shaped u c.args.node c.shape.result (s.All c.in-All.a) c.shape.ensures.tree c.shape.ensures.fits c.shape.ensures.below c.in-All.is) in
    formula-there (nodes u) c.in-All.a p.a p.left

pub returns-in-All-clause-put : goal.returns-in-All-clause-put
returns-in-All-clause-put c = λ a w e f.
    let u = c.args.table.now in
    let v = c.open.new.table in
    let p = all-part u c.args.node c.in-All.a (shaped u c.args.node c.shape.result (s.All c.in-All.a) c.shape.ensures.tree c.shape.ensures.fits c.shape.ensures.below c.in-All.is) in
    let body = truth-at (slice_get (nodes u) c.in-All.a) p.a p.left in
    let term = object-at (slice_get (nodes u) c.args.with) w f in
    IfOk-weaker
    c.open.result
    (λ made. slice_get (nodes v) made ≡ Some (of_truth (opened (the_truth (slice_get (nodes u) c.in-All.a)) (the_object (slice_get (nodes u) c.args.with)))))
    (λ made. (b : FormulaTree) × IsFormula v made b × ((ws : List TermTree) → put_at a (w ∷ ws) ≡ put_at b ws))
    (λ made is. (opened p.a w, is ∙ (λ i. Some (of_truth (opened (body i) (term i)))), λ ws. ap (λ z. put_at z (w ∷ ws)) (formula-same (slice_get (nodes u) c.args.node) a (tree.all p.a) e p.whole)))
    c.open.ensures.tree

pub returns-in_default-clause-put : goal.returns-in_default-clause-put
returns-in_default-clause-put c = λ a w e f.
    let no = not-all c.args.table.now c.args.node c.shape.result a c.shape.ensures.tree e c.in_default.not-All in
    (a, e, λ ws. put-else a (w ∷ ws) no ∙ sym (put-else a ws no))
