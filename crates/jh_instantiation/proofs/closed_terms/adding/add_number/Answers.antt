use Rattle.std.proofs.Common.{sym, ap, ◌∙◌, slice_get}
use Rattle.std.proofs.lemmas.Result.{on_ok_weaker}
use Rattle.jh_form.specs.Tree.{of_number}
use Rattle.jh_arena.specs.table.Nodes.{nodes, tree_in}
use Rattle.jh_arena.specs.declared.table.shapes.Shape.TheVariants as s
use Rattle.jh_inst.specs.instances.Terms.{number_terms, with_terms}
use Rattle.jh_instantiation.specs.closed_terms.Listed.{closed_among}
use Rattle.jh_instantiation.proofs.skolem_constants.Shapes.{shaped}
use Rattle.jh_instantiation.proofs.closed_terms.Additions.{adds-as}
use Rattle.jh_instantiation.proofs.closed_terms.Shapes.{number-inside, number-part, no-number, no-read_number, value-same, number-of}
use Rattle.jh_instantiation.proofs.closed_terms.adding.add_number.Goals as goal

pub shape-requires : goal.shape-requires
shape-requires c = number-inside (nodes c.args.table.now) c.args.node c.requires.there

pub add_term-requires : goal.add_term-requires
add_term-requires c =
    let u = c.args.table.now in
    let p = number-part u c.args.node c.in-ReadNumber.field-0 c.in-ReadNumber.inner (shaped u c.args.node c.shape.result (s.ReadNumber c.in-ReadNumber.field-0 c.in-ReadNumber.inner) c.shape.ensures.tree c.shape.ensures.fits c.shape.ensures.below c.in-ReadNumber.is) in
    record { there = p.there }

pub returns-in-ReadNumber : goal.returns-in-ReadNumber
returns-in-ReadNumber c = λ a e.
    let u = c.args.table.now in
    let old = c.args.terms.now.nodes.keys in
    let new = c.add_term.new.terms.nodes.keys in
    let p = number-part u c.args.node c.in-ReadNumber.field-0 c.in-ReadNumber.inner (shaped u c.args.node c.shape.result (s.ReadNumber c.in-ReadNumber.field-0 c.in-ReadNumber.inner) c.shape.ensures.tree c.shape.ensures.fits c.shape.ensures.below c.in-ReadNumber.is) in
    let is = ap number_terms (number-of (slice_get (nodes u) c.args.node) a _ e p.whole) in
    on_ok_weaker c.add_term.result (adds-as u old new _ _ (λ ts. ap (λ ws. with_terms ts (closed_among ws)) (sym is))) (c.add_term.ensures p.inner p.part)

pub returns-in_default : goal.returns-in_default
returns-in_default c = λ a e.
    let u = c.args.table.now in
    let old = c.args.terms.now.nodes.keys in
    let whole = value-same (slice_get (nodes u) c.args.node) (tree_in u c.shape.result) (of_number a) c.shape.ensures.tree e in
    let is = no-number a (λ f b same. no-read_number u.pools (nodes u) c.shape.result f b c.in_default.not-ReadNumber (whole ∙ ap of_number same)) in
    adds-as u old old (λ ts. ts) _ (λ ts. ap (λ ws. with_terms ts (closed_among ws)) (sym is)) (λ ts h. h)
