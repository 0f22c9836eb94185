use Rattle.std.proofs.Common.{sym, ap, ◌∙◌, [], ◌∷◌, slice_get, arith}
use Rattle.std.proofs.lemmas.Result.{on_ok_weaker}
use Rattle.jh_form.specs.Tree.{of_object}
use Rattle.jh_arena.specs.table.Nodes.{nodes, tree_in}
use Rattle.jh_arena.specs.declared.table.shapes.Shape.TheVariants as s
use Rattle.jh_inst.specs.instances.Terms.{terms_in, with_terms}
use Rattle.jh_instantiation.specs.closed_terms.Listed.{closed_among}
use Rattle.jh_instantiation.proofs.skolem_constants.Shapes.{shaped}
use Rattle.jh_instantiation.proofs.closed_terms.Additions.{adds-two, adds-as, adds-both}
use Rattle.jh_instantiation.proofs.closed_terms.Shapes.{object-inside, read-part, read-terms, alone-term, no-read, value-same, object-of}
use Rattle.jh_instantiation.proofs.closed_terms.adding.+add_term.Goals as goal

pub add_term-shape-requires : goal.add_term-shape-requires
add_term-shape-requires t c = object-inside (nodes c.args.table.now) c.args.node c.requires.there

pub add_term-add_outer-requires : goal.add_term-add_outer-requires
add_term-add_outer-requires t c =
    let u = c.args.table.now in
    let p = read-part u c.args.node c.in-ReadObject.field-0 c.in-ReadObject.inner (shaped u c.args.node c.shape.result (s.ReadObject c.in-ReadObject.field-0 c.in-ReadObject.inner) c.shape.ensures.tree c.shape.ensures.fits c.shape.ensures.below c.in-ReadObject.is) in
    (omega (arith, c.decreases, p.below), (c.requires.there, (p.there, p.below)))

pub add_term-returns-in-ReadObject : goal.add_term-returns-in-ReadObject
add_term-returns-in-ReadObject t c = λ a e.
    let u = c.args.table.now in
    let old = c.args.terms.now.nodes.keys in
    let new = c.add_outer.new.terms.nodes.keys in
    let p = read-part u c.args.node c.in-ReadObject.field-0 c.in-ReadObject.inner (shaped u c.args.node c.shape.result (s.ReadObject c.in-ReadObject.field-0 c.in-ReadObject.inner) c.shape.ensures.tree c.shape.ensures.fits c.shape.ensures.below c.in-ReadObject.is) in
    let is = read-terms a _ p.inner (object-of (slice_get (nodes u) c.args.node) a _ e p.whole) in
    on_ok_weaker c.add_outer.result (adds-as u old new _ _ (λ ts. adds-both (a ∷ []) (terms_in p.inner) ts ∙ ap (λ ws. with_terms ts (closed_among ws)) (sym is))) (c.add_outer.ensures a p.inner e p.part)

pub add_term-returns-in_default : goal.add_term-returns-in_default
add_term-returns-in_default t c = λ a e.
    let u = c.args.table.now in
    let old = c.args.terms.now.nodes.keys in
    let new = c.add_closed.new.terms.nodes.keys in
    let whole = value-same (slice_get (nodes u) c.args.node) (tree_in u c.shape.result) (of_object a) c.shape.ensures.tree e in
    let is = alone-term a (λ f b same. no-read u.pools (nodes u) c.shape.result f b c.in_default.not-ReadObject (whole ∙ ap of_object same)) in
    on_ok_weaker c.add_closed.result (adds-as u old new _ _ (λ ts. ap (λ ws. with_terms ts (closed_among ws)) (sym is))) (c.add_closed.ensures a e)

pub add_outer-returns : goal.add_outer-returns
add_outer-returns t c = λ a b e f.
    on_ok_weaker c.add_term.result (adds-two c.args.table.now c.args.terms.now.nodes.keys c.add_closed.new.terms.nodes.keys c.add_term.new.terms.nodes.keys _ _ (c.in_ok-add_closed.ensures a e)) (c.add_term.ensures b f)
