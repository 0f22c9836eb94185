use Rattle.std.proofs.Common.{sym, ap, ◌∙◌, slice_get}
use Rattle.std.proofs.lemmas.Result.{on_ok_weaker}
use Rattle.jh_form.specs.Tree.{of_set}
use Rattle.jh_arena.specs.table.Nodes.{nodes, tree_in}
use Rattle.jh_arena.specs.declared.table.shapes.Shape.TheVariants as s
use Rattle.jh_inst.specs.instances.Terms.{set_terms, with_terms}
use Rattle.jh_instantiation.specs.closed_terms.Listed.{closed_among}
use Rattle.jh_instantiation.proofs.skolem_constants.Shapes.{shaped}
use Rattle.jh_instantiation.proofs.closed_terms.Additions.{adds-as}
use Rattle.jh_instantiation.proofs.closed_terms.Shapes.{set-inside, set-part, no-set, no-read_set, value-same, set-of}
use Rattle.jh_instantiation.proofs.closed_terms.adding.add_set.Goals as goal

pub shape-requires : goal.shape-requires
shape-requires c = set-inside (nodes c.args.table.now) c.args.node c.requires.there

pub add_term-requires : goal.add_term-requires
add_term-requires c =
    let u = c.args.table.now in
    let p = set-part u c.args.node c.in-ReadSet.field-0 c.in-ReadSet.inner (shaped u c.args.node c.shape.result (s.ReadSet c.in-ReadSet.field-0 c.in-ReadSet.inner) c.shape.ensures.tree c.shape.ensures.fits c.shape.ensures.below c.in-ReadSet.is) in
    record { there = p.there }

pub returns-in-ReadSet : goal.returns-in-ReadSet
returns-in-ReadSet c = λ a e.
    let u = c.args.table.now in
    let old = c.args.terms.now.nodes.keys in
    let new = c.add_term.new.terms.nodes.keys in
    let p = set-part u c.args.node c.in-ReadSet.field-0 c.in-ReadSet.inner (shaped u c.args.node c.shape.result (s.ReadSet c.in-ReadSet.field-0 c.in-ReadSet.inner) c.shape.ensures.tree c.shape.ensures.fits c.shape.ensures.below c.in-ReadSet.is) in
    let is = ap set_terms (set-of (slice_get (nodes u) c.args.node) a _ e p.whole) in
    on_ok_weaker c.add_term.result (adds-as u old new _ _ (λ ts. ap (λ ws. with_terms ts (closed_among ws)) (sym is))) (c.add_term.ensures p.inner p.part)

pub returns-in_default : goal.returns-in_default
returns-in_default c = λ a e.
    let u = c.args.table.now in
    let old = c.args.terms.now.nodes.keys in
    let whole = value-same (slice_get (nodes u) c.args.node) (tree_in u c.shape.result) (of_set a) c.shape.ensures.tree e in
    let is = no-set a (λ f b same. no-read_set u.pools (nodes u) c.shape.result f b c.in_default.not-ReadSet (whole ∙ ap of_set same)) in
    adds-as u old old (λ ts. ts) _ (λ ts. ap (λ ws. with_terms ts (closed_among ws)) (sym is)) (λ ts h. h)
