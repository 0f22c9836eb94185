use Rattle.std.proofs.Common.{◌≡◌, ap, sym, ◌∙◌, ℕ, Some, slice_get, arith}
use Rattle.jh_form.specs.Tree.{TermTree, FieldTree, of_object}
use Rattle.jh_form.specs.Tree as tree
use Rattle.jh_arena.specs.table.Nodes.{nodes, tree_in}
use Rattle.jh_arena.specs.declared.table.shapes.Shape.TheVariants as s
use Rattle.jh_query.specs.queries.Size.{capped}
use Rattle.jh_inst.specs.instances.Count.{term_weight}
use Rattle.jh_instantiation.proofs.skolem_constants.Shapes.{shaped}
use Rattle.jh_instantiation.proofs.closed_terms.Shapes.{object-inside, read-part, no-read, value-same, object-of}
use Rattle.jh_instantiation.proofs.instance_count.Weights.{nothing-weighs, read-weighs, bound-at, bound-weighs, no-bound, no-weight, no-weights}
use Rattle.jh_instantiation.proofs.instance_count.weighing.+chain.Goals as goal

pub shape-requires : goal.shape-requires
shape-requires t c = object-inside (nodes c.args.table.now) c.args.node c.requires.there

pub chain-inner-requires : goal.chain-inner-requires
chain-inner-requires t c =
    let u = c.args.table.now in
    let p = read-part u c.args.node c.in-ReadObject.field-0 c.in-ReadObject.inner (shaped u c.args.node c.shape.result (s.ReadObject c.in-ReadObject.field-0 c.in-ReadObject.inner) c.shape.ensures.tree c.shape.ensures.fits c.shape.ensures.below c.in-ReadObject.is) in
    (omega (arith, c.decreases, p.below), p.there)

pub returns-in-ReadObject-clause-all : goal.returns-in-ReadObject-clause-all
returns-in-ReadObject-clause-all t c = λ a e.
    let u = c.args.table.now in
    let p = read-part u c.args.node c.in-ReadObject.field-0 c.in-ReadObject.inner (shaped u c.args.node c.shape.result (s.ReadObject c.in-ReadObject.field-0 c.in-ReadObject.inner) c.shape.ensures.tree c.shape.ensures.fits c.shape.ensures.below c.in-ReadObject.is) in
    read-weighs c.args.scope.terms c.args.scope.powers.now c.plus.result c.chain-inner.result.each c.chain-inner.result.all a p.inner _
    (object-of (slice_get (nodes u) c.args.node) a _ e p.whole) c.plus.ensures (c.chain-inner.ensures.each p.inner p.part) (c.chain-inner.ensures.all p.inner p.part)

pub returns-in-ReadObject-clause-each : goal.returns-in-ReadObject-clause-each
returns-in-ReadObject-clause-each t c = λ a e.
    let u = c.args.table.now in
    let p = read-part u c.args.node c.in-ReadObject.field-0 c.in-ReadObject.inner (shaped u c.args.node c.shape.result (s.ReadObject c.in-ReadObject.field-0 c.in-ReadObject.inner) c.shape.ensures.tree c.shape.ensures.fits c.shape.ensures.below c.in-ReadObject.is) in
    c.chain-inner.ensures.each p.inner p.part ∙ ap (λ (z : TermTree). capped (term_weight c.args.scope.terms c.args.scope.powers.now z)) (sym (object-of (slice_get (nodes u) c.args.node) a _ e p.whole))

pub returns-in-Bound-clause-all : goal.returns-in-Bound-clause-all
returns-in-Bound-clause-all t c = λ a e.
    let u = c.args.table.now in
    let is = bound-at u c.args.node c.in-Bound.number a (shaped u c.args.node c.shape.result (s.Bound c.in-Bound.number) c.shape.ensures.tree c.shape.ensures.fits c.shape.ensures.below c.in-Bound.is) e in
    bound-weighs c.args.scope.terms c.args.scope.powers.now c.variable-each.result c.in-Bound.number a is c.variable-each.ensures

pub returns-in-Bound-clause-each : goal.returns-in-Bound-clause-each
returns-in-Bound-clause-each t c = λ a e.
    let u = c.args.table.now in
    let is = bound-at u c.args.node c.in-Bound.number a (shaped u c.args.node c.shape.result (s.Bound c.in-Bound.number) c.shape.ensures.tree c.shape.ensures.fits c.shape.ensures.below c.in-Bound.is) e in
    c.variable-each.ensures ∙ ap (λ (z : TermTree). capped (term_weight c.args.scope.terms c.args.scope.powers.now z)) (sym is)

pub returns-in_default : goal.returns-in_default
returns-in_default t c =
    let u = c.args.table.now in
    let whole : (a : TermTree) → slice_get (nodes u) c.args.node ≡ Some (of_object a) → tree_in u c.shape.result ≡ of_object a = λ a e. value-same (slice_get (nodes u) c.args.node) (tree_in u c.shape.result) (of_object a) c.shape.ensures.tree e in
    let read : (a : TermTree) → slice_get (nodes u) c.args.node ≡ Some (of_object a) → (f : FieldTree) (b : TermTree) → a ≡ tree.read_object f b → ⊥ = λ a e f b same. no-read u.pools (nodes u) c.shape.result f b c.in_default.not-ReadObject (whole a e ∙ ap of_object same) in
    let bound : (a : TermTree) → slice_get (nodes u) c.args.node ≡ Some (of_object a) → (k : ℕ) → a ≡ tree.bound k → ⊥ = λ a e k same. no-bound u.pools (nodes u) c.shape.result k c.in_default.not-Bound (whole a e ∙ ap of_object same) in
    record {
      all = λ a e. nothing-weighs ∙ ap capped (sym (no-weights c.args.scope.terms c.args.scope.powers.now a (read a e) (bound a e)));
      each = λ a e. nothing-weighs ∙ ap capped (sym (no-weight c.args.scope.terms c.args.scope.powers.now a (read a e) (bound a e)));
    }
