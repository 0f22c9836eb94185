use Rattle.std.proofs.Common.{◌≡◌, sym, ap, ◌∙◌, ◌∷◌, ℕ, List, slice_get, arith, add-one}
use Rattle.jh_form.specs.Tree as tree
use Rattle.jh_arena.specs.table.Nodes.{nodes}
use Rattle.jh_arena.specs.declared.table.shapes.Shape.TheVariants as s
use Rattle.jh_query.specs.queries.Size.{capped}
use Rattle.jh_query.proofs.queries.Ceilings.{plus-capped}
use Rattle.jh_inst.specs.instances.Count as spec
use Rattle.jh_instantiation.proofs.skolem_constants.Shapes.{truth-inside, formula-there, at-formula, as-ok, shaped, negation-part, and-parts, or-parts, all-part, ex-part, not-and, not-or, not-all, not-ex}
use Rattle.jh_instantiation.proofs.instance_count.Weights.{not-negation, weight-else}
use Rattle.jh_instantiation.proofs.instance_count.weighing.+weight.Goals as goal

pub weight-shape-requires : goal.weight-shape-requires
weight-shape-requires t c = truth-inside (nodes c.args.table.now) c.args.node c.requires.there

pub weight-weight-requires : goal.weight-weight-requires
weight-weight-requires t c =
    let u = c.args.table.now in
    let p = negation-part u c.args.node c.in-Negation.a (shaped u c.args.node c.shape.result (s.Negation c.in-Negation.a) c.shape.ensures.tree c.shape.ensures.fits c.shape.ensures.below c.in-Negation.is) in
    (omega (arith, c.decreases, p.first), formula-there (nodes u) c.in-Negation.a p.a p.left)

pub weight-returns-in-Negation : goal.weight-returns-in-Negation
weight-returns-in-Negation t c = λ a e.
    let u = c.args.table.now in
    let p = negation-part u c.args.node c.in-Negation.a (shaped u c.args.node c.shape.result (s.Negation c.in-Negation.a) c.shape.ensures.tree c.shape.ensures.fits c.shape.ensures.below c.in-Negation.is) in
    at-formula (λ z made. made ≡ capped (spec.weight c.args.scope.terms z c.args.scope.powers.now c.args.outer)) c.weight.result (slice_get (nodes u) c.args.node) a (tree.negation p.a) e p.whole (c.weight.ensures p.a p.left)

pub weight-both-requires : goal.weight-both-requires
weight-both-requires t c =
    let u = c.args.table.now in
    let p = and-parts u c.args.node c.in-And.a c.in-And.b (shaped u c.args.node c.shape.result (s.And c.in-And.a c.in-And.b) c.shape.ensures.tree c.shape.ensures.fits c.shape.ensures.below c.in-And.is) in
    (omega (arith, c.decreases, p.first, p.second), (formula-there (nodes u) c.in-And.a p.a p.left, (formula-there (nodes u) c.in-And.b p.b p.right, (p.first, p.second))))

pub weight-returns-in-And : goal.weight-returns-in-And
weight-returns-in-And t c = λ a e.
    let u = c.args.table.now in
    let p = and-parts u c.args.node c.in-And.a c.in-And.b (shaped u c.args.node c.shape.result (s.And c.in-And.a c.in-And.b) c.shape.ensures.tree c.shape.ensures.fits c.shape.ensures.below c.in-And.is) in
    at-formula (λ z made. made ≡ capped (spec.weight c.args.scope.terms z c.args.scope.powers.now c.args.outer)) c.both.result (slice_get (nodes u) c.args.node) a (tree.and p.a p.b) e p.whole (c.both.ensures p.a p.b p.left p.right)

pub weight-both-requires-in-Or : goal.weight-both-requires-in-Or
weight-both-requires-in-Or t c =
    let u = c.args.table.now in
    let p = or-parts u c.args.node c.in-Or.a c.in-Or.b (shaped u c.args.node c.shape.result (s.Or c.in-Or.a c.in-Or.b) c.shape.ensures.tree c.shape.ensures.fits c.shape.ensures.below c.in-Or.is) in
    (omega (arith, c.decreases, p.first, p.second), (formula-there (nodes u) c.in-Or.a p.a p.left, (formula-there (nodes u) c.in-Or.b p.b p.right, (p.first, p.second))))

pub weight-returns-in-Or : goal.weight-returns-in-Or
weight-returns-in-Or t c = λ a e.
    let u = c.args.table.now in
    let p = or-parts u c.args.node c.in-Or.a c.in-Or.b (shaped u c.args.node c.shape.result (s.Or c.in-Or.a c.in-Or.b) c.shape.ensures.tree c.shape.ensures.fits c.shape.ensures.below c.in-Or.is) in
    at-formula (λ z made. made ≡ capped (spec.weight c.args.scope.terms z c.args.scope.powers.now c.args.outer)) c.both-in-Or.result (slice_get (nodes u) c.args.node) a (tree.or p.a p.b) e p.whole (c.both-in-Or.ensures p.a p.b p.left p.right)

pub weight-inside-requires : goal.weight-inside-requires
weight-inside-requires t c =
    let u = c.args.table.now in
    let p = all-part u c.args.node c.in-All.a (shaped u c.args.node c.shape.result (s.All c.in-All.a) c.shape.ensures.tree c.shape.ensures.fits c.shape.ensures.below c.in-All.is) in
    (omega (arith, c.decreases, p.first), (formula-there (nodes u) c.in-All.a p.a p.left, p.first))

pub weight-returns-in_ok-more-in-All : goal.weight-returns-in_ok-more-in-All
weight-returns-in_ok-more-in-All t c = λ a e.
    let u = c.args.table.now in
    let p = all-part u c.args.node c.in-All.a (shaped u c.args.node c.shape.result (s.All c.in-All.a) c.shape.ensures.tree c.shape.ensures.fits c.shape.ensures.below c.in-All.is) in
    at-formula (λ z made. made ≡ capped (spec.weight c.args.scope.terms z c.args.scope.powers.now c.args.outer)) c.inside.result (slice_get (nodes u) c.args.node) a (tree.all p.a) e p.whole
    (as-ok (λ (m : ℕ) made. made ≡ capped (spec.weight c.args.scope.terms p.a (1 ∷ c.args.scope.powers.now) m)) c.inside.result (c.in_ok-more-in-All.ensures ∙ add-one c.args.outer) (c.inside.ensures p.a p.left))

pub weight-inside-requires-in-Ex : goal.weight-inside-requires-in-Ex
weight-inside-requires-in-Ex t c =
    let u = c.args.table.now in
    let p = ex-part u c.args.node c.in-Ex.a (shaped u c.args.node c.shape.result (s.Ex c.in-Ex.a) c.shape.ensures.tree c.shape.ensures.fits c.shape.ensures.below c.in-Ex.is) in
    (omega (arith, c.decreases, p.first), (formula-there (nodes u) c.in-Ex.a p.a p.left, p.first))

pub weight-returns-in-Ex : goal.weight-returns-in-Ex
weight-returns-in-Ex t c = λ a e.
    let u = c.args.table.now in
    let p = ex-part u c.args.node c.in-Ex.a (shaped u c.args.node c.shape.result (s.Ex c.in-Ex.a) c.shape.ensures.tree c.shape.ensures.fits c.shape.ensures.below c.in-Ex.is) in
    at-formula (λ z made. made ≡ capped (spec.weight c.args.scope.terms z c.args.scope.powers.now c.args.outer)) c.inside-in-Ex.result (slice_get (nodes u) c.args.node) a (tree.ex p.a) e p.whole (c.inside-in-Ex.ensures p.a p.left)

pub weight-returns-in_default : goal.weight-returns-in_default
weight-returns-in_default t c = λ a e.
    let u = c.args.table.now in
    let x = c.shape.result in
    let at = c.shape.ensures.tree in
    let same = weight-else c.args.scope.terms c.args.scope.powers.now a c.args.outer (not-negation u c.args.node x a at e c.in_default.not-Negation) (not-and u c.args.node x a at e c.in_default.not-And) (not-or u c.args.node x a at e c.in_default.not-Or) (not-all u c.args.node x a at e c.in_default.not-All) (not-ex u c.args.node x a at e c.in_default.not-Ex) in
    c.atom.ensures a e ∙ ap capped (sym same)

pub both-weight-requires-2 : goal.both-weight-requires-2
both-weight-requires-2 t c = (omega (arith, c.decreases, c.requires.below.1), c.requires.second)

pub both-returns : goal.both-returns
both-returns t c = λ p q e f.
    plus-capped c.plus.result c.in_ok-first.first c.in_ok-second.second (spec.weight c.args.scope.terms p c.args.scope.powers.now c.args.outer) (spec.weight c.args.scope.terms q c.args.scope.powers.now c.args.outer) c.plus.ensures (c.in_ok-first.ensures p e) (c.in_ok-second.ensures q f)

pub inside-returns : goal.inside-returns
inside-returns t c = λ p e.
    as-ok (λ (ps : List ℕ) made. made ≡ capped (spec.weight c.args.scope.terms p ps c.args.outer)) c.weight.result (c.as_slice.ensures.value ∙ c.in_ok-powers.ensures) (c.weight.ensures p e)
