use Rattle.std.proofs.Common.{refl, sym, ap, subst, ◌∙◌, suc, slice_get, arith, add-one}
use Rattle.jh_form.specs.Tree.{of_truth}
use Rattle.jh_form.specs.Tree as tree
use Rattle.jh_arena.specs.table.Nodes.{nodes}
use Rattle.jh_arena.specs.declared.table.shapes.Shape.TheVariants as s
use Rattle.jh_inst.specs.instances.Prenex.{pulled}
use Rattle.jh_instantiation.specs.skolem_constants.Standing.{IsMatrix}
use Rattle.jh_instantiation.proofs.skolem_constants.Elses.{pulled-else}
use Rattle.jh_instantiation.proofs.skolem_constants.Joins.{pulled-joined}
use Rattle.jh_instantiation.proofs.skolem_constants.Shapes.{truth-inside, truth-grows, formula-at, formula-grows, formula-there, matrix-grows, at-formula, as-ok, shaped, and-parts, or-parts, all-part, not-and, not-or, not-all}
use Rattle.jh_instantiation.proofs.skolem_constants.pulling.+pulled.Goals as goal

pub pulled-shape-requires : goal.pulled-shape-requires
pulled-shape-requires t c = truth-inside (nodes c.args.table.now) c.args.node c.requires.there

pub pulled-pulled_both-requires : goal.pulled-pulled_both-requires
pulled-pulled_both-requires t c =
    let u = c.args.table.now in
    let p = and-parts u c.args.node c.in-And.a c.in-And.b (shaped u c.args.node c.shape.result (s.And c.in-And.a c.in-And.b) c.shape.ensures.tree c.shape.ensures.fits c.shape.ensures.below c.in-And.is) in
    (omega (arith, c.decreases, p.first, p.second), (formula-there (nodes u) c.in-And.a p.a p.left, (formula-there (nodes u) c.in-And.b p.b p.right, (p.first, p.second))))

pub pulled-returns-in-And-clause-node : goal.pulled-returns-in-And-clause-node
pulled-returns-in-And-clause-node t c = λ a e.
    let u = c.args.table.now in
    let p = and-parts u c.args.node c.in-And.a c.in-And.b (shaped u c.args.node c.shape.result (s.And c.in-And.a c.in-And.b) c.shape.ensures.tree c.shape.ensures.fits c.shape.ensures.below c.in-And.is) in
    at-formula (λ z made. IsMatrix c.pulled_both.new.table made.variables made.body (pulled z)) c.pulled_both.result (slice_get (nodes u) c.args.node) a (tree.and p.a p.b) e p.whole (c.pulled_both.ensures.node p.a p.b p.left p.right)

pub pulled-pulled_both-requires-in-Or : goal.pulled-pulled_both-requires-in-Or
pulled-pulled_both-requires-in-Or t c =
    let u = c.args.table.now in
    let p = or-parts u c.args.node c.in-Or.a c.in-Or.b (shaped u c.args.node c.shape.result (s.Or c.in-Or.a c.in-Or.b) c.shape.ensures.tree c.shape.ensures.fits c.shape.ensures.below c.in-Or.is) in
    (omega (arith, c.decreases, p.first, p.second), (formula-there (nodes u) c.in-Or.a p.a p.left, (formula-there (nodes u) c.in-Or.b p.b p.right, (p.first, p.second))))

pub pulled-returns-in-Or-clause-node : goal.pulled-returns-in-Or-clause-node
pulled-returns-in-Or-clause-node t c = λ a e.
    let u = c.args.table.now in
    let p = or-parts u c.args.node c.in-Or.a c.in-Or.b (shaped u c.args.node c.shape.result (s.Or c.in-Or.a c.in-Or.b) c.shape.ensures.tree c.shape.ensures.fits c.shape.ensures.below c.in-Or.is) in
    at-formula (λ z made. IsMatrix c.pulled_both-in-Or.new.table made.variables made.body (pulled z)) c.pulled_both-in-Or.result (slice_get (nodes u) c.args.node) a (tree.or p.a p.b) e p.whole (c.pulled_both-in-Or.ensures.node p.a p.b p.left p.right)

pub pulled-pulled_one-requires : goal.pulled-pulled_one-requires
pulled-pulled_one-requires t c =
    let u = c.args.table.now in
    let p = all-part u c.args.node c.in-All.a (shaped u c.args.node c.shape.result (s.All c.in-All.a) c.shape.ensures.tree c.shape.ensures.fits c.shape.ensures.below c.in-All.is) in
    (omega (arith, c.decreases, p.first), (formula-there (nodes u) c.in-All.a p.a p.left, p.first))

pub pulled-returns-in-All-clause-node : goal.pulled-returns-in-All-clause-node
pulled-returns-in-All-clause-node t c = λ a e.
    let u = c.args.table.now in
    let p = all-part u c.args.node c.in-All.a (shaped u c.args.node c.shape.result (s.All c.in-All.a) c.shape.ensures.tree c.shape.ensures.fits c.shape.ensures.below c.in-All.is) in
    at-formula (λ z made. IsMatrix c.pulled_one.new.table made.variables made.body (pulled z)) c.pulled_one.result (slice_get (nodes u) c.args.node) a (tree.all p.a) e p.whole (c.pulled_one.ensures.node p.a p.left)

pub pulled-returns-in_default-clause-node : goal.pulled-returns-in_default-clause-node
pulled-returns-in_default-clause-node t c = λ a e.
    let u = c.args.table.now in
    let x = c.shape.result in
    let at = c.shape.ensures.tree in
    let same = pulled-else a (not-and u c.args.node x a at e c.in_default.not-And) (not-or u c.args.node x a at e c.in_default.not-Or) (not-all u c.args.node x a at e c.in_default.not-All) in
    subst (λ m. IsMatrix u 0 c.args.node m) (sym same) (record { variables = refl; body = e })

pub pulled_one-returns-clause-node : goal.pulled_one-returns-clause-node
pulled_one-returns-clause-node t c = λ p e.
    let inner = c.in_ok-inner.ensures.node p e in
    record { variables = c.in_ok-variables.ensures ∙ add-one c.in_ok-inner.inner.variables ∙ ap suc inner.variables; body = inner.body }

pub pulled_both-pulled-requires-2 : goal.pulled_both-pulled-requires-2
pulled_both-pulled-requires-2 t c = (omega (arith, c.decreases, c.requires.below.1), truth-grows c.args.table.now c.pulled.new.table c.args.b c.pulled.ensures.grows c.requires.second)

pub pulled_both-pulled_together-requires-clause-first : goal.pulled_both-pulled_together-requires-clause-first
pulled_both-pulled_together-requires-clause-first t c =
    let there = c.in_ok-first.ensures.node _ (formula-at (nodes c.args.table.now) c.args.a c.requires.first) in
    formula-there (nodes c.pulled-2.new.table) c.in_ok-first.first.body _ (formula-grows c.pulled.new.table c.pulled-2.new.table c.in_ok-first.first.body _ c.pulled-2.ensures.grows there.body)

pub pulled_both-pulled_together-requires-clause-second : goal.pulled_both-pulled_together-requires-clause-second
pulled_both-pulled_together-requires-clause-second t c =
    let v = c.pulled.new.table in
    let there = c.in_ok-second.ensures.node _ (formula-at (nodes v) c.args.b (truth-grows c.args.table.now v c.args.b c.pulled.ensures.grows c.requires.second)) in
    formula-there (nodes c.pulled-2.new.table) c.in_ok-second.second.body _ there.body

pub pulled_both-returns-clause-node : goal.pulled_both-returns-clause-node
pulled_both-returns-clause-node t c = λ p q hp hq.
    let v = c.pulled.new.table in
    let x = c.pulled-2.new.table in
    let first = matrix-grows v x c.in_ok-first.first.variables c.in_ok-first.first.body (pulled p) c.pulled-2.ensures.grows (c.in_ok-first.ensures.node p hp) in
    let second = c.in_ok-second.ensures.node q (formula-grows c.args.table.now v c.args.b q c.pulled.ensures.grows hq) in
    as-ok (λ m made. IsMatrix c.pulled_together.new.table made.variables made.body m) c.pulled_together.result (pulled-joined c.args.conjoined p q) (c.pulled_together.ensures.node (pulled p) (pulled q) first second)
