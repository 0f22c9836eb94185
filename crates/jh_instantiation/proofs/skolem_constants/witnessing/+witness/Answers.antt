use Rattle.std.proofs.Common.{◌≡◌, sym, ap, ◌∙◌, ◌+◌, ℕ, List, map, slice_get, Some, arith, add-one}
use Rattle.std.proofs.lemmas.Result.{IfOk-weaker}
use Rattle.jh_form.specs.Tree.{of_truth}
use Rattle.jh_form.specs.Tree as tree
use Rattle.jh_arena.specs.table.Nodes.{nodes}
use Rattle.jh_arena.specs.declared.table.shapes.Shape.TheVariants as s
use Rattle.jh_seq.specs.splitting.Split.{constant}
use Rattle.jh_inst.specs.instances.Witnesses.{witnesses, witnessed}
use Rattle.jh_instantiation.specs.skolem_constants.Standing.{IsFormula}
use Rattle.jh_instantiation.proofs.skolem_constants.Elses.{witnessed-else, witnesses-else}
use Rattle.jh_instantiation.proofs.skolem_constants.Joins.{witnessed-joined, witnesses-joined}
use Rattle.jh_instantiation.proofs.skolem_constants.Shapes.{truth-inside, truth-grows, formula-at, formula-grows, formula-there, at-formula, as-ok, shaped, and-parts, or-parts, ex-part, not-and, not-or, not-ex}
use Rattle.jh_instantiation.proofs.skolem_constants.witnessing.+witness.Goals as goal

pub witness-shape-requires : goal.witness-shape-requires
witness-shape-requires t c = truth-inside (nodes c.args.table.now) c.args.node c.requires.there

pub witness-witness_both-requires : goal.witness-witness_both-requires
witness-witness_both-requires t c =
    let u = c.args.table.now in
    let p = and-parts u c.args.node c.in-And.a c.in-And.b (shaped u c.args.node c.shape.result (s.And c.in-And.a c.in-And.b) c.shape.ensures.tree c.shape.ensures.fits c.shape.ensures.below c.in-And.is) in
    (omega (arith, c.decreases, p.first, p.second), (formula-there (nodes u) c.in-And.a p.a p.left, (formula-there (nodes u) c.in-And.b p.b p.right, (p.first, p.second))))

pub witness-returns-in-And-clause-node : goal.witness-returns-in-And-clause-node
witness-returns-in-And-clause-node t c = λ a e.
    let u = c.args.table.now in
    let p = and-parts u c.args.node c.in-And.a c.in-And.b (shaped u c.args.node c.shape.result (s.And c.in-And.a c.in-And.b) c.shape.ensures.tree c.shape.ensures.fits c.shape.ensures.below c.in-And.is) in
    at-formula (λ z made. IsFormula c.witness_both.new.table made.node (witnessed z (map constant c.args.turns.now) c.args.next)) c.witness_both.result (slice_get (nodes u) c.args.node) a (tree.and p.a p.b) e p.whole
    (c.witness_both.ensures.node p.a p.b p.left p.right)

pub witness-returns-in-And-clause-next : goal.witness-returns-in-And-clause-next
witness-returns-in-And-clause-next t c = λ a e.
    let u = c.args.table.now in
    let p = and-parts u c.args.node c.in-And.a c.in-And.b (shaped u c.args.node c.shape.result (s.And c.in-And.a c.in-And.b) c.shape.ensures.tree c.shape.ensures.fits c.shape.ensures.below c.in-And.is) in
    at-formula (λ z made. made.next ≡ c.args.next + witnesses z) c.witness_both.result (slice_get (nodes u) c.args.node) a (tree.and p.a p.b) e p.whole (c.witness_both.ensures.next p.a p.b p.left p.right)

pub witness-witness_both-requires-in-Or : goal.witness-witness_both-requires-in-Or
witness-witness_both-requires-in-Or t c =
    let u = c.args.table.now in
    let p = or-parts u c.args.node c.in-Or.a c.in-Or.b (shaped u c.args.node c.shape.result (s.Or c.in-Or.a c.in-Or.b) c.shape.ensures.tree c.shape.ensures.fits c.shape.ensures.below c.in-Or.is) in
    (omega (arith, c.decreases, p.first, p.second), (formula-there (nodes u) c.in-Or.a p.a p.left, (formula-there (nodes u) c.in-Or.b p.b p.right, (p.first, p.second))))

pub witness-returns-in-Or-clause-node : goal.witness-returns-in-Or-clause-node
witness-returns-in-Or-clause-node t c = λ a e.
    let u = c.args.table.now in
    let p = or-parts u c.args.node c.in-Or.a c.in-Or.b (shaped u c.args.node c.shape.result (s.Or c.in-Or.a c.in-Or.b) c.shape.ensures.tree c.shape.ensures.fits c.shape.ensures.below c.in-Or.is) in
    at-formula (λ z made. IsFormula c.witness_both-in-Or.new.table made.node (witnessed z (map constant c.args.turns.now) c.args.next)) c.witness_both-in-Or.result (slice_get (nodes u) c.args.node) a (tree.or p.a p.b) e p.whole
    (c.witness_both-in-Or.ensures.node p.a p.b p.left p.right)

pub witness-returns-in-Or-clause-next : goal.witness-returns-in-Or-clause-next
witness-returns-in-Or-clause-next t c = λ a e.
    let u = c.args.table.now in
    let p = or-parts u c.args.node c.in-Or.a c.in-Or.b (shaped u c.args.node c.shape.result (s.Or c.in-Or.a c.in-Or.b) c.shape.ensures.tree c.shape.ensures.fits c.shape.ensures.below c.in-Or.is) in
    at-formula (λ z made. made.next ≡ c.args.next + witnesses z) c.witness_both-in-Or.result (slice_get (nodes u) c.args.node) a (tree.or p.a p.b) e p.whole (c.witness_both-in-Or.ensures.next p.a p.b p.left p.right)

pub witness-witness_one-requires : goal.witness-witness_one-requires
witness-witness_one-requires t c =
    let u = c.args.table.now in
    let p = ex-part u c.args.node c.in-Ex.a (shaped u c.args.node c.shape.result (s.Ex c.in-Ex.a) c.shape.ensures.tree c.shape.ensures.fits c.shape.ensures.below c.in-Ex.is) in
    (omega (arith, c.decreases, p.first), (formula-there (nodes u) c.in-Ex.a p.a p.left, p.first))

pub witness-returns-in-Ex-clause-node : goal.witness-returns-in-Ex-clause-node
witness-returns-in-Ex-clause-node t c = λ a e.
    let u = c.args.table.now in
    let p = ex-part u c.args.node c.in-Ex.a (shaped u c.args.node c.shape.result (s.Ex c.in-Ex.a) c.shape.ensures.tree c.shape.ensures.fits c.shape.ensures.below c.in-Ex.is) in
    at-formula (λ z made. IsFormula c.witness_one.new.table made.node (witnessed z (map constant c.args.turns.now) c.args.next)) c.witness_one.result (slice_get (nodes u) c.args.node) a (tree.ex p.a) e p.whole
    (c.witness_one.ensures.node p.a p.left)

pub witness-returns-in-Ex-clause-next : goal.witness-returns-in-Ex-clause-next
witness-returns-in-Ex-clause-next t c = λ a e.
    let u = c.args.table.now in
    let p = ex-part u c.args.node c.in-Ex.a (shaped u c.args.node c.shape.result (s.Ex c.in-Ex.a) c.shape.ensures.tree c.shape.ensures.fits c.shape.ensures.below c.in-Ex.is) in
    at-formula (λ z made. made.next ≡ c.args.next + witnesses z) c.witness_one.result (slice_get (nodes u) c.args.node) a (tree.ex p.a) e p.whole (c.witness_one.ensures.next p.a p.left)

pub witness-returns-in_default-clause-node : goal.witness-returns-in_default-clause-node
witness-returns-in_default-clause-node t c = λ a e.
    let u = c.args.table.now in
    let x = c.shape.result in
    let at = c.shape.ensures.tree in
    let same = witnessed-else a (map constant c.args.turns.now) c.args.next (not-and u c.args.node x a at e c.in_default.not-And) (not-or u c.args.node x a at e c.in_default.not-Or) (not-ex u c.args.node x a at e c.in_default.not-Ex) in
    as-ok (λ z made. IsFormula c.close.new.table made.node z) c.close.result (sym same) (c.close.ensures.node a e)

pub witness-returns-in_default-clause-next : goal.witness-returns-in_default-clause-next
witness-returns-in_default-clause-next t c = λ a e.
    let u = c.args.table.now in
    let x = c.shape.result in
    let at = c.shape.ensures.tree in
    let none : witnesses a ≡ 0 = witnesses-else a (not-and u c.args.node x a at e c.in_default.not-And) (not-or u c.args.node x a at e c.in_default.not-Or) (not-ex u c.args.node x a at e c.in_default.not-Ex) in
    IfOk-weaker c.close.result (λ made. made.next ≡ c.args.next) (λ made. made.next ≡ c.args.next + witnesses a) (λ made h. omega (arith, h, none)) c.close.ensures.next

pub witness_both-witness-requires-2 : goal.witness_both-witness-requires-2
witness_both-witness-requires-2 t c = (omega (arith, c.decreases, c.requires.below.1), truth-grows c.args.table.now c.witness.new.table c.args.b c.witness.ensures.grows c.requires.second)

pub witness_both-join-requires-clause-first : goal.witness_both-join-requires-clause-first
witness_both-join-requires-clause-first t c =
    let u = c.args.table.now in
    let there = c.in_ok-left.ensures.node _ (formula-at (nodes u) c.args.a c.requires.first) in
    formula-there (nodes c.witness-2.new.table) c.in_ok-left.left.node _ (formula-grows c.witness.new.table c.witness-2.new.table c.in_ok-left.left.node _ c.witness-2.ensures.grows there)

pub witness_both-join-requires-clause-second : goal.witness_both-join-requires-clause-second
witness_both-join-requires-clause-second t c =
    let v = c.witness.new.table in
    let there = c.in_ok-right.ensures.node _ (formula-at (nodes v) c.args.b (truth-grows c.args.table.now v c.args.b c.witness.ensures.grows c.requires.second)) in
    formula-there (nodes c.witness-2.new.table) c.in_ok-right.right.node _ there

pub witness_both-returns-clause-node : goal.witness_both-returns-clause-node
witness_both-returns-clause-node t c = λ p q hp hq.
    let ws = map constant c.args.turns.now in
    let left = c.in_ok-left.ensures.node p hp in
    let next = c.in_ok-left.ensures.next p hp in
    let right = c.in_ok-right.ensures.node q (formula-grows c.args.table.now c.witness.new.table c.args.b q c.witness.ensures.grows hq) in
    let made = c.in_ok-node.ensures.node _ _ (formula-grows c.witness.new.table c.witness-2.new.table c.in_ok-left.left.node _ c.witness-2.ensures.grows left) right in
    made ∙ ap (λ z. Some (of_truth z)) (witnessed-joined c.args.conjoined p q ws c.args.next c.in_ok-left.left.next next)

pub witness_both-returns-clause-next : goal.witness_both-returns-clause-next
witness_both-returns-clause-next t c = λ p q hp hq.
    let next = c.in_ok-left.ensures.next p hp in
    let end = c.in_ok-right.ensures.next q (formula-grows c.args.table.now c.witness.new.table c.args.b q c.witness.ensures.grows hq) in
    let sum = witnesses-joined c.args.conjoined p q in
    omega (arith, next, end, sum)

pub witness_one-returns-clause-node : goal.witness_one-returns-clause-node
witness_one-returns-clause-node t c = λ p hp.
    let turns = c.as_slice.ensures.value ∙ c.in_ok-inner.ensures in
    as-ok (λ (ms : List ℕ × ℕ) made. IsFormula c.witness.new.table made.node (witnessed p (map constant ms.0) ms.1)) c.witness.result (λ i. (turns i, (c.in_ok-after.ensures ∙ add-one c.args.next) i)) (c.witness.ensures.node p hp)

pub witness_one-returns-clause-next : goal.witness_one-returns-clause-next
witness_one-returns-clause-next t c = λ p hp.
    IfOk-weaker c.witness.result (λ made. made.next ≡ c.in_ok-after.after + witnesses p) (λ made. made.next ≡ c.args.next + witnesses (tree.ex p)) (λ made h. omega (arith, h, c.in_ok-after.ensures)) (c.witness.ensures.next p hp)
