use Rattle.std.proofs.Common.{◌≡◌, ◌∙◌, sym, slice_get, Some}
use Rattle.std.proofs.lemmas.Result.{IfOk-weaker}
use Rattle.jh_form.specs.Tree.{of_truth}
use Rattle.jh_form.specs.Tree as tree
use Rattle.jh_arena.specs.table.Entries.{the_truth}
use Rattle.jh_arena.specs.table.Nodes.{nodes}
use Rattle.jh_instantiation.specs.skolem_constants.Standing.{IsFormula, joined}
use Rattle.jh_instantiation.proofs.skolem_constants.Shapes.{truth-at}
use Rattle.jh_instantiation.proofs.skolem_constants.witnessing.join.Goals as goal

pub returns-then-conjoined-clause-node : goal.returns-then-conjoined-clause-node
returns-then-conjoined-clause-node c = λ p q e f.
    let u = c.args.table.now in
    let v = c.conjunction.new.table in
    let left = truth-at (slice_get (nodes u) c.args.a) p e in
    let right = truth-at (slice_get (nodes u) c.args.b) q f in
    IfOk-weaker
    c.conjunction.result
    (λ made. slice_get (nodes v) made ≡ Some (of_truth (tree.and (the_truth (slice_get (nodes u) c.args.a)) (the_truth (slice_get (nodes u) c.args.b)))))
    (λ made. IsFormula v made (joined c.args.conjoined p q))
    (λ made is. is ∙ (λ i. Some (of_truth (tree.and (left i) (right i)))) ∙ (λ i. Some (of_truth (joined (sym c.if-conjoined.true i) p q))))
    c.conjunction.ensures.node

pub returns-else-conjoined-clause-node : goal.returns-else-conjoined-clause-node
returns-else-conjoined-clause-node c = λ p q e f.
    let u = c.args.table.now in
    let v = c.disjunction.new.table in
    let left = truth-at (slice_get (nodes u) c.args.a) p e in
    let right = truth-at (slice_get (nodes u) c.args.b) q f in
    IfOk-weaker
    c.disjunction.result
    (λ made. slice_get (nodes v) made ≡ Some (of_truth (tree.or (the_truth (slice_get (nodes u) c.args.a)) (the_truth (slice_get (nodes u) c.args.b)))))
    (λ made. IsFormula v made (joined c.args.conjoined p q))
    (λ made is. is ∙ (λ i. Some (of_truth (tree.or (left i) (right i)))) ∙ (λ i. Some (of_truth (joined (sym c.if-conjoined.false i) p q))))
    c.disjunction.ensures.node
