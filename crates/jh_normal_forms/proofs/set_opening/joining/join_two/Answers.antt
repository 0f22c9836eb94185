use Rattle.std.proofs.Common.{◌≡◌, sym, ap, ◌∙◌, Some, slice_get}
use Rattle.std.proofs.lemmas.Result.{IfOk-weaker}
use Rattle.jh_form.specs.Tree.{of_object, of_set, of_truth}
use Rattle.jh_form.specs.Tree as t
use Rattle.jh_arena.specs.table.Entries.{the_truth}
use Rattle.jh_arena.specs.table.Nodes.{nodes}
use Rattle.jh_normal_forms.specs.set_opening.Joining.{joined}
use Rattle.jh_normal_forms.proofs.set_opening.joining.join_two.Goals as goal

pub returns-in-Or-clause-node : goal.returns-in-Or-clause-node
returns-in-Or-clause-node c =
    let p = the_truth (slice_get (nodes c.args.table.now) c.args.a) in
    let q = the_truth (slice_get (nodes c.args.table.now) c.args.b) in
    IfOk-weaker
    c.disjunction.result
    (λ made. slice_get (nodes c.disjunction.new.table) made ≡ Some (of_truth (t.or p q)))
    (λ made. slice_get (nodes c.disjunction.new.table) made ≡ Some (of_truth (joined c.args.how p q)))
    (λ made at. at ∙ ap (λ h. Some (of_truth (joined h p q))) (sym c.in-Or.is))
    c.disjunction.ensures.node

pub returns-in-And-clause-node : goal.returns-in-And-clause-node
returns-in-And-clause-node c =
    let p = the_truth (slice_get (nodes c.args.table.now) c.args.a) in
    let q = the_truth (slice_get (nodes c.args.table.now) c.args.b) in
    IfOk-weaker
    c.conjunction.result
    (λ made. slice_get (nodes c.conjunction.new.table) made ≡ Some (of_truth (t.and p q)))
    (λ made. slice_get (nodes c.conjunction.new.table) made ≡ Some (of_truth (joined c.args.how p q)))
    (λ made at. at ∙ ap (λ h. Some (of_truth (joined h p q))) (sym c.in-And.is))
    c.conjunction.ensures.node

pub returns-in-Iff-clause-node : goal.returns-in-Iff-clause-node
returns-in-Iff-clause-node c =
    let p = the_truth (slice_get (nodes c.args.table.now) c.args.a) in
    let q = the_truth (slice_get (nodes c.args.table.now) c.args.b) in
    IfOk-weaker
    c.equivalence.result
    (λ made. slice_get (nodes c.equivalence.new.table) made ≡ Some (of_truth (t.iff p q)))
    (λ made. slice_get (nodes c.equivalence.new.table) made ≡ Some (of_truth (joined c.args.how p q)))
    (λ made at. at ∙ ap (λ h. Some (of_truth (joined h p q))) (sym c.in-Iff.is))
    c.equivalence.ensures.node

pub returns-in-Implies-clause-node : goal.returns-in-Implies-clause-node
returns-in-Implies-clause-node c =
    let p = the_truth (slice_get (nodes c.args.table.now) c.args.a) in
    let q = the_truth (slice_get (nodes c.args.table.now) c.args.b) in
    IfOk-weaker
    c.implication.result
    (λ made. slice_get (nodes c.implication.new.table) made ≡ Some (of_truth (t.implies p q)))
    (λ made. slice_get (nodes c.implication.new.table) made ≡ Some (of_truth (joined c.args.how p q)))
    (λ made at. at ∙ ap (λ h. Some (of_truth (joined h p q))) (sym c.in-Implies.is))
    c.implication.ensures.node

pub returns-in-AndNot-clause-node : goal.returns-in-AndNot-clause-node
returns-in-AndNot-clause-node c =
    let p = the_truth (slice_get (nodes c.args.table.now) c.args.a) in
    let q = the_truth (slice_get (nodes c.args.table.now) c.args.b) in
    IfOk-weaker
    c.and_not.result
    (λ made. slice_get (nodes c.and_not.new.table) made ≡ Some (of_truth (t.and p (t.negation q))))
    (λ made. slice_get (nodes c.and_not.new.table) made ≡ Some (of_truth (joined c.args.how p q)))
    (λ made at. at ∙ ap (λ h. Some (of_truth (joined h p q))) (sym c.in-AndNot.is))
    c.and_not.ensures.node
