use Rattle.std.proofs.Common.{◌≡◌, refl, sym, ap, ◌∙◌, ℕ, Some, slice_get}
use Rattle.std.proofs.lemmas.Result.{IfOk-weaker}
use Rattle.jh_form.specs.Tree.{ValueTree, of_object, of_number, of_truth, of_set}
use Rattle.jh_form.specs.Tree as t
use Rattle.jh_arena.specs.table.Entries.{the_object, the_number, the_truth, the_set}
use Rattle.jh_arena.specs.table.Nodes.{nodes}
use Rattle.jh_local_form.specs.updates.Describing.{same_as}
use Rattle.jh_local_form.proofs.updates.Described.{object-held, number-held, truth-held, set-held, sort-at, same-objects, same-numbers, same-truths, same-sets, same-fields}
use Rattle.jh_local_form.proofs.updates.describing.same_as.Goals as goal

pub same_object-requires-clause-a : goal.same_object-requires-clause-a
same_object-requires-clause-a c = object-held (nodes c.args.table.now) c.args.sort c.args.a c.requires.a c.in-Obj.is

pub same_object-requires-clause-b : goal.same_object-requires-clause-b
same_object-requires-clause-b c = object-held (nodes c.args.table.now) c.args.sort c.args.b c.requires.b c.in-Obj.is

pub returns-in-Obj-clause-node : goal.returns-in-Obj-clause-node
returns-in-Obj-clause-node c =
    let ts = nodes c.args.table.now in
    let us = nodes c.same_object.new.table in
    IfOk-weaker
    c.same_object.result
    (λ made. slice_get us made ≡ Some (of_truth (t.eq_object (the_object (slice_get ts c.args.a)) (the_object (slice_get ts c.args.b)))))
    (λ made. (v w : ValueTree) → slice_get ts c.args.a ≡ Some v → slice_get ts c.args.b ≡ Some w → slice_get us made ≡ Some (of_truth (same_as v w)))
    (λ made e v w hv hw. e ∙ (λ i. Some (of_truth (t.eq_object (the_object (hv i)) (the_object (hw i))))) ∙ ap (λ f. Some (of_truth f)) (same-objects v w (sort-at ts c.args.sort c.args.a v c.requires.a hv ∙ c.in-Obj.is) (sort-at ts c.args.sort c.args.b w c.requires.b hw ∙ c.in-Obj.is)))
    c.same_object.ensures.node

pub same_number-requires-clause-a : goal.same_number-requires-clause-a
same_number-requires-clause-a c = number-held (nodes c.args.table.now) c.args.sort c.args.a c.requires.a c.in-Int.is

pub same_number-requires-clause-b : goal.same_number-requires-clause-b
same_number-requires-clause-b c = number-held (nodes c.args.table.now) c.args.sort c.args.b c.requires.b c.in-Int.is

pub returns-in-Int-clause-node : goal.returns-in-Int-clause-node
returns-in-Int-clause-node c =
    let ts = nodes c.args.table.now in
    let us = nodes c.same_number.new.table in
    IfOk-weaker
    c.same_number.result
    (λ made. slice_get us made ≡ Some (of_truth (t.eq_number (the_number (slice_get ts c.args.a)) (the_number (slice_get ts c.args.b)))))
    (λ made. (v w : ValueTree) → slice_get ts c.args.a ≡ Some v → slice_get ts c.args.b ≡ Some w → slice_get us made ≡ Some (of_truth (same_as v w)))
    (λ made e v w hv hw. e ∙ (λ i. Some (of_truth (t.eq_number (the_number (hv i)) (the_number (hw i))))) ∙ ap (λ f. Some (of_truth f)) (same-numbers v w (sort-at ts c.args.sort c.args.a v c.requires.a hv ∙ c.in-Int.is) (sort-at ts c.args.sort c.args.b w c.requires.b hw ∙ c.in-Int.is)))
    c.same_number.ensures.node

pub equivalence-requires-clause-a : goal.equivalence-requires-clause-a
equivalence-requires-clause-a c = truth-held (nodes c.args.table.now) c.args.sort c.args.a c.requires.a c.in-Bool.is

pub equivalence-requires-clause-b : goal.equivalence-requires-clause-b
equivalence-requires-clause-b c = truth-held (nodes c.args.table.now) c.args.sort c.args.b c.requires.b c.in-Bool.is

pub returns-in-Bool-clause-node : goal.returns-in-Bool-clause-node
returns-in-Bool-clause-node c =
    let ts = nodes c.args.table.now in
    let us = nodes c.equivalence.new.table in
    IfOk-weaker
    c.equivalence.result
    (λ made. slice_get us made ≡ Some (of_truth (t.iff (the_truth (slice_get ts c.args.a)) (the_truth (slice_get ts c.args.b)))))
    (λ made. (v w : ValueTree) → slice_get ts c.args.a ≡ Some v → slice_get ts c.args.b ≡ Some w → slice_get us made ≡ Some (of_truth (same_as v w)))
    (λ made e v w hv hw. e ∙ (λ i. Some (of_truth (t.iff (the_truth (hv i)) (the_truth (hw i))))) ∙ ap (λ f. Some (of_truth f)) (same-truths v w (sort-at ts c.args.sort c.args.a v c.requires.a hv ∙ c.in-Bool.is) (sort-at ts c.args.sort c.args.b w c.requires.b hw ∙ c.in-Bool.is)))
    c.equivalence.ensures.node

pub same_set-requires-clause-a : goal.same_set-requires-clause-a
same_set-requires-clause-a c = set-held (nodes c.args.table.now) c.args.sort c.args.a c.requires.a c.in-Set.is

pub same_set-requires-clause-b : goal.same_set-requires-clause-b
same_set-requires-clause-b c = set-held (nodes c.args.table.now) c.args.sort c.args.b c.requires.b c.in-Set.is

pub returns-in-Set-clause-node : goal.returns-in-Set-clause-node
returns-in-Set-clause-node c =
    let ts = nodes c.args.table.now in
    let us = nodes c.same_set.new.table in
    IfOk-weaker
    c.same_set.result
    (λ made. slice_get us made ≡ Some (of_truth (t.eq_set (the_set (slice_get ts c.args.a)) (the_set (slice_get ts c.args.b)))))
    (λ made. (v w : ValueTree) → slice_get ts c.args.a ≡ Some v → slice_get ts c.args.b ≡ Some w → slice_get us made ≡ Some (of_truth (same_as v w)))
    (λ made e v w hv hw. e ∙ (λ i. Some (of_truth (t.eq_set (the_set (hv i)) (the_set (hw i))))) ∙ ap (λ f. Some (of_truth f)) (same-sets v w (sort-at ts c.args.sort c.args.a v c.requires.a hv ∙ c.in-Set.is) (sort-at ts c.args.sort c.args.b w c.requires.b hw ∙ c.in-Set.is)))
    c.same_set.ensures.node

pub returns-in-Field-clause-node : goal.returns-in-Field-clause-node
returns-in-Field-clause-node c =
    let ts = nodes c.args.table.now in
    let us = nodes c.truth.new.table in
    IfOk-weaker
    c.truth.result
    (λ made. slice_get us made ≡ Some (of_truth t.true_formula))
    (λ made. (v w : ValueTree) → slice_get ts c.args.a ≡ Some v → slice_get ts c.args.b ≡ Some w → slice_get us made ≡ Some (of_truth (same_as v w)))
    (λ made e v w hv hw. e ∙ ap (λ f. Some (of_truth f)) (same-fields v w (sort-at ts c.args.sort c.args.a v c.requires.a hv ∙ c.in-Field.is)))
    c.truth.ensures.node
