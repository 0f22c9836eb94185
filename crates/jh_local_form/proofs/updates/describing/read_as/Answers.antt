use Rattle.std.proofs.Common.{◌≡◌, refl, sym, ap, ◌∙◌, ℕ, Some, slice_get}
use Rattle.std.proofs.lemmas.Result.{IfOk-weaker}
use Rattle.jh_form.specs.Tree.{TermTree, FieldTree, of_object, of_number, of_truth, of_set, of_field}
use Rattle.jh_form.specs.Tree as t
use Rattle.jh_arena.specs.table.Entries.{the_field, the_object}
use Rattle.jh_arena.specs.table.Nodes.{nodes}
use Rattle.jh_reach.proofs.NodeSteps.{field-there, object-there}
use Rattle.jh_local_form.specs.updates.Describing.{read_as}
use Rattle.jh_local_form.proofs.updates.describing.read_as.Goals as goal

pub read_object-requires-clause-a : goal.read_object-requires-clause-a
read_object-requires-clause-a c = field-there (slice_get (nodes c.args.table.now) c.args.field) _ c.requires.field

pub read_object-requires-clause-b : goal.read_object-requires-clause-b
read_object-requires-clause-b c = object-there (slice_get (nodes c.args.table.now) c.args.object) _ c.requires.object

pub returns-in-Obj-clause-node : goal.returns-in-Obj-clause-node
unfolding the_field the_object read_as
returns-in-Obj-clause-node c =
    let ts = nodes c.args.table.now in
    let us = nodes c.read_object.new.table in
    IfOk-weaker
    c.read_object.result
    (λ made. slice_get us made ≡ Some (of_object (t.read_object (the_field (slice_get ts c.args.field)) (the_object (slice_get ts c.args.object)))))
    (λ made. (f : FieldTree) (a : TermTree) → slice_get ts c.args.field ≡ Some (of_field f) → slice_get ts c.args.object ≡ Some (of_object a) → slice_get us made ≡ Some (read_as c.args.sort f a))
    (λ made e f a hf ha. e ∙ (λ i. Some (of_object (t.read_object (the_field (hf i)) (the_object (ha i))))) ∙ ap (λ r. Some (read_as r f a)) (sym c.in-Obj.is))
    c.read_object.ensures.node

pub read_number-requires-clause-a : goal.read_number-requires-clause-a
read_number-requires-clause-a c = field-there (slice_get (nodes c.args.table.now) c.args.field) _ c.requires.field

pub read_number-requires-clause-b : goal.read_number-requires-clause-b
read_number-requires-clause-b c = object-there (slice_get (nodes c.args.table.now) c.args.object) _ c.requires.object

pub returns-in-Int-clause-node : goal.returns-in-Int-clause-node
unfolding the_field the_object read_as
returns-in-Int-clause-node c =
    let ts = nodes c.args.table.now in
    let us = nodes c.read_number.new.table in
    IfOk-weaker
    c.read_number.result
    (λ made. slice_get us made ≡ Some (of_number (t.read_number (the_field (slice_get ts c.args.field)) (the_object (slice_get ts c.args.object)))))
    (λ made. (f : FieldTree) (a : TermTree) → slice_get ts c.args.field ≡ Some (of_field f) → slice_get ts c.args.object ≡ Some (of_object a) → slice_get us made ≡ Some (read_as c.args.sort f a))
    (λ made e f a hf ha. e ∙ (λ i. Some (of_number (t.read_number (the_field (hf i)) (the_object (ha i))))) ∙ ap (λ r. Some (read_as r f a)) (sym c.in-Int.is))
    c.read_number.ensures.node

pub read_truth-requires-clause-a : goal.read_truth-requires-clause-a
read_truth-requires-clause-a c = field-there (slice_get (nodes c.args.table.now) c.args.field) _ c.requires.field

pub read_truth-requires-clause-b : goal.read_truth-requires-clause-b
read_truth-requires-clause-b c = object-there (slice_get (nodes c.args.table.now) c.args.object) _ c.requires.object

pub returns-in-Bool-clause-node : goal.returns-in-Bool-clause-node
unfolding the_field the_object read_as
returns-in-Bool-clause-node c =
    let ts = nodes c.args.table.now in
    let us = nodes c.read_truth.new.table in
    IfOk-weaker
    c.read_truth.result
    (λ made. slice_get us made ≡ Some (of_truth (t.read_truth (the_field (slice_get ts c.args.field)) (the_object (slice_get ts c.args.object)))))
    (λ made. (f : FieldTree) (a : TermTree) → slice_get ts c.args.field ≡ Some (of_field f) → slice_get ts c.args.object ≡ Some (of_object a) → slice_get us made ≡ Some (read_as c.args.sort f a))
    (λ made e f a hf ha. e ∙ (λ i. Some (of_truth (t.read_truth (the_field (hf i)) (the_object (ha i))))) ∙ ap (λ r. Some (read_as r f a)) (sym c.in-Bool.is))
    c.read_truth.ensures.node

pub read_set-requires-clause-a : goal.read_set-requires-clause-a
read_set-requires-clause-a c = field-there (slice_get (nodes c.args.table.now) c.args.field) _ c.requires.field

pub read_set-requires-clause-b : goal.read_set-requires-clause-b
read_set-requires-clause-b c = object-there (slice_get (nodes c.args.table.now) c.args.object) _ c.requires.object

pub returns-in-Set-clause-node : goal.returns-in-Set-clause-node
unfolding the_field the_object read_as
returns-in-Set-clause-node c =
    let ts = nodes c.args.table.now in
    let us = nodes c.read_set.new.table in
    IfOk-weaker
    c.read_set.result
    (λ made. slice_get us made ≡ Some (of_set (t.read_set (the_field (slice_get ts c.args.field)) (the_object (slice_get ts c.args.object)))))
    (λ made. (f : FieldTree) (a : TermTree) → slice_get ts c.args.field ≡ Some (of_field f) → slice_get ts c.args.object ≡ Some (of_object a) → slice_get us made ≡ Some (read_as c.args.sort f a))
    (λ made e f a hf ha. e ∙ (λ i. Some (of_set (t.read_set (the_field (hf i)) (the_object (ha i))))) ∙ ap (λ r. Some (read_as r f a)) (sym c.in-Set.is))
    c.read_set.ensures.node

pub returns-in-Field-clause-node : goal.returns-in-Field-clause-node
unfolding read_as
returns-in-Field-clause-node c = λ f a hf ha. hf ∙ ap (λ r. Some (read_as r f a)) (sym c.in-Field.is)
