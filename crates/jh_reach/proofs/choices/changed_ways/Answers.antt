use Rattle.std.proofs.Common.{ap, sym, ◌∙◌}
use Rattle.jh_form.specs.Tree.{of_truth}
use Rattle.jh_arena.specs.table.Nodes.{nodes}
use Rattle.jh_reach.specs.Axioms.{listed, changed_one, changed_several, changed_ways}
use Rattle.jh_reach.specs.Standing.{fields_in}
use Rattle.jh_path_formulas.proofs.NodeSteps.{list-there}
use Rattle.jh_import.proofs.entering.Fields.{made-as}
use Rattle.jh_reach.proofs.Standings.{fields-length, along-list, along-fields, changed-one, changed-several}
use Rattle.jh_reach.proofs.choices.changed_ways.Goals as goal

pub told_by_one-requires-clause-old : goal.told_by_one-requires-clause-old
told_by_one-requires-clause-old c =
    let gs = fields_in (nodes c.args.table.now) c.args.fields.now in
    list-there c.args.table.now c.args.old (listed gs) (along-list c.args.table.now c.args.old c.args.fields.now gs c.requires.along (along-fields c.args.table.now c.args.old c.args.fields.now c.requires.along))

pub told_by_several-requires-clause-old : goal.told_by_several-requires-clause-old
told_by_several-requires-clause-old c =
    let gs = fields_in (nodes c.args.table.now) c.args.fields.now in
    list-there c.args.table.now c.args.old (listed gs) (along-list c.args.table.now c.args.old c.args.fields.now gs c.requires.along (along-fields c.args.table.now c.args.old c.args.fields.now c.requires.along))

pub returns-then-fields-eq1-clause-node : goal.returns-then-fields-eq1-clause-node
returns-then-fields-eq1-clause-node c = λ fs gs f a v new fields field at value.
    made-as (nodes c.told_by_one.new.table) c.told_by_one.result (of_truth (changed_one fs gs a v)) (of_truth (changed_ways fs gs f a v))
    (ap (λ z. of_truth z) (changed-one fs gs f a v (fields-length c.args.table.now c.args.fields.now gs fields ∙ c.if-fields-eq1.true)))
    (c.told_by_one.ensures.node fs gs a v new (along-list c.args.table.now c.args.old c.args.fields.now gs c.requires.along fields) at value)

pub returns-else-fields-eq1-clause-node : goal.returns-else-fields-eq1-clause-node
returns-else-fields-eq1-clause-node c = λ fs gs f a v new fields field at value.
    made-as (nodes c.told_by_several.new.table) c.told_by_several.result (of_truth (changed_several fs gs f a v)) (of_truth (changed_ways fs gs f a v))
    (ap (λ z. of_truth z) (changed-several fs gs f a v (λ e. c.if-fields-eq1.false (sym (fields-length c.args.table.now c.args.fields.now gs fields) ∙ e))))
    (c.told_by_several.ensures.node fs gs f a v new (along-list c.args.table.now c.args.old c.args.fields.now gs c.requires.along fields) field at value)
