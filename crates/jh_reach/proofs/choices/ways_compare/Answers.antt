use Rattle.std.proofs.Common.{ap, sym, ◌∙◌}
use Rattle.jh_form.specs.Tree.{of_truth}
use Rattle.jh_arena.specs.table.Nodes.{nodes}
use Rattle.jh_reach.specs.Axioms.{listed, ways_on, ways_up, ways_compare}
use Rattle.jh_reach.specs.Standing.{fields_in}
use Rattle.jh_path_formulas.proofs.NodeSteps.{list-there}
use Rattle.jh_import.proofs.entering.Fields.{made-as}
use Rattle.jh_reach.proofs.Standings.{fields-length, along-list, along-fields, compare-one, compare-several}
use Rattle.jh_reach.proofs.choices.ways_compare.Goals as goal

pub ways_on-requires : goal.ways_on-requires
ways_on-requires c =
    let fs = fields_in (nodes c.args.table.now) c.args.fields.now in
    record {
      list = list-there c.args.table.now c.args.list (listed fs) (along-list c.args.table.now c.args.list c.args.fields.now fs c.requires.along (along-fields c.args.table.now c.args.list c.args.fields.now c.requires.along));
    }

pub returns-then-fields-eq1-clause-node : goal.returns-then-fields-eq1-clause-node
returns-then-fields-eq1-clause-node c = λ fs h.
    made-as (nodes c.ways_on.new.table) c.ways_on.result (of_truth (ways_on fs)) (of_truth (ways_compare fs))
    (ap (λ z. of_truth z) (compare-one fs (fields-length c.args.table.now c.args.fields.now fs h ∙ c.if-fields-eq1.true)))
    (c.ways_on.ensures.node fs (along-list c.args.table.now c.args.list c.args.fields.now fs c.requires.along h))

pub returns-else-fields-eq1-clause-node : goal.returns-else-fields-eq1-clause-node
returns-else-fields-eq1-clause-node c = λ fs h.
    made-as (nodes c.ways_up.new.table) c.ways_up.result (of_truth (ways_up fs)) (of_truth (ways_compare fs))
    (ap (λ z. of_truth z) (compare-several fs (λ e. c.if-fields-eq1.false (sym (fields-length c.args.table.now c.args.fields.now fs h) ∙ e))))
    (c.ways_up.ensures.node fs h)
