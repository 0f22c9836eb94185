use Rattle.std.proofs.Common.{ap, ◌∙◌, map}
use Rattle.jh_form.specs.Tree.{of_truth}
use Rattle.jh_arena.specs.table.Nodes.{nodes}
use Rattle.jh_arena.specs.makers.Joined.{joined, are_truths, truths_at}
use Rattle.jh_reach.specs.Parts.{part_tree}
use Rattle.jh_reach.specs.Standing.{fields_in}
use Rattle.jh_import.proofs.entering.Fields.{made-as}
use Rattle.jh_reach.proofs.Standings.{formulas-are, formulas-at, along-fields}
use Rattle.jh_reach.proofs.lists.each.Goals as goal

pub conjunction_of-requires : goal.conjunction_of-requires
conjunction_of-requires c =
    let fs = fields_in (nodes c.args.table.now) c.args.fields.now in
    ap (are_truths (nodes c.parts_of.new.table)) c.as_slice.ensures.value
    ∙ formulas-are c.parts_of.new.table c.in_ok-made.made.items (map (part_tree c.args.part fs) fs) (c.in_ok-made.ensures.nodes fs (along-fields c.args.table.now c.args.list c.args.fields.now c.requires.along))

pub returns-clause-node : goal.returns-clause-node
returns-clause-node c = λ fs h.
    let ts = nodes c.parts_of.new.table in
    let parts = map (part_tree c.args.part fs) fs in
    made-as (nodes c.conjunction_of.new.table) c.conjunction_of.result (of_truth (joined (truths_at ts c.as_slice.result.now))) (of_truth (joined parts))
    (ap (λ z. of_truth (joined z)) (ap (truths_at ts) c.as_slice.ensures.value ∙ formulas-at c.parts_of.new.table c.in_ok-made.made.items parts (c.in_ok-made.ensures.nodes fs h)))
    c.conjunction_of.ensures.node
