use Rattle.std.proofs.Common.{ap, ◌∙◌, map, ◌++◌}
use Rattle.jh_form.specs.Tree.{of_truth}
use Rattle.jh_arena.specs.table.Nodes.{nodes}
use Rattle.jh_arena.specs.makers.Joined.{joined, are_truths, truths_at}
use Rattle.jh_reach.specs.declared.parts.Part.TheVariants as p
use Rattle.jh_reach.specs.Axioms.{has_one_parent, pairs_share_no_child}
use Rattle.jh_reach.specs.Parts.{part_tree}
use Rattle.jh_reach.specs.Standing.{fields_in}
use Rattle.jh_import.proofs.entering.Fields.{made-as}
use Rattle.jh_reach.proofs.Standings.{fields-grow, formulas-are, formulas-at, along-fields, along-grows}
use Rattle.jh_reach.proofs.lists.parents.Goals as goal

pub add_pairs-requires : goal.add_pairs-requires
add_pairs-requires c = record {
  fields = (along-grows c.args.table.now c.parts_of.new.table c.args.list c.args.fields.now c.parts_of.ensures.grows c.requires.along).are;
}

pub conjunction_of-requires : goal.conjunction_of-requires
unfolding part_tree
conjunction_of-requires c =
    let fs = fields_in (nodes c.args.table.now) c.args.fields.now in
    let here = along-fields c.args.table.now c.args.list c.args.fields.now c.requires.along in
    let parts = map (part_tree p.HasOneParent fs) fs in
    ap (are_truths (nodes c.add_pairs.new.table)) c.as_slice.ensures.value
    ∙ formulas-are c.add_pairs.new.table c.add_pairs.new.made.items (parts ++ pairs_share_no_child fs)
    (c.in_ok-add_pairs.ensures.nodes fs parts (fields-grow c.args.table.now c.parts_of.new.table c.args.fields.now fs c.parts_of.ensures.grows here) (c.in_ok-made.ensures.nodes fs here))

pub returns-clause-node : goal.returns-clause-node
unfolding part_tree
returns-clause-node c = λ fs h.
    let ts = nodes c.add_pairs.new.table in
    let all = map has_one_parent fs ++ pairs_share_no_child fs in
    made-as (nodes c.conjunction_of.new.table) c.conjunction_of.result (of_truth (joined (truths_at ts c.as_slice.result.now))) (of_truth (joined all))
    (ap (λ z. of_truth (joined z)) (ap (truths_at ts) c.as_slice.ensures.value
    ∙ formulas-at c.add_pairs.new.table c.add_pairs.new.made.items all
    (c.in_ok-add_pairs.ensures.nodes fs (map has_one_parent fs) (fields-grow c.args.table.now c.parts_of.new.table c.args.fields.now fs c.parts_of.ensures.grows h) (c.in_ok-made.ensures.nodes fs h))))
    c.conjunction_of.ensures.node
