use Rattle.std.proofs.Common.{refl, sym, ap, ◌∙◌, map}
use Rattle.jh_arena.specs.table.Nodes.{nodes}
use Rattle.jh_arena.specs.makers.Joined.{are_truths}
use Rattle.jh_reach.specs.Parts.{part_tree}
use Rattle.jh_reach.specs.Standing.{fields_in}
use Rattle.jh_reach.proofs.Standings.{formulas-are, formulas-as, along-fields}
use Rattle.jh_reach.proofs.lists.some.Goals as goal

pub disjunction_of-requires : goal.disjunction_of-requires
disjunction_of-requires c =
    let fs = fields_in (nodes c.args.table.now) c.args.fields.now in
    record {
      items =
          ap (are_truths (nodes c.parts_of.new.table)) c.as_slice.ensures.value
          ∙ formulas-are c.parts_of.new.table c.in_ok-made.made.items (map (part_tree c.args.part fs) fs) (c.in_ok-made.ensures.nodes fs (along-fields c.args.table.now c.args.list c.args.fields.now c.requires.along));
    }

pub returns-clause-node : goal.returns-clause-node
returns-clause-node c = λ fs h.
    let parts = map (part_tree c.args.part fs) fs in
    c.disjunction_of.ensures.node parts (formulas-as c.parts_of.new.table c.in_ok-made.made.items c.as_slice.result.now parts parts (c.in_ok-made.ensures.nodes fs h) (sym c.as_slice.ensures.value) refl)
