use Rattle.std.proofs.Common.{[], get_or}
use Rattle.std.proofs.lemmas.Option.{slice_get-get_or}
use Rattle.jh_form.specs.Tree.{of_field}
use Rattle.jh_arena.specs.table.Nodes.{nodes}
use Rattle.jh_arena.proofs.table.Listed.{extends-refl, extends-trans}
use Rattle.jh_reach.specs.Axioms.{listed}
use Rattle.jh_reach.specs.Parts.{part_tree}
use Rattle.jh_reach.specs.Standing.{fields_in}
use Rattle.jh_path_formulas.proofs.NodeSteps.{list-there, list-grows}
use Rattle.jh_reach.proofs.Standings.{field-of, formulas-none, item-holds, parts-step, parts-end, along-list, along-fields, along-grows}
use Rattle.jh_reach.proofs.lists.parts_of.Goals as goal

pub loop-field-init : goal.loop-field-init
loop-field-init c = record {
  grows = extends-refl c.args.table.now;
  nodes = λ fs h. formulas-none c.args.table.now c.new-made.result.items c.new-made.ensures.items;
}

pub part_of-requires : goal.part_of-requires
part_of-requires c =
    let along = along-grows c.args.table.now c.loop-field.table c.args.list c.args.fields.now c.loop-field.invariant.grows c.requires.along in
    let fs = fields_in (nodes c.loop-field.table) c.args.fields.now in
    record {
      list = list-there c.loop-field.table c.args.list (listed fs) (along-list c.loop-field.table c.args.list c.args.fields.now fs along (along-fields c.loop-field.table c.args.list c.args.fields.now along));
      field = item-holds c.args.table.now c.loop-field.table c.args.fields.now c.loop-field.field-index c.loop-field.invariant.grows c.requires.along.are c.loop-field-test.true;
    }

pub loop-field-preserved : goal.loop-field-preserved
loop-field-preserved c = record {
  grows = extends-trans c.args.table.now c.loop-field.table c.part_of.new.table c.loop-field.invariant.grows c.part_of.ensures.grows;
  nodes = λ fs h.
      let f = field-of c.args.table.now c.args.fields.now fs c.loop-field.field-index (get_or c.args.fields.now c.loop-field.field-index 0) h (slice_get-get_or c.args.fields.now c.loop-field.field-index 0 c.loop-field-test.true) in
      let list = along-list c.args.table.now c.args.list c.args.fields.now fs c.requires.along h in
      parts-step c.loop-field.table c.part_of.new.table c.loop-field.made.items c.push.new.self.items c.in_ok-node.node c.loop-field.field-index (part_tree c.args.part fs) fs f.0 [] c.part_of.ensures.grows
      (c.loop-field.invariant.nodes fs h) f.1
      (c.in_ok-node.ensures.node fs f.0 (list-grows c.args.table.now c.loop-field.table c.args.list (listed fs) c.loop-field.invariant.grows list) (c.loop-field.invariant.grows.nodes.keeps (get_or c.args.fields.now c.loop-field.field-index 0) (of_field f.0) f.2))
      c.in_ok-push.ensures.items;
}

pub returns-clause-nodes : goal.returns-clause-nodes
returns-clause-nodes c = λ fs h.
    parts-end c.loop-field.table c.args.table.now c.args.fields.now c.loop-field.made.items c.loop-field.field-index (part_tree c.args.part fs) fs [] h (c.loop-field.invariant.nodes fs h) c.loop-field-test.false
