use Rattle.std.proofs.Common.{sym, ap, ◌∙◌}
use Rattle.jh_arena.specs.table.Entries.{are_fields}
use Rattle.jh_arena.specs.table.Nodes.{nodes}
use Rattle.jh_reach.specs.Named.{named_fields, backbone_tree}
use Rattle.jh_reach.proofs.Standings.{fields-grow, fields-are}
use Rattle.jh_reach.proofs.Entering.{fields-as}
use Rattle.jh_reach.proofs.reaching.nodes_of.Goals as goal

pub backbone_axioms-requires-clause-fields : goal.backbone_axioms-requires-clause-fields
backbone_axioms-requires-clause-fields c =
    ap (are_fields (nodes c.base_nodes.new.table)) c.as_slice.ensures.value
    ∙ fields-are c.base_nodes.new.table c.in_ok-fields.fields.items (named_fields c.items.result.now)
    (fields-grow c.field_nodes.new.table c.base_nodes.new.table c.in_ok-fields.fields.items (named_fields c.items.result.now) c.base_nodes.ensures.grows c.in_ok-fields.ensures.fields)

pub returns-clause-nodes : goal.returns-clause-nodes
returns-clause-nodes c =
    c.backbone_axioms.ensures.nodes (backbone_tree c.args.backbone.now)
    (fields-as c.base_nodes.new.table c.in_ok-fields.fields.items c.as_slice.result.now (named_fields c.items.result.now) (named_fields c.args.backbone.now.fields)
    (fields-grow c.field_nodes.new.table c.base_nodes.new.table c.in_ok-fields.fields.items (named_fields c.items.result.now) c.base_nodes.ensures.grows c.in_ok-fields.ensures.fields)
    (sym c.as_slice.ensures.value) (ap named_fields c.items.ensures))
    c.in_ok-base.ensures.base
