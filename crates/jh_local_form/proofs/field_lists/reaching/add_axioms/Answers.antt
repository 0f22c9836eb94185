use Rattle.std.proofs.Common.{◌∙◌, ap, ◌++◌}
use Rattle.jh_arena.specs.table.Nodes.{nodes}
use Rattle.jh_reach.specs.Axioms.{axioms_of}
use Rattle.jh_reach.proofs.Standings.{fields-are}
use Rattle.jh_local_form.proofs.field_lists.Standing.{fields-as, are-as}
use Rattle.jh_local_form.proofs.field_lists.Reached.{base-sorted, axioms-added}
use Rattle.jh_local_form.proofs.field_lists.reaching.add_axioms.Goals as goal

pub fields_of-requires : goal.fields_of-requires
fields_of-requires c = (c.requires.backbone.0.fields, c.requires.backbone.1.list)

pub backbone_axioms-requires-clause-fields : goal.backbone_axioms-requires-clause-fields
backbone_axioms-requires-clause-fields c =
    are-as (nodes c.args.table.now) c.in_ok-fields.fields.items c.as_slice.result.now c.as_slice.ensures.value
    (fields-are c.args.table.now c.in_ok-fields.fields.items c.requires.backbone.0.fields (c.in_ok-fields.ensures c.requires.backbone.0.fields c.requires.backbone.1.list))

pub backbone_axioms-requires-clause-base : goal.backbone_axioms-requires-clause-base
backbone_axioms-requires-clause-base c = base-sorted c.args.table.now c.args.backbone.base c.requires.backbone.0.base c.requires.backbone.1.base

pub returns-clause-axioms : goal.returns-clause-axioms
returns-clause-axioms c = λ b done is stand.
    axioms-added c.args.table.now c.backbone_axioms.new.table c.backbone_axioms.ensures.grows c.args.axioms.now.items c.in_ok-made.made.items c.extend_from_slice.new.self.items done (axioms_of b) stand
    (c.in_ok-made.ensures.nodes b (fields-as c.args.table.now c.in_ok-fields.fields.items c.as_slice.result.now b.fields c.as_slice.ensures.value (c.in_ok-fields.ensures b.fields is.list)) is.base)
    (c.in_ok-extend_from_slice.ensures.items ∙ ap (λ ns. c.args.axioms.now.items ++ ns) c.as_slice-2.ensures.value)
