use Rattle.jh_local_form.proofs.field_lists.Known.{same-fields}
use Rattle.jh_local_form.proofs.field_lists.backbones.has_fields.Goals as goal
use Rattle.std.proofs.Common.{◌∙◌}

pub returns : goal.returns
returns c = λ b fs is are.
    c.eq.ensures ∙ same-fields c.args.table.now c.nodes_differ.ensures.different c.args.backbone b c.list_at.result.now c.args.fields.now fs is c.list_at.ensures are
