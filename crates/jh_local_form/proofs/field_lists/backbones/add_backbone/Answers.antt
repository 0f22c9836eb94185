use Rattle.std.proofs.Common.{◌∙◌, sym}
use Rattle.jh_local_form.proofs.field_lists.Standing.{backbones-as}
use Rattle.jh_local_form.proofs.field_lists.Known.{known-added, new-added}
use Rattle.jh_local_form.proofs.field_lists.backbones.add_backbone.Goals as goal

pub is_known-requires-clause-made : goal.is_known-requires-clause-made
is_known-requires-clause-made c = (c.requires.made.0, backbones-as c.args.table.now c.args.made.now.items c.as_slice.result.now c.requires.made.0 c.as_slice.ensures.value c.requires.made.1)

pub returns-then-is_known-clause-made : goal.returns-then-is_known-clause-made
returns-then-is_known-clause-made c = λ bs b are stand there known.
    known-added c.args.table.now c.args.made.now.items bs b are
    (sym (c.is_known.ensures bs b.fields (backbones-as c.args.table.now c.args.made.now.items c.as_slice.result.now bs c.as_slice.ensures.value are) stand) ∙ c.if-is_known.true)

pub returns-clause-made : goal.returns-clause-made
returns-clause-made c = λ bs b are stand there known.
    new-added c.args.table.now c.list.new.self c.list.ensures.grows c.args.made.now.items c.push.new.self.items c.args.fields.now c.in_ok-list.list c.args.base bs b are
    (sym (c.is_known.ensures bs b.fields (backbones-as c.args.table.now c.args.made.now.items c.as_slice.result.now bs c.as_slice.ensures.value are) stand) ∙ c.if-is_known.false)
    c.in_ok-list.ensures.number stand there known c.in_ok-push.ensures.items
