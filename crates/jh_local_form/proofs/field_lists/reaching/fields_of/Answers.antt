use Rattle.std.proofs.Common.{◌∙◌, ap, ◌++◌}
use Rattle.jh_local_form.proofs.field_lists.Reached.{list-inside, listed-fields}
use Rattle.jh_local_form.proofs.field_lists.reaching.fields_of.Goals as goal

pub list_at-requires : goal.list_at-requires
list_at-requires c = list-inside c.args.table.now c.args.list c.requires.0 c.requires.1

pub returns : goal.returns
returns c = λ fs is.
    listed-fields c.args.table.now c.args.list c.list_at.result.now c.extend_from_slice.new.self.items fs is c.list_at.ensures (c.in_ok-extend_from_slice.ensures.items ∙ ap (λ zs. zs ++ c.list_at.result.now) c.new-fields.ensures.items)
