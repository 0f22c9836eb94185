use Rattle.std.proofs.lemmas.Option.{slice_get-get_or}
use Rattle.jh_arena.specs.table.Nodes.{nodes}
use Rattle.jh_local_form.proofs.field_lists.Tested.{field-among}
use Rattle.jh_local_form.proofs.field_lists.testing.all_differ.Goals as goal

pub is_name-requires : goal.is_name-requires
is_name-requires c = field-among (nodes c.args.table.now) c.args.fields.now c.loop-place.place _ c.requires (slice_get-get_or c.args.fields.now c.loop-place.place 0 c.loop-place-test.true)
