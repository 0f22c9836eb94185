-- The field that lists of its values are.
use Rattle.std.specs.Prelude.{map}
use Rattle.jh_form.specs.Meaning.{Fields}
use Rattle.jh_store.specs.memory.Cells.{no_cells, field_in, items_of}
use Rattle.jh_store.specs.declared.memory.field.FieldValues.{FieldValues}

abbrev pub field_of : FieldValues → Fields
field_of values = field_in (record no_cells { objects = values.objects.items; numbers = values.numbers.items; truths = values.truths.items; sets = map items_of values.sets.items })
