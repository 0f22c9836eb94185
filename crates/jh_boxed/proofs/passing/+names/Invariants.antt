use Rattle.std.proofs.Common.{◌≡◌, drop}
use Rattle.jh_form.specs.Bare.{list_tree}
use Rattle.jh_form.specs.Passing.{fields_passes}
use Rattle.jh_boxed.proofs.passing.+names.Given as goal

abbrev pub invariant-names_fields-loop-field : goal.invariant-names_fields-loop-field
invariant-names_fields-loop-field g l =
    fields_passes (list_tree l.fields) (g.T.NameTest.test l.test) ≡ fields_passes (list_tree (drop l.field-index l.fields)) (g.T.NameTest.test l.test)
