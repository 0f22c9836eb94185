-- Updates whose value is a whole field. Such an update changes nothing: it is exchanged for the field that it updates.
use Rattle.jh_form.specs.Tree.{FieldTree, FormulaTree}
use Rattle.jh_form.specs.Tree as t
use Rattle.jh_normal_forms.specs.declared.rebuilding.polarity.Polarity.TheVariants as pol
use Rattle.jh_normal_forms.specs.rebuilding.Built.{Rule, built_formula}

unfoldable pub without_field_value : FieldTree → FieldTree
without_field_value (t.update f a (t.of_field g)) = f
without_field_value f = f

abbrev pub dropping : Rule
dropping = record { object = λ a. a; number = λ a. a; set = λ a. a; field = without_field_value; truth = λ a s. a }

-- For example `f[a := g][b := x]` becomes `f[b := x]`.
unfoldable pub dropped : FormulaTree → FormulaTree
dropped a = built_formula a dropping pol.Both
