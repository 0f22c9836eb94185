-- Labels taken off, as a rule of the walk from below.
use Rattle.jh_form.specs.Tree.{FormulaTree}
use Rattle.jh_form.specs.Tree as t
use Rattle.jh_normal_forms.specs.rebuilding.Built.{Rule}

-- the formula without the label at its top
unfoldable pub bare : FormulaTree → FormulaTree
bare (t.mark k a) = a
bare a = a

abbrev pub unlabelling : Rule
unlabelling = record { object = λ a. a; number = λ a. a; set = λ a. a; field = λ a. a; truth = λ a s. bare a }
