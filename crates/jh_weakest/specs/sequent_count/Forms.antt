-- What a formula asks as a goal, seen at its shape.
use Rattle.jh_arena.specs.declared.table.shapes.Shape.{Shape}
use Rattle.jh_arena.specs.declared.table.shapes.Shape.TheVariants as s
use Rattle.jh_weakest.specs.declared.sequent_count.forms.Form.{Form}
use Rattle.jh_weakest.specs.declared.sequent_count.forms.Form.TheVariants as form

unfoldable pub form_of : Shape → Form
form_of (s.And a b) = form.Both a b
form_of (s.Iff a b) = form.Both b a
form_of (s.Implies a b) = form.Part b
form_of (s.All a) = form.Part a
form_of (s.Mark m a) = form.Labelled a
form_of (s.Tree l) = form.Forest
form_of (s.FreeTruth n) = form.Name
form_of s.True = form.Truth
form_of _ = form.Alone
