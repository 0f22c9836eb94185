-- Expressions without memory, each with the place of its first token.
use Rattle.std.specs.Prelude.{ℤ}
use Rattle.jh_name.specs.declared.place.Place.{Place}
use Rattle.jh_ast.specs.declared.word.Word.{Word}
use Rattle.jh_ast.specs.declared.expr.Op.{Op}

pub data ExprTree : Type 0 where
  null : Place → ExprTree
  yes : Place → ExprTree
  no : Place → ExprTree
  number : Place → ℤ → ExprTree
  this : Place → ExprTree
  name : Place → Word → ExprTree
  member : Place → ExprTree → Word → ExprTree
  negation : Place → ExprTree → ExprTree
  minus : Place → ExprTree → ExprTree
  binary : Place → Op → ExprTree → ExprTree → ExprTree

abbrev pub place_of : ExprTree → Place
place_of (null p) = p
place_of (yes p) = p
place_of (no p) = p
place_of (number p z) = p
place_of (this p) = p
place_of (name p w) = p
place_of (member p a w) = p
place_of (negation p a) = p
place_of (minus p a) = p
place_of (binary p op a b) = p

-- the same expression at another place: what stands in brackets is the inside at the place of the bracket
abbrev pub moved : Place → ExprTree → ExprTree
moved p (null q) = null p
moved p (yes q) = yes p
moved p (no q) = no p
moved p (number q z) = number p z
moved p (this q) = this p
moved p (name q w) = name p w
moved p (member q a w) = member p a w
moved p (negation q a) = negation p a
moved p (minus q a) = minus p a
moved p (binary q op a b) = binary p op a b
