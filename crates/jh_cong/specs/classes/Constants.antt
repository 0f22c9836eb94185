-- Trees that are constants: an integer constant, True and False.
use Rattle.std.specs.Prelude.{◌≡◌, ◌<◌, ℕ, Bool, true, false, List, Some, length, slice_get}
use Rattle.jh_name.specs.declared.place.Sort as place
use Rattle.jh_name.specs.declared.place.Sort.TheVariants as Sort
use Rattle.jh_closure.specs.congruence_closure.Nodes.{Has}
use Rattle.jh_closure.specs.declared.congruence_closure.equation.Equation.{Equation}
use Rattle.jh_arena.specs.declared.table.shapes.Shape.{Shape}
use Rattle.jh_arena.specs.declared.table.shapes.Shape.TheVariants as s
use Rattle.jh_form.specs.Tree.{ValueTree}
use Rattle.jh_form.specs.Tree as t
use Rattle.jh_cong.specs.flattening.TreeValues.{AreApart}
use Rattle.jh_cong.specs.classes.Saying.{pair_of, tree_at}

abbrev pub is_constant : ValueTree → Bool
is_constant (t.of_number (t.const z)) = true
is_constant (t.of_truth t.true_formula) = true
is_constant (t.of_truth t.false_formula) = true
is_constant _ = false

unfoldable pub constant_shape : Shape → Bool
constant_shape (s.Const z) = true
constant_shape s.True = true
constant_shape s.False = true
constant_shape _ = false

-- whether a sort is that of numbers
unfoldable pub int_sort : place.Sort → Bool
int_sort Sort.Int = true
int_sort _ = false

-- each constant is listed, and nothing else
pub record AreConstants (ts : List ValueTree) (listed : List ℕ) : Type 0 where
  pub covers : (k : ℕ) → k < length ts → is_constant (tree_at ts k) ≡ true → Has listed k
  pub inside : (k : ℕ) → Has listed k → k < length ts
  pub right : (k : ℕ) → Has listed k → is_constant (tree_at ts k) ≡ true

-- two nodes that are apart
pub record ArePair (ts : List ValueTree) (e : Equation) : Type 0 where
  pub apart : AreApart (tree_at ts e.left) (tree_at ts e.right)
  pub left_inside : e.left < length ts
  pub right_inside : e.right < length ts

-- the pairs of nodes of which it is known from the start that they are apart
pub record ArePairs (ts : List ValueTree) (pairs : List Equation) : Type 0 where
  pub covers : (m k : ℕ) (v w : ValueTree) → slice_get ts m ≡ Some v → slice_get ts k ≡ Some w → AreApart v w → Has pairs (pair_of m k)
  pub each : (e : Equation) → Has pairs e → ArePair ts e
