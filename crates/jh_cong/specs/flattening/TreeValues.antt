-- The value of a tree in a structure whose values are numbers, and trees that never have one value.
use Rattle.std.specs.Prelude.{◌≡◌, ◌≢◌, ℕ, List, Some, slice_get}
use Rattle.jh_closure.specs.structures.Structures.{Structure, object_in, number_in, truth_in, set_in, field_in}
use Rattle.jh_form.specs.Tree.{ValueTree}
use Rattle.jh_form.specs.Tree as t

-- a structure whose values are numbers
abbrev pub NumberStructure : Type 0
NumberStructure = Structure ℕ ℕ ℕ ℕ ℕ

-- the value of a tree, at its own sort
abbrev pub value_in : NumberStructure → ValueTree → ℕ
value_in s (t.of_object a) = object_in s a
value_in s (t.of_number a) = number_in s a
value_in s (t.of_truth a) = truth_in s a
value_in s (t.of_set a) = set_in s a
value_in s (t.of_field a) = field_in s a

-- Two trees that have different values in every structure: different integer constants, and True and False.
abbrev pub AreApart : ValueTree → ValueTree → Type 0
AreApart (t.of_number (t.const y)) (t.of_number (t.const z)) = y ≢ z
AreApart (t.of_truth t.true_formula) (t.of_truth t.false_formula) = Unit {0}
AreApart (t.of_truth t.false_formula) (t.of_truth t.true_formula) = Unit {0}
AreApart _ _ = ⊥

-- numbers at places of the trees are different where the trees are apart
abbrev pub KeepsApart : List ValueTree → (ℕ → ℕ) → Type 0
KeepsApart ts at = (m n : ℕ) (v w : ValueTree) → slice_get ts m ≡ Some v → slice_get ts n ≡ Some w → AreApart v w → at m ≡ at n → ⊥

-- the number at the place of each tree is its value
abbrev pub AreValues : NumberStructure → List ValueTree → (ℕ → ℕ) → Type 0
AreValues s ts at = (n : ℕ) (v : ValueTree) → slice_get ts n ≡ Some v → value_in s v ≡ at n
