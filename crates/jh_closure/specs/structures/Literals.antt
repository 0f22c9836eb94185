-- Literals, and which structures meet them.
use Rattle.std.specs.Prelude.{◌≡◌, ◌⊎◌, ℕ, Bool, true, false, List, [], ◌∷◌}
use Rattle.jh_form.specs.Tree.{FormulaTree}
use Rattle.jh_form.specs.Tree as t
use Rattle.jh_form.specs.Bare.{formula_tree}
use Rattle.jh_closure.specs.declared.structures.literal.Literal.{Literal}
use Rattle.jh_closure.specs.structures.Structures.{Structure, object_in, number_in, set_in, truth_in}

-- an atom, and whether it is said to hold, without memory
pub record LiteralTree : Type 0 where
  pub atom : FormulaTree
  pub holds : Bool

unfoldable pub literal_tree : Literal → LiteralTree
literal_tree l = record { atom = formula_tree l.atom; holds = l.holds }

-- An equation says that both sides have one value, and any other atom that its value is True. An equation of truths is
-- an equivalence. A label says nothing.
abbrev pub Says : {O N T S F : Type 0} → Structure O N T S F → FormulaTree → Type 0
Says s (t.eq_object a b) = object_in s a ≡ object_in s b
Says s (t.eq_number a b) = number_in s a ≡ number_in s b
Says s (t.eq_set a b) = set_in s a ≡ set_in s b
Says s (t.iff a b) = truth_in s a ≡ truth_in s b
Says s (t.mark k a) = Says s a
Says s a = truth_in s a ≡ s.true_value

-- An inequation says that both sides have different values, and any other negated atom that its value is False.
abbrev pub Denies : {O N T S F : Type 0} → Structure O N T S F → FormulaTree → Type 0
Denies s (t.eq_object a b) = object_in s a ≡ object_in s b → ⊥
Denies s (t.eq_number a b) = number_in s a ≡ number_in s b → ⊥
Denies s (t.eq_set a b) = set_in s a ≡ set_in s b → ⊥
Denies s (t.iff a b) = truth_in s a ≡ truth_in s b → ⊥
Denies s (t.mark k a) = Denies s a
Denies s a = truth_in s a ≡ s.false_value

abbrev pub MeetsOne : {O N T S F : Type 0} → Structure O N T S F → Bool → FormulaTree → Type 0
MeetsOne s true a = Says s a
MeetsOne s false a = Denies s a

-- the structure meets each literal
abbrev pub Meets : {O N T S F : Type 0} → Structure O N T S F → List LiteralTree → Type 0
Meets s [] = Unit {0}
Meets s (l ∷ ls) = MeetsOne s l.holds l.atom × Meets s ls

-- no structure whose values are numbers meets the literals
abbrev pub NotMet : List LiteralTree → Type 0
NotMet ls = (s : Structure ℕ ℕ ℕ ℕ ℕ) → Meets s ls → ⊥

-- the literal stands in the list
abbrev pub IsListed : List LiteralTree → LiteralTree → Type 0
IsListed [] l = ⊥
IsListed (k ∷ ks) l = (k ≡ l) ⊎ IsListed ks l

abbrev pub AreListed : List LiteralTree → List LiteralTree → Type 0
AreListed ks [] = Unit {0}
AreListed ks (l ∷ ls) = IsListed ks l × AreListed ks ls

-- what no structure meets isn't met with more literals beside it
abbrev pub MoreIsNotMet : Type 0
MoreIsNotMet = (ls ks : List LiteralTree) → AreListed ks ls → NotMet ls → NotMet ks
