-- What asserted literals over nodes of a table say, and what follows from them.
use Rattle.std.specs.Prelude.{◌<◌, ℕ, List, [], ◌∷◌, map, length, Option, Some, None, slice_get}
use Rattle.jh_closure.specs.congruence_closure.Nodes.{Has}
use Rattle.jh_closure.specs.declared.congruence_closure.equation.Equation.{Equation}
use Rattle.jh_closure.specs.structures.Literals.{LiteralTree, Meets, NotMet, Says}
use Rattle.jh_arena.specs.table.Entries.{Listing, the_value}
use Rattle.jh_form.specs.Tree.{FormulaTree, ValueTree}
use Rattle.jh_form.specs.Tree as t
use Rattle.jh_cong.specs.flattening.TreeValues.{NumberStructure}
use Rattle.jh_cong.specs.declared.classes.literal.Said.{Said}

-- the equation of two trees of one sort; where their sorts differ, or are that of fields, no contract looks at it
abbrev pub equation_of : ValueTree → ValueTree → FormulaTree
equation_of (t.of_object a) (t.of_object b) = t.eq_object a b
equation_of (t.of_number a) (t.of_number b) = t.eq_number a b
equation_of (t.of_set a) (t.of_set b) = t.eq_set a b
equation_of (t.of_truth a) (t.of_truth b) = t.iff a b
equation_of _ _ = t.true_formula

-- two trees of one sort, which is not that of fields
abbrev pub AreEquatable : ValueTree → ValueTree → Type 0
AreEquatable (t.of_object a) (t.of_object b) = Unit {0}
AreEquatable (t.of_number a) (t.of_number b) = Unit {0}
AreEquatable (t.of_set a) (t.of_set b) = Unit {0}
AreEquatable (t.of_truth a) (t.of_truth b) = Unit {0}
AreEquatable _ _ = ⊥

-- the tree at a place
abbrev pub tree_at : List ValueTree → ℕ → ValueTree
tree_at ts k = the_value (slice_get ts k)

-- two nodes whose equation can be asserted
pub record CanBeSaid (ts : List ValueTree) (a b : ℕ) : Type 0 where
  pub left : a < length ts
  pub right : b < length ts
  pub sorts : AreEquatable (tree_at ts a) (tree_at ts b)

-- each literal can be said
abbrev pub AreSayable : List ValueTree → List Said → Type 0
AreSayable ts said = (e : Said) → Has said e → CanBeSaid ts e.left e.right

abbrev pub pair_of : ℕ → ℕ → Equation
pair_of a b = record { left = a; right = b }

-- the literal of what was said
abbrev pub literal_of : List ValueTree → Said → LiteralTree
literal_of ts e = record { atom = equation_of (tree_at ts e.left) (tree_at ts e.right); holds = e.holds }

abbrev pub literals : List ValueTree → List Said → List LiteralTree
literals ts said = map (literal_of ts) said

-- in every structure that meets the literals both nodes have one value
abbrev pub Entails : List ValueTree → List Said → ℕ → ℕ → Type 0
Entails ts said a b = (s : NumberStructure) → Meets s (literals ts said) → Says s (equation_of (tree_at ts a) (tree_at ts b))

-- no structure meets the literals
abbrev pub IsUnmet : List ValueTree → List Said → Type 0
IsUnmet ts said = NotMet (literals ts said)

abbrev pub one_more : {X : Type 0} → Option X → List X → List X
one_more (Some x) xs = x ∷ xs
one_more None xs = xs

-- those whose numbers are listed
abbrev pub picked : List Said → List ℕ → List Said
picked said [] = []
picked said (i ∷ is) = one_more (slice_get said i) (picked said is)

-- a table, and the literals over its nodes that were asserted so far, in their order
pub record Asserted : Type 0 where
  pub table : Listing
  pub said : List Said
