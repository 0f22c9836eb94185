-- Which form a shape has.
use Rattle.std.proofs.Common.{◌≡◌, refl, sym, ℕ, zero, suc, ◌<◌, arith, true, false, List, [], ◌∷◌, length, Some}
use Rattle.std.proofs.lemmas.Bool.{true≢false}
use Rattle.jh_form.specs.Tree.{ValueTree}
use Rattle.jh_arena.specs.table.Entries.{Listing, is_truth, the_truth}
use Rattle.jh_arena.specs.table.Nodes.{tree_in, shape_tree}
use Rattle.jh_arena.specs.declared.table.shapes.Shape.{Shape}
use Rattle.jh_arena.specs.declared.table.shapes.Shape.TheVariants as s
use Rattle.jh_models.specs.ground_models.Atoms.{literal}
use Rattle.jh_propagation.specs.declared.trail.forms.Form.{Form}
use Rattle.jh_propagation.specs.declared.trail.forms.Form.TheVariants as form
use Rattle.jh_propagation.specs.trail.Saying.{IsTruth}
use Rattle.jh_propagation.specs.trail.Forms.{denied_literal, literal_of, AreTwoParts, HasParts}

-- where a formula stands there is a node
pub inside : (ts : List ValueTree) (n : ℕ) → IsTruth ts n → n < length ts
unfolding is_truth
inside [] n h = absurd (true≢false (sym h))
inside (x ∷ ts) zero h = omega arith
inside (x ∷ ts) (suc n) h = let rest = inside ts n h in omega arith

two-later : (ts : List ValueTree) (m n a b : ℕ) → m < n → AreTwoParts ts m a b → AreTwoParts ts n a b
two-later ts m n a b lt h = record { left = h.left; right = h.right; left_below = let less : a < m = h.left_below in omega (arith, less, lt); right_below = let less : b < m = h.right_below in omega (arith, less, lt) }

-- the parts of a node before another one are before that
pub parts-later : (ts : List ValueTree) (m n : ℕ) → m < n → (f : Form) → HasParts ts m f → HasParts ts n f
parts-later ts m n lt (form.Known b) h = tt
parts-later ts m n lt (form.Literal l) h = h
parts-later ts m n lt (form.And a b) h = two-later ts m n a b lt h
parts-later ts m n lt (form.Or a b) h = two-later ts m n a b lt h

module _ (l : Listing) where
  -- a formula that isn't True or False is a literal where it is denied
  pub denied-shape : (x : Shape) → is_truth (Some (tree_in l x)) ≡ true → (x ≡ s.True → ⊥) → (x ≡ s.False → ⊥) → denied_literal (the_truth (Some (tree_in l x))) ≡ Some (literal (the_truth (Some (tree_in l x))) false)
  unfolding is_truth the_truth shape_tree
  denied-shape (s.Bound a) is no_true no_false = absurd (true≢false (sym is))
  denied-shape (s.FreeObject a) is no_true no_false = absurd (true≢false (sym is))
  denied-shape s.Null is no_true no_false = absurd (true≢false (sym is))
  denied-shape (s.ReadObject a b) is no_true no_false = absurd (true≢false (sym is))
  denied-shape (s.Const a) is no_true no_false = absurd (true≢false (sym is))
  denied-shape (s.FreeNumber a) is no_true no_false = absurd (true≢false (sym is))
  denied-shape (s.ReadNumber a b) is no_true no_false = absurd (true≢false (sym is))
  denied-shape (s.Add a b) is no_true no_false = absurd (true≢false (sym is))
  denied-shape (s.Sub a b) is no_true no_false = absurd (true≢false (sym is))
  denied-shape (s.Neg a) is no_true no_false = absurd (true≢false (sym is))
  denied-shape (s.Scale a b) is no_true no_false = absurd (true≢false (sym is))
  denied-shape (s.Card a) is no_true no_false = absurd (true≢false (sym is))
  denied-shape (s.FreeSet a) is no_true no_false = absurd (true≢false (sym is))
  denied-shape (s.ReadSet a b) is no_true no_false = absurd (true≢false (sym is))
  denied-shape s.Empty is no_true no_false = absurd (true≢false (sym is))
  denied-shape s.Univ is no_true no_false = absurd (true≢false (sym is))
  denied-shape (s.Single a) is no_true no_false = absurd (true≢false (sym is))
  denied-shape (s.Union a b) is no_true no_false = absurd (true≢false (sym is))
  denied-shape (s.Inter a b) is no_true no_false = absurd (true≢false (sym is))
  denied-shape (s.Diff a b) is no_true no_false = absurd (true≢false (sym is))
  denied-shape (s.Compl a) is no_true no_false = absurd (true≢false (sym is))
  denied-shape (s.Compr a) is no_true no_false = absurd (true≢false (sym is))
  denied-shape (s.FreeField a) is no_true no_false = absurd (true≢false (sym is))
  denied-shape (s.Update a b c) is no_true no_false = absurd (true≢false (sym is))
  denied-shape s.True is no_true no_false = absurd (no_true refl)
  denied-shape s.False is no_true no_false = absurd (no_false refl)
  denied-shape _ is no_true no_false = refl

  -- one that isn't joined and no negation either is a literal
  pub atom-shape : (x : Shape) → is_truth (Some (tree_in l x)) ≡ true → (x ≡ s.True → ⊥) → (x ≡ s.False → ⊥) → ((a b : ℕ) → x ≡ s.And a b → ⊥) → ((a b : ℕ) → x ≡ s.Or a b → ⊥) → ((a : ℕ) → x ≡ s.Negation a → ⊥) →
      literal_of (the_truth (Some (tree_in l x))) ≡ Some (literal (the_truth (Some (tree_in l x))) true)
  unfolding is_truth the_truth shape_tree
  atom-shape (s.Bound a) is no_true no_false no_and no_or no_negation = absurd (true≢false (sym is))
  atom-shape (s.FreeObject a) is no_true no_false no_and no_or no_negation = absurd (true≢false (sym is))
  atom-shape s.Null is no_true no_false no_and no_or no_negation = absurd (true≢false (sym is))
  atom-shape (s.ReadObject a b) is no_true no_false no_and no_or no_negation = absurd (true≢false (sym is))
  atom-shape (s.Const a) is no_true no_false no_and no_or no_negation = absurd (true≢false (sym is))
  atom-shape (s.FreeNumber a) is no_true no_false no_and no_or no_negation = absurd (true≢false (sym is))
  atom-shape (s.ReadNumber a b) is no_true no_false no_and no_or no_negation = absurd (true≢false (sym is))
  atom-shape (s.Add a b) is no_true no_false no_and no_or no_negation = absurd (true≢false (sym is))
  atom-shape (s.Sub a b) is no_true no_false no_and no_or no_negation = absurd (true≢false (sym is))
  atom-shape (s.Neg a) is no_true no_false no_and no_or no_negation = absurd (true≢false (sym is))
  atom-shape (s.Scale a b) is no_true no_false no_and no_or no_negation = absurd (true≢false (sym is))
  atom-shape (s.Card a) is no_true no_false no_and no_or no_negation = absurd (true≢false (sym is))
  atom-shape (s.FreeSet a) is no_true no_false no_and no_or no_negation = absurd (true≢false (sym is))
  atom-shape (s.ReadSet a b) is no_true no_false no_and no_or no_negation = absurd (true≢false (sym is))
  atom-shape s.Empty is no_true no_false no_and no_or no_negation = absurd (true≢false (sym is))
  atom-shape s.Univ is no_true no_false no_and no_or no_negation = absurd (true≢false (sym is))
  atom-shape (s.Single a) is no_true no_false no_and no_or no_negation = absurd (true≢false (sym is))
  atom-shape (s.Union a b) is no_true no_false no_and no_or no_negation = absurd (true≢false (sym is))
  atom-shape (s.Inter a b) is no_true no_false no_and no_or no_negation = absurd (true≢false (sym is))
  atom-shape (s.Diff a b) is no_true no_false no_and no_or no_negation = absurd (true≢false (sym is))
  atom-shape (s.Compl a) is no_true no_false no_and no_or no_negation = absurd (true≢false (sym is))
  atom-shape (s.Compr a) is no_true no_false no_and no_or no_negation = absurd (true≢false (sym is))
  atom-shape (s.FreeField a) is no_true no_false no_and no_or no_negation = absurd (true≢false (sym is))
  atom-shape (s.Update a b c) is no_true no_false no_and no_or no_negation = absurd (true≢false (sym is))
  atom-shape s.True is no_true no_false no_and no_or no_negation = absurd (no_true refl)
  atom-shape s.False is no_true no_false no_and no_or no_negation = absurd (no_false refl)
  atom-shape (s.And a b) is no_true no_false no_and no_or no_negation = absurd (no_and a b refl)
  atom-shape (s.Or a b) is no_true no_false no_and no_or no_negation = absurd (no_or a b refl)
  atom-shape (s.Negation a) is no_true no_false no_and no_or no_negation = absurd (no_negation a refl)
  atom-shape _ is no_true no_false no_and no_or no_negation = refl
