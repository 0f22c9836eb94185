-- Which shapes evident formulas and False have in a table.
use Rattle.std.proofs.Common.{◌≡◌, refl, sym, ap, ◌∙◌, ℕ, zero, suc, ◌<◌, arith, true, List, [], ◌∷◌, length, Option, Some, None, slice_get, get_or, map, inl, inr}
use Rattle.std.specs.Option.{option_map_or}
use Rattle.std.proofs.lemmas.Bool.{true≢false}
use Rattle.jh_form.specs.Tree.{TermTree, IntTree, SetTree, FormulaTree, ValueTree, of_object, of_number, of_truth, of_set, of_field}
use Rattle.jh_form.specs.Tree as t
use Rattle.jh_arena.specs.table.Entries.{Listing, is_object, is_number, is_set, is_truth, the_object, the_number, the_set, the_truth}
use Rattle.jh_arena.specs.table.Growth.{AreDifferent}
use Rattle.jh_arena.specs.table.Nodes.{nodes, fits_in, tree_in, shape_tree}
use Rattle.jh_arena.specs.declared.table.shapes.Shape.{Shape}
use Rattle.jh_arena.specs.declared.table.shapes.Shape.TheVariants as s
use Rattle.jh_prove.specs.trivial.Trivial.{IsEvident, Gives, SomeGives}

-- where a formula stands there is a node
pub inside : (ts : List ValueTree) (n : ℕ) → is_truth (slice_get ts n) ≡ true → n < length ts
unfolding is_truth
inside [] n h = absurd (true≢false (sym h))
inside (x ∷ ts) zero h = omega arith
inside (x ∷ ts) (suc n) h = let rest = inside ts n h in omega arith

-- what stands there is a formula, an object, a number, a set
pub truth-itself : (o : Option ValueTree) → is_truth o ≡ true → o ≡ Some (of_truth (the_truth o))
unfolding is_truth the_truth
truth-itself (Some (of_truth a)) h = refl
truth-itself (Some (of_object a)) h = absurd (true≢false (sym h))
truth-itself (Some (of_number a)) h = absurd (true≢false (sym h))
truth-itself (Some (of_set a)) h = absurd (true≢false (sym h))
truth-itself (Some (of_field a)) h = absurd (true≢false (sym h))
truth-itself None h = absurd (true≢false (sym h))

object-itself : (o : Option ValueTree) → is_object o ≡ true → o ≡ Some (of_object (the_object o))
unfolding is_object the_object
object-itself (Some (of_object a)) h = refl
object-itself (Some (of_truth a)) h = absurd (true≢false (sym h))
object-itself (Some (of_number a)) h = absurd (true≢false (sym h))
object-itself (Some (of_set a)) h = absurd (true≢false (sym h))
object-itself (Some (of_field a)) h = absurd (true≢false (sym h))
object-itself None h = absurd (true≢false (sym h))

number-itself : (o : Option ValueTree) → is_number o ≡ true → o ≡ Some (of_number (the_number o))
unfolding is_number the_number
number-itself (Some (of_number a)) h = refl
number-itself (Some (of_truth a)) h = absurd (true≢false (sym h))
number-itself (Some (of_object a)) h = absurd (true≢false (sym h))
number-itself (Some (of_set a)) h = absurd (true≢false (sym h))
number-itself (Some (of_field a)) h = absurd (true≢false (sym h))
number-itself None h = absurd (true≢false (sym h))

set-itself : (o : Option ValueTree) → is_set o ≡ true → o ≡ Some (of_set (the_set o))
unfolding is_set the_set
set-itself (Some (of_set a)) h = refl
set-itself (Some (of_truth a)) h = absurd (true≢false (sym h))
set-itself (Some (of_object a)) h = absurd (true≢false (sym h))
set-itself (Some (of_number a)) h = absurd (true≢false (sym h))
set-itself (Some (of_field a)) h = absurd (true≢false (sym h))
set-itself None h = absurd (true≢false (sym h))

-- nodes with one tree are one node
module _ (ts : List ValueTree) (different : AreDifferent ts) where
  pub one-truth : (i j : ℕ) → is_truth (slice_get ts i) ≡ true → is_truth (slice_get ts j) ≡ true → the_truth (slice_get ts i) ≡ the_truth (slice_get ts j) → i ≡ j
  one-truth i j h k e = different i j (of_truth (the_truth (slice_get ts j))) (truth-itself (slice_get ts i) h ∙ ap (λ a. Some (of_truth a)) e) (truth-itself (slice_get ts j) k)

  pub one-object : (i j : ℕ) → is_object (slice_get ts i) ≡ true → is_object (slice_get ts j) ≡ true → the_object (slice_get ts i) ≡ the_object (slice_get ts j) → i ≡ j
  one-object i j h k e = different i j (of_object (the_object (slice_get ts j))) (object-itself (slice_get ts i) h ∙ ap (λ a. Some (of_object a)) e) (object-itself (slice_get ts j) k)

  pub one-number : (i j : ℕ) → is_number (slice_get ts i) ≡ true → is_number (slice_get ts j) ≡ true → the_number (slice_get ts i) ≡ the_number (slice_get ts j) → i ≡ j
  one-number i j h k e = different i j (of_number (the_number (slice_get ts j))) (number-itself (slice_get ts i) h ∙ ap (λ a. Some (of_number a)) e) (number-itself (slice_get ts j) k)

  pub one-set : (i j : ℕ) → is_set (slice_get ts i) ≡ true → is_set (slice_get ts j) ≡ true → the_set (slice_get ts i) ≡ the_set (slice_get ts j) → i ≡ j
  one-set i j h k e = different i j (of_set (the_set (slice_get ts j))) (set-itself (slice_get ts i) h ∙ ap (λ a. Some (of_set a)) e) (set-itself (slice_get ts j) k)

some-same : {X : Type 0} (x y : X) → Some x ≡ Some y → x ≡ y
some-same x y e = ap (λ o. option_map_or (λ z. z) o x) e

-- a shape that is evident is True or an equation
module _ (l : Listing) where
  pub evident-shape : (x : Shape) → is_truth (Some (tree_in l x)) ≡ true → IsEvident (the_truth (Some (tree_in l x))) →
      (x ≡ s.True → ⊥) → ((a b : ℕ) → x ≡ s.EqObject a b → ⊥) → ((a b : ℕ) → x ≡ s.EqNumber a b → ⊥) → ((a b : ℕ) → x ≡ s.EqSet a b → ⊥) → ⊥
  unfolding is_truth the_truth shape_tree
  evident-shape (s.Bound a) is evident no_true no_object no_number no_set = absurd (true≢false (sym is))
  evident-shape (s.FreeObject a) is evident no_true no_object no_number no_set = absurd (true≢false (sym is))
  evident-shape s.Null is evident no_true no_object no_number no_set = absurd (true≢false (sym is))
  evident-shape (s.ReadObject a b) is evident no_true no_object no_number no_set = absurd (true≢false (sym is))
  evident-shape (s.Const a) is evident no_true no_object no_number no_set = absurd (true≢false (sym is))
  evident-shape (s.FreeNumber a) is evident no_true no_object no_number no_set = absurd (true≢false (sym is))
  evident-shape (s.ReadNumber a b) is evident no_true no_object no_number no_set = absurd (true≢false (sym is))
  evident-shape (s.Add a b) is evident no_true no_object no_number no_set = absurd (true≢false (sym is))
  evident-shape (s.Sub a b) is evident no_true no_object no_number no_set = absurd (true≢false (sym is))
  evident-shape (s.Neg a) is evident no_true no_object no_number no_set = absurd (true≢false (sym is))
  evident-shape (s.Scale a b) is evident no_true no_object no_number no_set = absurd (true≢false (sym is))
  evident-shape (s.Card a) is evident no_true no_object no_number no_set = absurd (true≢false (sym is))
  evident-shape (s.FreeSet a) is evident no_true no_object no_number no_set = absurd (true≢false (sym is))
  evident-shape (s.ReadSet a b) is evident no_true no_object no_number no_set = absurd (true≢false (sym is))
  evident-shape s.Empty is evident no_true no_object no_number no_set = absurd (true≢false (sym is))
  evident-shape s.Univ is evident no_true no_object no_number no_set = absurd (true≢false (sym is))
  evident-shape (s.Single a) is evident no_true no_object no_number no_set = absurd (true≢false (sym is))
  evident-shape (s.Union a b) is evident no_true no_object no_number no_set = absurd (true≢false (sym is))
  evident-shape (s.Inter a b) is evident no_true no_object no_number no_set = absurd (true≢false (sym is))
  evident-shape (s.Diff a b) is evident no_true no_object no_number no_set = absurd (true≢false (sym is))
  evident-shape (s.Compl a) is evident no_true no_object no_number no_set = absurd (true≢false (sym is))
  evident-shape (s.Compr a) is evident no_true no_object no_number no_set = absurd (true≢false (sym is))
  evident-shape (s.FreeField a) is evident no_true no_object no_number no_set = absurd (true≢false (sym is))
  evident-shape (s.Update a b c) is evident no_true no_object no_number no_set = absurd (true≢false (sym is))
  evident-shape s.True is evident no_true no_object no_number no_set = no_true refl
  evident-shape s.False is evident no_true no_object no_number no_set = absurd evident
  evident-shape (s.FreeTruth a) is evident no_true no_object no_number no_set = absurd evident
  evident-shape (s.ReadTruth a b) is evident no_true no_object no_number no_set = absurd evident
  evident-shape (s.Negation a) is evident no_true no_object no_number no_set = absurd evident
  evident-shape (s.And a b) is evident no_true no_object no_number no_set = absurd evident
  evident-shape (s.Or a b) is evident no_true no_object no_number no_set = absurd evident
  evident-shape (s.Implies a b) is evident no_true no_object no_number no_set = absurd evident
  evident-shape (s.Iff a b) is evident no_true no_object no_number no_set = absurd evident
  evident-shape (s.All a) is evident no_true no_object no_number no_set = absurd evident
  evident-shape (s.Ex a) is evident no_true no_object no_number no_set = absurd evident
  evident-shape (s.EqObject a b) is evident no_true no_object no_number no_set = no_object a b refl
  evident-shape (s.EqNumber a b) is evident no_true no_object no_number no_set = no_number a b refl
  evident-shape (s.EqSet a b) is evident no_true no_object no_number no_set = no_set a b refl
  evident-shape (s.Less a b) is evident no_true no_object no_number no_set = absurd evident
  evident-shape (s.LessEqual a b) is evident no_true no_object no_number no_set = absurd evident
  evident-shape (s.Divides a b) is evident no_true no_object no_number no_set = absurd evident
  evident-shape (s.Member a b) is evident no_true no_object no_number no_set = absurd evident
  evident-shape (s.Subset a b) is evident no_true no_object no_number no_set = absurd evident
  evident-shape (s.Reach a b c) is evident no_true no_object no_number no_set = absurd evident
  evident-shape (s.Tree a) is evident no_true no_object no_number no_set = absurd evident
  evident-shape (s.Mark a b) is evident no_true no_object no_number no_set = absurd evident

  -- the node of False is of the shape False
  pub false-shape : ((node : ℕ) (x : Shape) → fits_in l x ≡ true → slice_get (nodes l) node ≡ Some (tree_in l x) → slice_get l.shapes node ≡ Some x) → (n : ℕ) (x : Shape) → fits_in l x ≡ true → slice_get (nodes l) n ≡ Some (tree_in l x) →
      is_truth (slice_get (nodes l) n) ≡ true → the_truth (slice_get (nodes l) n) ≡ t.false_formula → fits_in l s.False ≡ true → tree_in l s.False ≡ of_truth t.false_formula → x ≡ s.False
  false-shape known n x fit at is is_false fit_false tree_false =
      let here : slice_get (nodes l) n ≡ Some (tree_in l s.False) = truth-itself (slice_get (nodes l) n) is ∙ ap (λ a. Some (of_truth a)) is_false ∙ ap (λ v. Some v) (sym tree_false) in
      some-same x s.False (sym (known n x fit at) ∙ known n s.False fit_false here)

-- a fact of a list that gives a goal
pub some-here : (f : ℕ → FormulaTree) (goal : FormulaTree) (ns : List ℕ) (i : ℕ) → i < length ns → Gives goal (f (get_or ns i 0)) → SomeGives goal (map f ns)
some-here f goal [] i lt h = absurd (omega arith)
some-here f goal (n ∷ ns) zero lt h = inl h
some-here f goal (n ∷ ns) (suc i) lt h = inr (some-here f goal ns i (omega arith) h)
