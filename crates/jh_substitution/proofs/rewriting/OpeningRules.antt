-- The rules of an opening, over a table.
use Rattle.std.proofs.Common.{◌≡◌, refl, sym, ap, ◌∙◌, ℕ, ◌-◌, ◌<◌, ◌==◌, nat_lt, true, if◌then◌else◌, List, slice_get, Some, arith}
use Rattle.std.proofs.lemmas.Bool.{true≢false}
use Rattle.std.proofs.lemmas.Bool.Decides.{nat_tests}
use Rattle.jh_form.specs.Tree.{TermTree, ValueTree, of_object, of_truth}
use Rattle.jh_form.specs.Tree as t
use Rattle.jh_substitution.specs.rewriting.Rewritten.{leaves_alone, rewritten_value, rewritten_term, rewritten_int, rewritten_set, rewritten_field, rewritten_formula}
use Rattle.jh_boxed_operations.specs.substitution.Opened.{opening}
use Rattle.jh_arena.specs.table.Entries.{Pools}
use Rattle.jh_arena.specs.table.Nodes.{shape_tree}
use Rattle.jh_arena.specs.declared.table.shapes.Shape.{Shape}
use Rattle.jh_arena.specs.declared.table.shapes.Shape.TheVariants as s
use Rattle.jh_substitution.specs.rewriting.Leaf.{is_leaf}
use Rattle.jh_substitution.specs.rewriting.Walks.{IsRewritten}
use Rattle.jh_substitution.proofs.rewriting.Sorted.{stays-rewritten, exchanged-rewritten}

module _ (p : Pools) (us ts : List ValueTree) (w : TermTree) (d : ℕ) where
  kept : (x : Shape) → is_leaf x ≡ true → ((k : ℕ) → x ≡ s.Bound k → ⊥) → rewritten_value (shape_tree p us x) (leaves_alone (opening w)) d ≡ shape_tree p us x
  unfolding is_leaf shape_tree rewritten_value rewritten_term rewritten_int rewritten_set rewritten_field rewritten_formula
  kept (s.Bound k) leaf other = absurd (other k refl)
  kept (s.FreeObject n) leaf other = refl
  kept (s.FreeNumber n) leaf other = refl
  kept (s.FreeTruth n) leaf other = refl
  kept (s.FreeSet n) leaf other = refl
  kept (s.FreeField n) leaf other = refl
  kept _ leaf other = absurd (true≢false (sym leaf))

  -- a free name stays
  pub opening-name : (x : Shape) (n : ℕ) → is_leaf x ≡ true → ((k : ℕ) → x ≡ s.Bound k → ⊥) → slice_get ts n ≡ Some (shape_tree p us x) → IsRewritten (leaves_alone (opening w)) ts n d n
  opening-name x n leaf other e = stays-rewritten ts (leaves_alone (opening w)) n d (shape_tree p us x) e (kept x leaf other)

  chosen : (k : ℕ) → rewritten_value (shape_tree p us (s.Bound k)) (leaves_alone (opening w)) d ≡ of_object (if nat_lt k d then t.bound k else (if k == d then w else t.bound (k - 1)))
  unfolding shape_tree rewritten_value rewritten_term
  chosen k = refl

  if-below : (k : ℕ) → k < d → (if nat_lt k d then t.bound k else (if k == d then w else t.bound (k - 1))) ≡ t.bound k
  if-below k lt = grind (arith, nat_tests)

  if-at : (k : ℕ) → k ≡ d → (if nat_lt k d then t.bound k else (if k == d then w else t.bound (k - 1))) ≡ w
  if-at k e = grind (arith, nat_tests)

  if-beyond : (k : ℕ) → d < k → (if nat_lt k d then t.bound k else (if k == d then w else t.bound (k - 1))) ≡ t.bound (k - 1)
  if-beyond k lt = grind (arith, nat_tests)

  -- a variable of an inner binder stays
  pub opening-below : (k n : ℕ) → k < d → slice_get ts n ≡ Some (shape_tree p us (s.Bound k)) → IsRewritten (leaves_alone (opening w)) ts n d n
  unfolding shape_tree
  opening-below k n lt e = exchanged-rewritten ts (leaves_alone (opening w)) n d n (of_object (t.bound k)) (of_object (t.bound k)) e e (chosen k ∙ ap of_object (if-below k lt))

  -- the binder's own is exchanged
  pub opening-at : (k n r : ℕ) → k ≡ d → slice_get ts n ≡ Some (shape_tree p us (s.Bound k)) → slice_get ts r ≡ Some (of_object w) → IsRewritten (leaves_alone (opening w)) ts n d r
  unfolding shape_tree
  opening-at k n r same e f = exchanged-rewritten ts (leaves_alone (opening w)) n d r (of_object (t.bound k)) (of_object w) e f (chosen k ∙ ap of_object (if-at k same))

  -- one beyond falls by one
  pub opening-beyond : (k n r : ℕ) → d < k → slice_get ts n ≡ Some (shape_tree p us (s.Bound k)) → slice_get ts r ≡ Some (shape_tree p us (s.Bound (k - 1))) → IsRewritten (leaves_alone (opening w)) ts n d r
  unfolding shape_tree
  opening-beyond k n r lt e f = exchanged-rewritten ts (leaves_alone (opening w)) n d r (of_object (t.bound k)) (of_object (t.bound (k - 1))) e f (chosen k ∙ ap of_object (if-beyond k lt))
