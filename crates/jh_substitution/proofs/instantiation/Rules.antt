-- The rules of a putting, over a table.
use Rattle.std.proofs.Common.{◌≡◌, refl, sym, ap, ◌∙◌, ℕ, ◌-◌, ◌<◌, ◌≤◌, ◌==◌, length, nat_lt, Bool, true, false, if◌then◌else◌, List, slice_get, Option, Some, None, is_some, arith}
use Rattle.std.proofs.lemmas.Bool.{true≢false, lt-ltb}
use Rattle.std.proofs.lemmas.Bool.Decides.{nat_tests}
use Rattle.jh_form.specs.Tree.{TermTree, ValueTree, of_object}
use Rattle.jh_form.specs.Tree as t
use Rattle.jh_form.specs.Closed.{is_closed_value}
use Rattle.jh_boxed.specs.Mapped.{mapped_term, mapped_value}
use Rattle.jh_arena.specs.table.Entries.{Pools, is_object, the_object, the_value}
use Rattle.jh_arena.specs.table.Facing.{IsLeast}
use Rattle.jh_arena.specs.table.Nodes.{shape_tree}
use Rattle.jh_arena.specs.declared.table.shapes.Shape.{Shape}
use Rattle.jh_arena.specs.declared.table.shapes.Shape.TheVariants as s
use Rattle.jh_substitution.specs.rewriting.Fixing.{FixesBound}
use Rattle.jh_substitution.specs.rewriting.Leaf.{is_leaf}
use Rattle.jh_substitution.specs.rewriting.Rewritten.{leaves_alone, rewritten_value, rewritten_term, rewritten_int, rewritten_set, rewritten_field, rewritten_formula}
use Rattle.jh_substitution.specs.rewriting.Walks.{IsRewritten}
use Rattle.jh_substitution.proofs.rewriting.Fixed.{value-shut}
use Rattle.jh_substitution.proofs.rewriting.Sorted.{stays-rewritten, exchanged-rewritten, listed-value}
use Rattle.jh_substitution.proofs.rewriting.Wholes.{value-alone}
use Rattle.jh_substitution.specs.simultaneous.Lifted.{lifting}
use Rattle.jh_substitution.specs.instantiation.Putting.{putting}

module _ (p : Pools) (us ts : List ValueTree) (w : TermTree) (d : ℕ) where
  kept : (x : Shape) → is_leaf x ≡ true → ((k : ℕ) → x ≡ s.Bound k → ⊥) → rewritten_value (shape_tree p us x) (leaves_alone (putting w)) d ≡ shape_tree p us x
  unfolding is_leaf shape_tree rewritten_value rewritten_term rewritten_int rewritten_set rewritten_field rewritten_formula
  kept (s.Bound k) leaf other = absurd (other k refl)
  kept (s.FreeObject n) leaf other = refl
  kept (s.FreeNumber n) leaf other = refl
  kept (s.FreeTruth n) leaf other = refl
  kept (s.FreeSet n) leaf other = refl
  kept (s.FreeField n) leaf other = refl
  kept _ leaf other = absurd (true≢false (sym leaf))

  -- a free name stays
  pub put-name : (x : Shape) (n : ℕ) → is_leaf x ≡ true → ((k : ℕ) → x ≡ s.Bound k → ⊥) → slice_get ts n ≡ Some (shape_tree p us x) → IsRewritten (leaves_alone (putting w)) ts n d n
  put-name x n leaf other e = stays-rewritten ts (leaves_alone (putting w)) n d (shape_tree p us x) e (kept x leaf other)

  chosen : (k : ℕ) → rewritten_value (shape_tree p us (s.Bound k)) (leaves_alone (putting w)) d ≡ of_object (if nat_lt k d then t.bound k else (if k == d then mapped_term w (lifting d) 0 else t.bound (k - 1)))
  unfolding shape_tree rewritten_value rewritten_term
  chosen k = refl

  if-below : (k : ℕ) → k < d → (if nat_lt k d then t.bound k else (if k == d then mapped_term w (lifting d) 0 else t.bound (k - 1))) ≡ t.bound k
  if-below k lt = grind (arith, nat_tests)

  if-at : (k : ℕ) → k ≡ d → (if nat_lt k d then t.bound k else (if k == d then mapped_term w (lifting d) 0 else t.bound (k - 1))) ≡ mapped_term w (lifting d) 0
  if-at k e = grind (arith, nat_tests)

  if-beyond : (k : ℕ) → d < k → (if nat_lt k d then t.bound k else (if k == d then mapped_term w (lifting d) 0 else t.bound (k - 1))) ≡ t.bound (k - 1)
  if-beyond k lt = grind (arith, nat_tests)

  -- a variable of an inner binder stays
  pub put-below : (k n : ℕ) → k < d → slice_get ts n ≡ Some (shape_tree p us (s.Bound k)) → IsRewritten (leaves_alone (putting w)) ts n d n
  unfolding shape_tree
  put-below k n lt e = exchanged-rewritten ts (leaves_alone (putting w)) n d n (of_object (t.bound k)) (of_object (t.bound k)) e e (chosen k ∙ ap of_object (if-below k lt))

  -- the term stands for the binder's own, raised
  pub put-at : (k n r : ℕ) → k ≡ d → slice_get ts n ≡ Some (shape_tree p us (s.Bound k)) → slice_get ts r ≡ Some (of_object (mapped_term w (lifting d) 0)) → IsRewritten (leaves_alone (putting w)) ts n d r
  unfolding shape_tree
  put-at k n r same e f = exchanged-rewritten ts (leaves_alone (putting w)) n d r (of_object (t.bound k)) (of_object (mapped_term w (lifting d) 0)) e f (chosen k ∙ ap of_object (if-at k same))

  -- one beyond falls by one
  pub put-beyond : (k n r : ℕ) → d < k → slice_get ts n ≡ Some (shape_tree p us (s.Bound k)) → slice_get ts r ≡ Some (shape_tree p us (s.Bound (k - 1))) → IsRewritten (leaves_alone (putting w)) ts n d r
  unfolding shape_tree
  put-beyond k n r lt e f = exchanged-rewritten ts (leaves_alone (putting w)) n d r (of_object (t.bound k)) (of_object (t.bound (k - 1))) e f (chosen k ∙ ap of_object (if-beyond k lt))

-- what stands raised at a node is the raised object
pub risen-object : (d : ℕ) (o : Option ValueTree) → is_object o ≡ true → mapped_value (the_value o) (lifting d) 0 ≡ of_object (mapped_term (the_object o) (lifting d) 0)
unfolding is_object the_value the_object mapped_value
risen-object d (Some (of_object a)) h = refl
risen-object d _ h = absurd (true≢false (sym h))

taken : {X : Type 0} (a c : X) (b : Bool) → b ≡ true → (if b then a else c) ≡ a
taken a c true h = refl
taken a c false h = absurd (true≢false (sym h))

putting-fixes : (w : TermTree) → FixesBound (putting w)
putting-fixes w = record {
  object = λ y d. refl;
  number = λ y d. refl;
  truth = λ y d. refl;
  set = λ y d. refl;
  field = λ y d. refl;
  bound = λ k d h. taken (t.bound k) (if k == d then mapped_term w (lifting d) 0 else t.bound (k - 1)) (nat_lt k d) (lt-ltb k d h);
}

-- a part without loose bound variables stays in its place
pub put-closed : (ts : List ValueTree) (n d b : ℕ) (v : ValueTree) (w : TermTree) → slice_get ts n ≡ Some v → IsLeast (λ e. is_closed_value (the_value (slice_get ts n)) e) b → b ≤ d → IsRewritten (leaves_alone (putting w)) ts n d n
put-closed ts n d b v w at h le =
    stays-rewritten ts (leaves_alone (putting w)) n d v at
    (value-alone (putting w) v d ∙ value-shut (putting w) (putting-fixes w) v d ((λ i. is_closed_value (sym (listed-value (slice_get ts n) v at) i) d) ∙ h.closed d le))
