-- A receiver in the place of the one loose variable.
use Rattle.std.proofs.Common.{◌≡◌, refl, sym, ap, ◌∙◌, ℕ, ◌<◌, ◌≤◌, nat_lt, Bool, true, false, if◌then◌else◌, List, slice_get, Option, Some, arith}
use Rattle.std.proofs.lemmas.Bool.{true≢false, ltb-true, lt-ltb}
use Rattle.jh_form.specs.Tree.{ValueTree, TermTree, of_object}
use Rattle.jh_form.specs.Tree as t
use Rattle.jh_form.specs.Closed.{is_closed_value}
use Rattle.jh_boxed.specs.Mapped.{mapped_value}
use Rattle.jh_arena.specs.table.Entries.{Pools, is_object, the_object, the_value}
use Rattle.jh_arena.specs.table.Facing.{IsLeast}
use Rattle.jh_arena.specs.table.Nodes.{shape_tree}
use Rattle.jh_arena.specs.declared.table.shapes.Shape.{Shape}
use Rattle.jh_arena.specs.declared.table.shapes.Shape.TheVariants as s
use Rattle.jh_substitution.specs.rewriting.Fixing.{FixesBound}
use Rattle.jh_substitution.specs.rewriting.Leaf.{is_leaf}
use Rattle.jh_substitution.specs.rewriting.Rewritten.{leaves_alone, rewritten_value, rewritten_term, rewritten_int, rewritten_set, rewritten_field, rewritten_formula}
use Rattle.jh_substitution.specs.rewriting.Walks.{IsRewritten}
use Rattle.jh_substitution.proofs.rewriting.Fixed.{value-shut}
use Rattle.jh_substitution.proofs.rewriting.Sorted.{stays-rewritten, exchanged-rewritten, listed-value}
use Rattle.jh_substitution.proofs.rewriting.Wholes.{value-alone}
use Rattle.jh_substitution.specs.simultaneous.Lifted.{lifting}
use Rattle.jh_vars.specs.Resolved.{receiving, shifted}

taken : {X : Type 0} (a c : X) (b : Bool) → b ≡ true → (if b then a else c) ≡ a
taken a c true h = refl
taken a c false h = absurd (true≢false (sym h))

passed : {X : Type 0} (a c : X) (k d : ℕ) (b : Bool) → nat_lt k d ≡ b → d ≤ k → (if b then a else c) ≡ c
passed a c k d true h le = absurd (let lt : k < d = ltb-true k d h in omega arith)
passed a c k d false h le = refl

receiving-fixes : (w : TermTree) → FixesBound (receiving w)
receiving-fixes w = record { object = λ y d. refl; number = λ y d. refl; truth = λ y d. refl; set = λ y d. refl; field = λ y d. refl; bound = λ k d h. taken (t.bound k) (shifted d w) (nat_lt k d) (lt-ltb k d h) }

-- a lifted object
pub lifted-object : (o : Option ValueTree) (n : ℕ) → is_object o ≡ true → mapped_value (the_value o) (lifting n) 0 ≡ of_object (shifted n (the_object o))
unfolding is_object the_value the_object mapped_value
lifted-object (Some (of_object a)) n h = refl
lifted-object _ n h = absurd (true≢false (sym h))

module _ (p : Pools) (us ts : List ValueTree) (w : TermTree) (d : ℕ) where
  kept : (x : Shape) → is_leaf x ≡ true → ((k : ℕ) → x ≡ s.Bound k → ⊥) → rewritten_value (shape_tree p us x) (leaves_alone (receiving w)) d ≡ shape_tree p us x
  unfolding is_leaf shape_tree rewritten_value rewritten_term rewritten_int rewritten_set rewritten_field rewritten_formula
  kept (s.Bound k) leaf other = absurd (other k refl)
  kept (s.FreeObject n) leaf other = refl
  kept (s.FreeNumber n) leaf other = refl
  kept (s.FreeTruth n) leaf other = refl
  kept (s.FreeSet n) leaf other = refl
  kept (s.FreeField n) leaf other = refl
  kept _ leaf other = absurd (true≢false (sym leaf))

  -- a free name stays
  pub receives-name : (x : Shape) (n : ℕ) → is_leaf x ≡ true → ((k : ℕ) → x ≡ s.Bound k → ⊥) → slice_get ts n ≡ Some (shape_tree p us x) → IsRewritten (leaves_alone (receiving w)) ts n d n
  receives-name x n leaf other e = stays-rewritten ts (leaves_alone (receiving w)) n d (shape_tree p us x) e (kept x leaf other)

  chosen : (k : ℕ) → rewritten_value (shape_tree p us (s.Bound k)) (leaves_alone (receiving w)) d ≡ of_object (if nat_lt k d then t.bound k else shifted d w)
  unfolding shape_tree rewritten_value rewritten_term
  chosen k = refl

  -- a variable of an inner binder stays
  pub receives-below : (k n : ℕ) → k < d → slice_get ts n ≡ Some (shape_tree p us (s.Bound k)) → IsRewritten (leaves_alone (receiving w)) ts n d n
  unfolding shape_tree
  receives-below k n lt e = exchanged-rewritten ts (leaves_alone (receiving w)) n d n (of_object (t.bound k)) (of_object (t.bound k)) e e
      (chosen k ∙ ap of_object (taken (t.bound k) (shifted d w) (nat_lt k d) (lt-ltb k d lt)))

  -- the loose one is the receiver
  pub receives-loose : (k n r : ℕ) → d ≤ k → slice_get ts n ≡ Some (shape_tree p us (s.Bound k)) → slice_get ts r ≡ Some (of_object (shifted d w)) → IsRewritten (leaves_alone (receiving w)) ts n d r
  unfolding shape_tree
  receives-loose k n r le e f = exchanged-rewritten ts (leaves_alone (receiving w)) n d r (of_object (t.bound k)) (of_object (shifted d w)) e f
      (chosen k ∙ ap of_object (passed (t.bound k) (shifted d w) k d (nat_lt k d) refl le))

pub receives-closed : (ts : List ValueTree) (n d b : ℕ) (v : ValueTree) (w : TermTree) → slice_get ts n ≡ Some v → IsLeast (λ e. is_closed_value (the_value (slice_get ts n)) e) b → b ≤ d → IsRewritten (leaves_alone (receiving w)) ts n d n
receives-closed ts n d b v w at h le =
    stays-rewritten ts (leaves_alone (receiving w)) n d v at
    (value-alone (receiving w) v d ∙ value-shut (receiving w) (receiving-fixes w) v d ((λ i. is_closed_value (sym (listed-value (slice_get ts n) v at) i) d) ∙ h.closed d le))
