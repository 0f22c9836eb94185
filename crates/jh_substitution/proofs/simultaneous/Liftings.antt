-- Loose bound variables that rise.
use Rattle.std.proofs.Common.{◌≡◌, refl, sym, ap, ◌∙◌, ℕ, zero, suc, ◌+◌, ◌<◌, ◌≤◌, nat_lt, Bool, true, false, if◌then◌else◌, List, [], ◌∷◌, drop, length, slice_get, slice_index, Some, add-one, arith}
use Rattle.std.proofs.lemmas.Bool.{true≢false, ltb-true, ltb-false, lt-ltb}
use Rattle.jh_form.specs.Tree.{ValueTree, of_object}
use Rattle.jh_form.specs.Tree as t
use Rattle.jh_form.specs.Closed.{is_closed_value}
use Rattle.jh_form.specs.Meaning.{Interp, term_value}
use Rattle.jh_boxed.specs.Kept.{Keeps}
use Rattle.jh_arena.specs.table.Entries.{Pools, the_value}
use Rattle.jh_arena.specs.table.Facing.{IsLeast}
use Rattle.jh_arena.specs.table.Nodes.{shape_tree}
use Rattle.jh_arena.specs.declared.table.shapes.Shape.{Shape}
use Rattle.jh_arena.specs.declared.table.shapes.Shape.TheVariants as s
use Rattle.jh_substitution.specs.rewriting.Fixing.{FixesBound}
use Rattle.jh_substitution.specs.rewriting.Leaf.{is_leaf}
use Rattle.jh_substitution.specs.rewriting.Rewritten.{KeepsWholes, leaves_alone, rewritten_value, rewritten_term, rewritten_int, rewritten_set, rewritten_field, rewritten_formula}
use Rattle.jh_substitution.specs.rewriting.Walks.{IsRewritten}
use Rattle.jh_substitution.proofs.rewriting.Fixed.{value-shut}
use Rattle.jh_substitution.proofs.rewriting.Sorted.{stays-rewritten, exchanged-rewritten, listed-value}
use Rattle.jh_substitution.proofs.rewriting.Wholes.{value-alone}
use Rattle.jh_substitution.specs.simultaneous.Lifted.{lifting}

-- the objects without those behind the first d
abbrev pub removed : ℕ → ℕ → List ℕ → List ℕ
removed by zero e = drop by e
removed by (suc d) [] = []
removed by (suc d) (x ∷ e) = x ∷ removed by d e

dropped : (by k : ℕ) (e : List ℕ) → slice_index e (k + by) ≡ slice_index (drop by e) k
dropped zero k e = let same : k + zero ≡ k = omega arith in ap (slice_index e) same
dropped (suc by) k [] = refl
dropped (suc by) k (x ∷ e) = let same : k + suc by ≡ suc (k + by) = omega arith in ap (slice_index (x ∷ e)) same ∙ dropped by k e

removed-below : (by k d : ℕ) (e : List ℕ) → k < d → d ≤ length e → slice_index e k ≡ slice_index (removed by d e) k
removed-below by k zero e h f = absurd (omega arith)
removed-below by k (suc d) [] h f = absurd (omega arith)
removed-below by zero (suc d) (x ∷ e) h f = refl
removed-below by (suc k) (suc d) (x ∷ e) h f = removed-below by k d e (omega arith) (omega arith)

removed-beyond : (by k d : ℕ) (e : List ℕ) → d ≤ k → d ≤ length e → slice_index e (k + by) ≡ slice_index (removed by d e) k
removed-beyond by k zero e le f = dropped by k e
removed-beyond by k (suc d) [] le f = absurd (omega arith)
removed-beyond by zero (suc d) (x ∷ e) le f = absurd (omega arith)
removed-beyond by (suc k) (suc d) (x ∷ e) le f = let same : suc k + by ≡ suc (k + by) = omega arith in ap (slice_index (x ∷ e)) same ∙ removed-beyond by k d e (omega arith) (omega arith)

bound-risen : (by k d : ℕ) (m : Interp) (e : List ℕ) (below : Bool) → nat_lt k d ≡ below → d ≤ length e → slice_index e (if below then k else k + by) ≡ slice_index (removed by d e) k
bound-risen by k d m e true p f = removed-below by k d e (ltb-true k d p) f
bound-risen by k d m e false p f = removed-beyond by k d e (ltb-false k d p) f

pub lifting-keeps : (by : ℕ) (m : Interp) → Keeps (lifting by) m m (removed by)
lifting-keeps by m = record {
  last = refl;
  under = λ d e x. ap (λ n. removed by n (x ∷ e)) (add-one d);
  object = λ x d e f. refl;
  number = λ x d e f. refl;
  truth = λ x d e f. refl;
  set = λ x d e f. refl;
  field = λ x d e f. refl;
  bound = λ k d e f. chosen k d e (nat_lt k d) refl f;
}
  where
    chosen : (k d : ℕ) (e : List ℕ) (below : Bool) → nat_lt k d ≡ below → d ≤ length e → term_value (if below then t.bound k else t.bound (k + by)) m e ≡ slice_index (removed by d e) k
    chosen k d e true p f = bound-risen by k d m e true p f
    chosen k d e false p f = bound-risen by k d m e false p f

pub lifting-wholes : (by : ℕ) (m : Interp) → KeepsWholes (leaves_alone (lifting by)) m m (removed by)
lifting-wholes by m = record { whole = λ v w d e h q. absurd (cc) }

taken : {X : Type 0} (a c : X) (b : Bool) → b ≡ true → (if b then a else c) ≡ a
taken a c true h = refl
taken a c false h = absurd (true≢false (sym h))

passed : {X : Type 0} (a c : X) (k d : ℕ) (b : Bool) → nat_lt k d ≡ b → d ≤ k → (if b then a else c) ≡ c
passed a c k d true h le = absurd (let lt : k < d = ltb-true k d h in omega arith)
passed a c k d false h le = refl

lifting-fixes : (by : ℕ) → FixesBound (lifting by)
lifting-fixes by = record { object = λ y d. refl; number = λ y d. refl; truth = λ y d. refl; set = λ y d. refl; field = λ y d. refl; bound = λ k d h. taken (t.bound k) (t.bound (k + by)) (nat_lt k d) (lt-ltb k d h) }

module _ (p : Pools) (us ts : List ValueTree) (by d : ℕ) where
  kept : (x : Shape) → is_leaf x ≡ true → ((k : ℕ) → x ≡ s.Bound k → ⊥) → rewritten_value (shape_tree p us x) (leaves_alone (lifting by)) d ≡ shape_tree p us x
  unfolding is_leaf shape_tree rewritten_value rewritten_term rewritten_int rewritten_set rewritten_field rewritten_formula
  kept (s.Bound k) leaf other = absurd (other k refl)
  kept (s.FreeObject n) leaf other = refl
  kept (s.FreeNumber n) leaf other = refl
  kept (s.FreeTruth n) leaf other = refl
  kept (s.FreeSet n) leaf other = refl
  kept (s.FreeField n) leaf other = refl
  kept _ leaf other = absurd (true≢false (sym leaf))

  -- a free name stays
  pub lifts-name : (x : Shape) (n : ℕ) → is_leaf x ≡ true → ((k : ℕ) → x ≡ s.Bound k → ⊥) → slice_get ts n ≡ Some (shape_tree p us x) → IsRewritten (leaves_alone (lifting by)) ts n d n
  lifts-name x n leaf other e = stays-rewritten ts (leaves_alone (lifting by)) n d (shape_tree p us x) e (kept x leaf other)

  chosen : (k : ℕ) → rewritten_value (shape_tree p us (s.Bound k)) (leaves_alone (lifting by)) d ≡ of_object (if nat_lt k d then t.bound k else t.bound (k + by))
  unfolding shape_tree rewritten_value rewritten_term
  chosen k = refl

  -- a variable of an inner binder stays
  pub lifts-below : (k n : ℕ) → k < d → slice_get ts n ≡ Some (shape_tree p us (s.Bound k)) → IsRewritten (leaves_alone (lifting by)) ts n d n
  unfolding shape_tree
  lifts-below k n lt e = exchanged-rewritten ts (leaves_alone (lifting by)) n d n (of_object (t.bound k)) (of_object (t.bound k)) e e
      (chosen k ∙ ap of_object (taken (t.bound k) (t.bound (k + by)) (nat_lt k d) (lt-ltb k d lt)))

  -- a loose one rises
  pub lifts-loose : (k n r : ℕ) → d ≤ k → slice_get ts n ≡ Some (shape_tree p us (s.Bound k)) → slice_get ts r ≡ Some (shape_tree p us (s.Bound (k + by))) → IsRewritten (leaves_alone (lifting by)) ts n d r
  unfolding shape_tree
  lifts-loose k n r le e f = exchanged-rewritten ts (leaves_alone (lifting by)) n d r (of_object (t.bound k)) (of_object (t.bound (k + by))) e f
      (chosen k ∙ ap of_object (passed (t.bound k) (t.bound (k + by)) k d (nat_lt k d) refl le))

pub lifts-closed : (ts : List ValueTree) (n d b : ℕ) (v : ValueTree) (by : ℕ) → slice_get ts n ≡ Some v → IsLeast (λ e. is_closed_value (the_value (slice_get ts n)) e) b → b ≤ d → IsRewritten (leaves_alone (lifting by)) ts n d n
lifts-closed ts n d b v by at h le =
    stays-rewritten ts (leaves_alone (lifting by)) n d v at
    (value-alone (lifting by) v d ∙ value-shut (lifting by) (lifting-fixes by) v d ((λ i. is_closed_value (sym (listed-value (slice_get ts n) v at) i) d) ∙ h.closed d le))
