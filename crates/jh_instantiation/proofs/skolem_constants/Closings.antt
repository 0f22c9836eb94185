-- What stands for the bound variables of a formula that is closed.
use Rattle.std.proofs.Common.{◌≡◌, refl, sym, ap, ◌∙◌, ℕ, zero, suc, ◌-◌, ◌<◌, ◌≤◌, nat_lt, Bool, true, false, if◌then◌else◌, List, [], ◌∷◌, length, map, slice_get, slice_index_or, Option, Some, arith}
use Rattle.std.proofs.lemmas.Bool.{true≢false, ltb-true, lt-ltb}
use Rattle.jh_name.specs.declared.naming.Name.{Name}
use Rattle.jh_form.specs.Tree.{TermTree, FormulaTree, ValueTree, of_object, of_truth}
use Rattle.jh_form.specs.Tree as t
use Rattle.jh_form.specs.Closed.{is_closed_value, is_closed_formula}
use Rattle.jh_arena.specs.table.Entries.{Pools, is_truth, the_value}
use Rattle.jh_arena.specs.table.Facing.{IsLeast}
use Rattle.jh_arena.specs.table.Nodes.{shape_tree}
use Rattle.jh_arena.specs.declared.table.shapes.Shape.{Shape}
use Rattle.jh_arena.specs.declared.table.shapes.Shape.TheVariants as s
use Rattle.jh_substitution.specs.rewriting.Fixing.{FixesBound}
use Rattle.jh_substitution.specs.rewriting.Leaf.{is_leaf}
use Rattle.jh_substitution.specs.rewriting.Rewritten.{leaves_alone, rewritten_value, rewritten_term, rewritten_int, rewritten_set, rewritten_field, rewritten_formula}
use Rattle.jh_substitution.specs.rewriting.Walks.{IsRewritten}
use Rattle.jh_substitution.proofs.rewriting.Fixed.{value-shut, formula-shut}
use Rattle.jh_substitution.proofs.rewriting.Sorted.{stays-rewritten, exchanged-rewritten, listed-value, listed-truth, rewritten-truth}
use Rattle.jh_substitution.proofs.rewriting.Wholes.{value-alone}
use Rattle.jh_seq.specs.splitting.Split.{constant, constant_at, closing, closed_by}

taken : {X : Type 0} (a c : X) (b : Bool) → b ≡ true → (if b then a else c) ≡ a
taken a c true h = refl
taken a c false h = absurd (true≢false (sym h))

passed : {X : Type 0} (a c : X) (k d : ℕ) (b : Bool) → nat_lt k d ≡ b → d ≤ k → (if b then a else c) ≡ c
passed a c k d true h le = absurd (let lt : k < d = ltb-true k d h in omega arith)
passed a c k d false h le = refl

pub closing-fixes : (ws : List Name) → FixesBound (closing ws)
closing-fixes ws = record { object = λ y d. refl; number = λ y d. refl; truth = λ y d. refl; set = λ y d. refl; field = λ y d. refl; bound = λ k d h. taken (t.bound k) (constant_at ws (k - d)) (nat_lt k d) (lt-ltb k d h) }

-- the constants of a list of turns
pub constant-there : (turns : List ℕ) (i turn : ℕ) → slice_get turns i ≡ Some turn → constant_at (map constant turns) i ≡ t.free_object (constant turn)
constant-there [] i turn e = absurd (cc)
constant-there (k ∷ turns) zero turn e = let same : k ≡ turn = cc in ap (λ n. t.free_object (constant n)) same
constant-there (k ∷ turns) (suc i) turn e = constant-there turns i turn e

pub constant-none : (turns : List ℕ) (i : ℕ) → length turns ≤ i → constant_at (map constant turns) i ≡ t.null
constant-none [] i le = refl
constant-none (k ∷ turns) zero le = absurd (omega arith)
constant-none (k ∷ turns) (suc i) le = constant-none turns i (omega arith)

pub at-place : (ns : List ℕ) (j d : ℕ) → j < length ns → slice_get ns j ≡ Some (slice_index_or ns j d)
at-place [] j d lt = absurd (omega arith)
at-place (m ∷ ns) zero d lt = refl
at-place (m ∷ ns) (suc j) d lt = at-place ns j d (omega arith)

module _ (p : Pools) (us ts : List ValueTree) (ws : List Name) (d : ℕ) where
  kept : (x : Shape) → is_leaf x ≡ true → ((k : ℕ) → x ≡ s.Bound k → ⊥) → rewritten_value (shape_tree p us x) (leaves_alone (closing ws)) d ≡ shape_tree p us x
  unfolding is_leaf shape_tree rewritten_value rewritten_term rewritten_int rewritten_set rewritten_field rewritten_formula
  kept (s.Bound k) leaf other = absurd (other k refl)
  kept (s.FreeObject n) leaf other = refl
  kept (s.FreeNumber n) leaf other = refl
  kept (s.FreeTruth n) leaf other = refl
  kept (s.FreeSet n) leaf other = refl
  kept (s.FreeField n) leaf other = refl
  kept _ leaf other = absurd (true≢false (sym leaf))

  -- a free name stays
  pub name-stays : (x : Shape) (n : ℕ) → is_leaf x ≡ true → ((k : ℕ) → x ≡ s.Bound k → ⊥) → slice_get ts n ≡ Some (shape_tree p us x) → IsRewritten (leaves_alone (closing ws)) ts n d n
  name-stays x n leaf other e = stays-rewritten ts (leaves_alone (closing ws)) n d (shape_tree p us x) e (kept x leaf other)

  chosen : (k : ℕ) → rewritten_value (shape_tree p us (s.Bound k)) (leaves_alone (closing ws)) d ≡ of_object (if nat_lt k d then t.bound k else constant_at ws (k - d))
  unfolding shape_tree rewritten_value rewritten_term
  chosen k = refl

  -- a variable of an inner binder stays
  pub closes-below : (k n : ℕ) → k < d → slice_get ts n ≡ Some (shape_tree p us (s.Bound k)) → IsRewritten (leaves_alone (closing ws)) ts n d n
  unfolding shape_tree
  closes-below k n lt e = exchanged-rewritten ts (leaves_alone (closing ws)) n d n (of_object (t.bound k)) (of_object (t.bound k)) e e
      (chosen k ∙ ap of_object (taken (t.bound k) (constant_at ws (k - d)) (nat_lt k d) (lt-ltb k d lt)))

  -- one of a binder that was passed is exchanged
  pub closes-at : (k n r : ℕ) (w : TermTree) → d ≤ k → constant_at ws (k - d) ≡ w → slice_get ts n ≡ Some (shape_tree p us (s.Bound k)) → slice_get ts r ≡ Some (of_object w) → IsRewritten (leaves_alone (closing ws)) ts n d r
  unfolding shape_tree
  closes-at k n r w le at e f = exchanged-rewritten ts (leaves_alone (closing ws)) n d r (of_object (t.bound k)) (of_object w) e f
      (chosen k ∙ ap of_object (passed (t.bound k) (constant_at ws (k - d)) k d (nat_lt k d) refl le ∙ at))

pub lacks-loose : (ts : List ValueTree) (n d b : ℕ) (v : ValueTree) (ws : List Name) → slice_get ts n ≡ Some v → IsLeast (λ e. is_closed_value (the_value (slice_get ts n)) e) b → b ≤ d → IsRewritten (leaves_alone (closing ws)) ts n d n
lacks-loose ts n d b v ws at h le =
    stays-rewritten ts (leaves_alone (closing ws)) n d v at
    (value-alone (closing ws) v d ∙ value-shut (closing ws) (closing-fixes ws) v d ((λ i. is_closed_value (sym (listed-value (slice_get ts n) v at) i) d) ∙ h.closed d le))

pub closed-inside : (a : FormulaTree) (o : Option ValueTree) → o ≡ Some (of_truth a) → is_closed_value (the_value o) 0 ≡ true → is_closed_formula a 0 ≡ true
unfolding is_closed_value the_value
closed-inside a o e h = ap (λ z. is_closed_value (the_value z) 0) (sym e) ∙ h

-- a formula without loose bound variables stays
pub shut-stays : (ts : List ValueTree) (n : ℕ) (a : FormulaTree) (ws : List Name) → slice_get ts n ≡ Some (of_truth a) → is_closed_value (the_value (slice_get ts n)) 0 ≡ true → slice_get ts n ≡ Some (of_truth (closed_by a ws))
shut-stays ts n a ws e h = e ∙ ap (λ b. Some (of_truth b)) (sym (formula-shut (closing ws) (closing-fixes ws) a 0 (closed-inside a (slice_get ts n) e h)))

-- what a walk makes of a formula
pub walk-closes : (o made : Option ValueTree) (a : FormulaTree) (ws : List Name) → o ≡ Some (of_truth a) → is_truth o ≡ true → made ≡ Some (rewritten_value (the_value o) (leaves_alone (closing ws)) 0) → made ≡ Some (of_truth (closed_by a ws))
walk-closes o made a ws e h is = is ∙ rewritten-truth (closing ws) 0 o h ∙ ap (λ b. Some (of_truth (closed_by b ws))) (listed-truth o a e)
