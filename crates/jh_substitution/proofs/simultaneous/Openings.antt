-- Several binders opened at once keep the meaning of the body.
use Rattle.std.proofs.Common.{◌≡◌, refl, sym, ap, ◌∙◌, ℕ, zero, suc, ◌+◌, ◌-◌, ◌<◌, ◌≤◌, nat_lt, Bool, true, false, if◌then◌else◌, List, [], ◌∷◌, length, slice_get, slice_index, slice_index_or, Option, Some, None, add-one, arith}
use Rattle.std.proofs.lemmas.Bool.{true≢false, ltb-true, ltb-false, lt-ltb}
use Rattle.jh_form.specs.Tree.{TermTree, FormulaTree, ValueTree, of_object, of_truth}
use Rattle.jh_form.specs.Tree as t
use Rattle.jh_form.specs.Closed.{is_closed_term, is_closed_value}
use Rattle.jh_form.specs.Meaning.{Interp, truth, term_value}
use Rattle.jh_form.proofs.ClosedLemmas.{both-left, both-right, term_value-closed}
use Rattle.jh_boxed.specs.Kept.{Keeps}
use Rattle.jh_boxed.proofs.Meanings.{truth-mapped}
use Rattle.jh_arena.specs.table.Entries.{Pools, is_truth, is_object, the_object, the_truth, the_value}
use Rattle.jh_arena.specs.table.Facing.{IsLeast}
use Rattle.jh_arena.specs.table.Nodes.{shape_tree}
use Rattle.jh_arena.specs.declared.table.shapes.Shape.{Shape}
use Rattle.jh_arena.specs.declared.table.shapes.Shape.TheVariants as s
use Rattle.jh_substitution.specs.rewriting.Fixing.{FixesBound}
use Rattle.jh_substitution.specs.rewriting.Leaf.{is_leaf}
use Rattle.jh_substitution.specs.rewriting.Rewritten.{leaves_alone, rewritten_value, rewritten_term, rewritten_int, rewritten_set, rewritten_field, rewritten_formula}
use Rattle.jh_substitution.specs.rewriting.Walks.{IsRewritten}
use Rattle.jh_substitution.proofs.rewriting.Fixed.{value-shut}
use Rattle.jh_substitution.proofs.rewriting.Sorted.{stays-rewritten, exchanged-rewritten, listed-value, listed-truth}
use Rattle.jh_substitution.proofs.rewriting.Wholes.{value-alone}
use Rattle.jh_substitution.specs.simultaneous.OpenedAll.{bound_or, opening_all, opened_all, values_before, terms_closed, are_objects, objects_at}

-- e with the objects of the terms behind its first d objects
abbrev inserted : List TermTree → Interp → ℕ → List ℕ → List ℕ
inserted ws m zero e = values_before ws m e
inserted ws m (suc d) [] = values_before ws m []
inserted ws m (suc d) (x ∷ e) = x ∷ inserted ws m d e

module _ (ws : List TermTree) (m : Interp) where
  inserted-below : (k d : ℕ) (e : List ℕ) → k < d → d ≤ length e → slice_index e k ≡ slice_index (inserted ws m d e) k
  inserted-below k zero e h f = absurd (omega arith)
  inserted-below k (suc d) [] h f = absurd (omega arith)
  inserted-below zero (suc d) (x ∷ e) h f = refl
  inserted-below (suc k) (suc d) (x ∷ e) h f = inserted-below k d e (omega arith) (omega arith)

-- the object of the term at a place, and those beyond the terms
value-at : (ws : List TermTree) (m : Interp) (e : List ℕ) (j : ℕ) (w : TermTree) → slice_get ws j ≡ Some w → term_value w m [] ≡ slice_index (values_before ws m e) j
value-at [] m e j w h = absurd (cc)
value-at (v ∷ ws) m e zero w h = let same : v ≡ w = cc in ap (λ z. term_value z m []) (sym same)
value-at (v ∷ ws) m e (suc j) w h = value-at ws m e j w h

value-beyond : (ws : List TermTree) (m : Interp) (e : List ℕ) (j : ℕ) → length ws ≤ j → slice_index e (j - length ws) ≡ slice_index (values_before ws m e) j
value-beyond [] m e j le = let same : j - zero ≡ j = omega arith in ap (slice_index e) same
value-beyond (v ∷ ws) m e zero le = absurd (omega arith)
value-beyond (v ∷ ws) m e (suc j) le = let same : suc j - suc (length ws) ≡ j - length ws = omega arith in ap (slice_index e) same ∙ value-beyond ws m e j (omega arith)

module _ (ws : List TermTree) (m : Interp) where
  inserted-at : (k d : ℕ) (e : List ℕ) (w : TermTree) → d ≤ k → d ≤ length e → slice_get ws (k - d) ≡ Some w → term_value w m [] ≡ slice_index (inserted ws m d e) k
  inserted-at k zero e w le f h = let same : k - zero ≡ k = omega arith in value-at ws m e k w (ap (slice_get ws) (sym same) ∙ h)
  inserted-at k (suc d) [] w le f h = absurd (omega arith)
  inserted-at zero (suc d) (x ∷ e) w le f h = absurd (omega arith)
  inserted-at (suc k) (suc d) (x ∷ e) w le f h = let same : suc k - suc d ≡ k - d = omega arith in inserted-at k d e w (omega arith) (omega arith) (ap (slice_get ws) (sym same) ∙ h)

  inserted-beyond : (k d : ℕ) (e : List ℕ) → d + length ws ≤ k → d ≤ length e → slice_index e (k - length ws) ≡ slice_index (inserted ws m d e) k
  inserted-beyond k zero e le f = value-beyond ws m e k (omega arith)
  inserted-beyond k (suc d) [] le f = absurd (omega arith)
  inserted-beyond zero (suc d) (x ∷ e) le f = absurd (omega arith)
  inserted-beyond (suc k) (suc d) (x ∷ e) le f = let same : suc k - length ws ≡ suc (k - length ws) = omega arith in ap (slice_index (x ∷ e)) same ∙ inserted-beyond k d e (omega arith) (omega arith)

closed-at : (ws : List TermTree) (j : ℕ) (w : TermTree) → terms_closed ws ≡ true → slice_get ws j ≡ Some w → is_closed_term w 0 ≡ true
closed-at [] j w h e = absurd (cc)
closed-at (v ∷ ws) zero w h e = let same : v ≡ w = cc in ap (λ z. is_closed_term z 0) (sym same) ∙ both-left (is_closed_term v 0) (terms_closed ws) h
closed-at (v ∷ ws) (suc j) w h e = closed-at ws j w (both-right (is_closed_term v 0) (terms_closed ws) h) e

none-within : (ws : List TermTree) (j : ℕ) → slice_get ws j ≡ None → length ws ≤ j
none-within [] j h = omega arith
none-within (v ∷ ws) zero h = absurd (cc)
none-within (v ∷ ws) (suc j) h = let le : length ws ≤ j = none-within ws j h in omega arith

module _ (ws : List TermTree) (closed : terms_closed ws ≡ true) (m : Interp) where
  bound-opened : (k d : ℕ) (e : List ℕ) (below : Bool) (o : Option TermTree) → nat_lt k d ≡ below → slice_get ws (k - d) ≡ o → d ≤ length e →
      term_value (if below then t.bound k else bound_or o (k - length ws)) m e ≡ slice_index (inserted ws m d e) k
  bound-opened k d e true o p q f = inserted-below ws m k d e (ltb-true k d p) f
  bound-opened k d e false (Some w) p q f =
      term_value-closed w m 0 e [] (λ j lt. absurd (omega arith)) (closed-at ws (k - d) w closed q)
      ∙ inserted-at ws m k d e w (ltb-false k d p) f q
  bound-opened k d e false None p q f =
      let le : d ≤ k = ltb-false k d p in
      let far : length ws ≤ k - d = none-within ws (k - d) q in
      inserted-beyond ws m k d e (omega arith) f

  opening-keeps : Keeps (opening_all ws) m m (inserted ws m)
  opening-keeps = record {
    last = refl;
    under = λ d e x. ap (λ n. inserted ws m n (x ∷ e)) (add-one d);
    object = λ x d e f. refl;
    number = λ x d e f. refl;
    truth = λ x d e f. refl;
    set = λ x d e f. refl;
    field = λ x d e f. refl;
    bound = λ k d e f. bound-opened k d e (nat_lt k d) (slice_get ws (k - d)) refl refl f;
  }

  truth-opened : (a : FormulaTree) (env : List ℕ) → truth (opened_all a ws) m env ≡ truth a m (values_before ws m env)
  truth-opened a env = truth-mapped (opening_all ws) m m (inserted ws m) opening-keeps a 0 env (omega arith)

pub several-opened : (ws : List TermTree) (o made : Option ValueTree) → is_truth o ≡ true → terms_closed ws ≡ true → made ≡ Some (of_truth (opened_all (the_truth o) ws)) →
    (m : Interp) (env : List ℕ) → truth (the_truth made) m env ≡ truth (the_truth o) m (values_before ws m env)
several-opened ws o made h closed is m env =
    ap (λ a. truth a m env) (listed-truth made (opened_all (the_truth o) ws) is) ∙ truth-opened ws closed m (the_truth o) env

taken : {X : Type 0} (a c : X) (b : Bool) → b ≡ true → (if b then a else c) ≡ a
taken a c true h = refl
taken a c false h = absurd (true≢false (sym h))

passed : {X : Type 0} (a c : X) (k d : ℕ) (b : Bool) → nat_lt k d ≡ b → d ≤ k → (if b then a else c) ≡ c
passed a c k d true h le = absurd (let lt : k < d = ltb-true k d h in omega arith)
passed a c k d false h le = refl

opening-fixes : (ws : List TermTree) → FixesBound (opening_all ws)
opening-fixes ws = record { object = λ y d. refl; number = λ y d. refl; truth = λ y d. refl; set = λ y d. refl; field = λ y d. refl; bound = λ k d h. taken (t.bound k) (bound_or (slice_get ws (k - d)) (k - length ws)) (nat_lt k d) (lt-ltb k d h) }

module _ (p : Pools) (us ts : List ValueTree) (ws : List TermTree) (d : ℕ) where
  kept : (x : Shape) → is_leaf x ≡ true → ((k : ℕ) → x ≡ s.Bound k → ⊥) → rewritten_value (shape_tree p us x) (leaves_alone (opening_all ws)) d ≡ shape_tree p us x
  unfolding is_leaf shape_tree rewritten_value rewritten_term rewritten_int rewritten_set rewritten_field rewritten_formula
  kept (s.Bound k) leaf other = absurd (other k refl)
  kept (s.FreeObject n) leaf other = refl
  kept (s.FreeNumber n) leaf other = refl
  kept (s.FreeTruth n) leaf other = refl
  kept (s.FreeSet n) leaf other = refl
  kept (s.FreeField n) leaf other = refl
  kept _ leaf other = absurd (true≢false (sym leaf))

  -- a free name stays
  pub name-stays : (x : Shape) (n : ℕ) → is_leaf x ≡ true → ((k : ℕ) → x ≡ s.Bound k → ⊥) → slice_get ts n ≡ Some (shape_tree p us x) → IsRewritten (leaves_alone (opening_all ws)) ts n d n
  name-stays x n leaf other e = stays-rewritten ts (leaves_alone (opening_all ws)) n d (shape_tree p us x) e (kept x leaf other)

  chosen : (k : ℕ) → rewritten_value (shape_tree p us (s.Bound k)) (leaves_alone (opening_all ws)) d ≡ of_object (if nat_lt k d then t.bound k else bound_or (slice_get ws (k - d)) (k - length ws))
  unfolding shape_tree rewritten_value rewritten_term
  chosen k = refl

  -- a variable of an inner binder stays
  pub opens-below : (k n : ℕ) → k < d → slice_get ts n ≡ Some (shape_tree p us (s.Bound k)) → IsRewritten (leaves_alone (opening_all ws)) ts n d n
  unfolding shape_tree
  opens-below k n lt e = exchanged-rewritten ts (leaves_alone (opening_all ws)) n d n (of_object (t.bound k)) (of_object (t.bound k)) e e
      (chosen k ∙ ap of_object (taken (t.bound k) (bound_or (slice_get ws (k - d)) (k - length ws)) (nat_lt k d) (lt-ltb k d lt)))

  -- that of an opened binder is exchanged
  pub opens-at : (k n r : ℕ) (w : TermTree) → d ≤ k → slice_get ws (k - d) ≡ Some w → slice_get ts n ≡ Some (shape_tree p us (s.Bound k)) → slice_get ts r ≡ Some (of_object w) → IsRewritten (leaves_alone (opening_all ws)) ts n d r
  unfolding shape_tree
  opens-at k n r w le at e f = exchanged-rewritten ts (leaves_alone (opening_all ws)) n d r (of_object (t.bound k)) (of_object w) e f
      (chosen k ∙ ap of_object (passed (t.bound k) (bound_or (slice_get ws (k - d)) (k - length ws)) k d (nat_lt k d) refl le ∙ ap (λ o. bound_or o (k - length ws)) at))

  -- one beyond falls
  pub opens-beyond : (k n r : ℕ) → d ≤ k → slice_get ws (k - d) ≡ None → slice_get ts n ≡ Some (shape_tree p us (s.Bound k)) → slice_get ts r ≡ Some (shape_tree p us (s.Bound (k - length ws))) → IsRewritten (leaves_alone (opening_all ws)) ts n d r
  unfolding shape_tree
  opens-beyond k n r le at e f = exchanged-rewritten ts (leaves_alone (opening_all ws)) n d r (of_object (t.bound k)) (of_object (t.bound (k - length ws))) e f
      (chosen k ∙ ap of_object (passed (t.bound k) (bound_or (slice_get ws (k - d)) (k - length ws)) k d (nat_lt k d) refl le ∙ ap (λ o. bound_or o (k - length ws)) at))

pub lacks-loose : (ts : List ValueTree) (n d b : ℕ) (v : ValueTree) (ws : List TermTree) → slice_get ts n ≡ Some v → IsLeast (λ e. is_closed_value (the_value (slice_get ts n)) e) b → b ≤ d → IsRewritten (leaves_alone (opening_all ws)) ts n d n
lacks-loose ts n d b v ws at h le =
    stays-rewritten ts (leaves_alone (opening_all ws)) n d v at
    (value-alone (opening_all ws) v d ∙ value-shut (opening_all ws) (opening-fixes ws) v d ((λ i. is_closed_value (sym (listed-value (slice_get ts n) v at) i) d) ∙ h.closed d le))

-- the terms of a list of nodes
pub object-length : (ts : List ValueTree) (ns : List ℕ) → length (objects_at ts ns) ≡ length ns
object-length ts [] = refl
object-length ts (n ∷ ns) = ap suc (object-length ts ns)

pub object-at : (ts : List ValueTree) (ns : List ℕ) (j n : ℕ) → slice_get ns j ≡ Some n → slice_get (objects_at ts ns) j ≡ Some (the_object (slice_get ts n))
object-at ts [] j n e = absurd (cc)
object-at ts (m ∷ ns) zero n e = let same : m ≡ n = cc in ap (λ k. Some (the_object (slice_get ts k))) same
object-at ts (m ∷ ns) (suc j) n e = object-at ts ns j n e

pub object-none : (ts : List ValueTree) (ns : List ℕ) (j : ℕ) → length ns ≤ j → slice_get (objects_at ts ns) j ≡ None
object-none ts [] j le = refl
object-none ts (m ∷ ns) zero le = absurd (omega arith)
object-none ts (m ∷ ns) (suc j) le = object-none ts ns j (omega arith)

some-object : (o : Option ValueTree) → is_object o ≡ true → o ≡ Some (of_object (the_object o))
unfolding is_object the_object
some-object (Some (of_object a)) h = refl
some-object _ h = absurd (true≢false (sym h))

pub object-there : (ts : List ValueTree) (ns : List ℕ) (j n : ℕ) → are_objects ts ns ≡ true → slice_get ns j ≡ Some n → slice_get ts n ≡ Some (of_object (the_object (slice_get ts n)))
object-there ts [] j n h e = absurd (cc)
object-there ts (m ∷ ns) zero n h e =
    let same : m ≡ n = cc in
    some-object (slice_get ts n) (ap (λ k. is_object (slice_get ts k)) (sym same) ∙ both-left (is_object (slice_get ts m)) (are_objects ts ns) h)
object-there ts (m ∷ ns) (suc j) n h e = object-there ts ns j n (both-right (is_object (slice_get ts m)) (are_objects ts ns) h) e

pub at-place : (ns : List ℕ) (j d : ℕ) → j < length ns → slice_get ns j ≡ Some (slice_index_or ns j d)
at-place [] j d lt = absurd (omega arith)
at-place (m ∷ ns) zero d lt = refl
at-place (m ∷ ns) (suc j) d lt = at-place ns j d (omega arith)
