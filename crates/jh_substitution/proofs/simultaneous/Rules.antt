-- Parts that hold none of the names, and loops over the pairs.
use Rattle.std.proofs.Common.{◌≡◌, refl, sym, ap, subst, ◌∙◌, ℕ, zero, suc, ◌+◌, ◌<◌, ◌≤◌, ◌==◌, Bool, true, false, not, if◌then◌else◌, List, [], ◌∷◌, drop, length, get_or, slice_get, Option, Some, add-one, arith}
use Rattle.std.proofs.lemmas.Bool.{eqb-true, eqb-false}
use Rattle.std.proofs.lemmas.List.{drop_all}
use Rattle.jh_name.specs.declared.naming.Name.{Name}
use Rattle.jh_form.specs.Tree.{ValueTree, of_truth}
use Rattle.jh_form.specs.Meaning.{Interp, truth}
use Rattle.jh_form.specs.Passing.{value_passes, name_equal}
use Rattle.jh_boxed.specs.Mapped.{mapped_formula}
use Rattle.jh_arena.specs.table.Entries.{Listing, the_name, the_value, the_truth, is_truth}
use Rattle.jh_arena.specs.table.Nodes.{nodes}
use Rattle.jh_substitution.specs.rewriting.Rewritten.{leaves_alone, rewritten_value}
use Rattle.jh_substitution.specs.rewriting.Walks.{IsRewritten}
use Rattle.jh_substitution.proofs.rewriting.Alone.{name-listed}
use Rattle.jh_substitution.proofs.rewriting.Fixed.{value-kept}
use Rattle.jh_substitution.proofs.rewriting.Sorted.{stays-rewritten, listed-value, listed-truth, rewritten-truth}
use Rattle.jh_substitution.proofs.rewriting.Wholes.{value-alone}
use Rattle.jh_arena.proofs.table.Weaker.{value-weaker}
use Rattle.jh_substitution.specs.declared.simultaneous.pairs.Instead.{Instead}
use Rattle.jh_substitution.specs.simultaneous.Pairs.{pairs_in, AreReady, chosen_of}
use Rattle.jh_substitution.specs.simultaneous.Several.{instead, none_of, all_closed, all_assigned}
use Rattle.jh_substitution.proofs.simultaneous.Both.{value-both}
use Rattle.jh_substitution.proofs.simultaneous.Fixes.{instead-fixes}
use Rattle.jh_substitution.proofs.simultaneous.Meanings.{truth-instead}

-- a part that holds none of the names stays
pub lacks-names : (t : Listing) (ps : List Instead) (n d : ℕ) (v : ValueTree) → slice_get (nodes t) n ≡ Some v → value_passes (the_value (slice_get (nodes t) n)) (λ y s. none_of (pairs_in t ps) y) ≡ true →
    IsRewritten (leaves_alone (instead (pairs_in t ps))) (nodes t) n d n
lacks-names t ps n d v at h =
    let passes : value_passes v (λ y s. none_of (pairs_in t ps) y) ≡ true = (λ i. value_passes (sym (listed-value (slice_get (nodes t) n) v at) i) (λ y s. none_of (pairs_in t ps) y)) ∙ h in
    stays-rewritten (nodes t) (leaves_alone (instead (pairs_in t ps))) n d v at
    (value-alone (instead (pairs_in t ps)) v d ∙ value-kept (instead (pairs_in t ps)) (λ y s. none_of (pairs_in t ps) y) (instead-fixes (pairs_in t ps)) v d passes)

pub drop-at : {X : Type 0} (xs : List X) (j : ℕ) (x : X) → j < length xs → x ≡ get_or xs j x → drop j xs ≡ x ∷ drop (j + 1) xs
drop-at {X = X} xs j x lt e = by xs j lt e ∙ ap (λ k. x ∷ drop k xs) (sym (add-one j))
  where
    by : (ys : List X) (i : ℕ) → i < length ys → x ≡ get_or ys i x → drop i ys ≡ x ∷ drop (suc i) ys
    by [] i lt e = absurd (omega arith)
    by (y ∷ ys) zero lt e = ap (λ z. z ∷ ys) (sym e)
    by (y ∷ ys) (suc i) lt e = by ys i (omega arith) e

-- the loop that looks for the pair of a node
module _ (ps : List Instead) (n : ℕ) where
  pub chosen-here : (j : ℕ) (p : Instead) → j < length ps → p ≡ get_or ps j p → p.leaf ≡ n → p.value ≡ chosen_of (drop j ps) n
  chosen-here j p lt e same = sym (ap (λ qs. chosen_of qs n) (drop-at ps j p lt e) ∙ taken (p.leaf == n) refl)
    where
      taken : (b : Bool) → (p.leaf == n) ≡ b → (if b then p.value else chosen_of (drop (j + 1) ps) n) ≡ p.value
      taken true h = refl
      taken false h = absurd (eqb-false p.leaf n h same)

  pub chosen-next : (j : ℕ) (p : Instead) → j < length ps → p ≡ get_or ps j p → (p.leaf ≡ n → ⊥) → chosen_of (drop j ps) n ≡ chosen_of (drop (j + 1) ps) n
  chosen-next j p lt e away = ap (λ qs. chosen_of qs n) (drop-at ps j p lt e) ∙ passed (p.leaf == n) refl
    where
      passed : (b : Bool) → (p.leaf == n) ≡ b → (if b then p.value else chosen_of (drop (j + 1) ps) n) ≡ chosen_of (drop (j + 1) ps) n
      passed true h = absurd (away (eqb-true p.leaf n h))
      passed false h = refl

  pub chosen-end : (j : ℕ) → length ps ≤ j → chosen_of (drop j ps) n ≡ n
  chosen-end j le = ap (λ qs. chosen_of qs n) (drop_all j ps le)

pub drop-get : {X : Type 0} (xs : List X) (j : ℕ) (x : X) → slice_get xs j ≡ Some x → drop j xs ≡ x ∷ drop (j + 1) xs
drop-get {X = X} xs j x e = by xs j e ∙ ap (λ k. x ∷ drop k xs) (sym (add-one j))
  where
    by : (ys : List X) (i : ℕ) → slice_get ys i ≡ Some x → drop i ys ≡ x ∷ drop (suc i) ys
    by [] i e = absurd (cc)
    by (y ∷ ys) zero e = let same : y ≡ x = cc in ap (λ z. z ∷ ys) same
    by (y ∷ ys) (suc i) e = by ys i e

-- the loop that asks for each name
module _ (t : Listing) (ps : List Instead) (v : ValueTree) where
  pub none-next : (j : ℕ) (p : Instead) → slice_get ps j ≡ Some p → value_passes v (λ y s. not (name_equal y (the_name (slice_get t.pools.names p.name)))) ≡ true →
      value_passes v (λ y s. none_of (pairs_in t (drop (j + 1) ps)) y) ≡ true → value_passes v (λ y s. none_of (pairs_in t (drop j ps)) y) ≡ true
  none-next j p e h rest =
      ap (λ qs. value_passes v (λ y s. none_of (pairs_in t qs) y)) (drop-get ps j p e)
      ∙ value-both (λ y s. not (name_equal y (the_name (slice_get t.pools.names p.name)))) (λ y s. none_of (pairs_in t (drop (j + 1) ps)) y) v h rest

  pub none-end : (j : ℕ) → length ps ≤ j → value_passes v (λ y s. true) ≡ true → value_passes v (λ y s. none_of (pairs_in t (drop j ps)) y) ≡ true
  none-end j le h = ap (λ qs. value_passes v (λ y s. none_of (pairs_in t qs) y)) (drop_all j ps le) ∙ h

  pub some-pass : (x : Instead) → value_passes v (λ y s. not (name_equal y (the_name (slice_get t.pools.names x.name)))) ≡ true → value_passes v (λ y s. true) ≡ true
  some-pass x h = value-weaker (λ y s. not (name_equal y (the_name (slice_get t.pools.names x.name)))) (λ y s. true) (λ y s k. refl) v h

-- each pair of the list is ready
pub ready-at : (t : Listing) (ps : List Instead) (j : ℕ) (p : Instead) → AreReady t ps → slice_get ps j ≡ Some p → slice_get t.pools.names p.name ≡ Some (the_name (slice_get t.pools.names p.name))
ready-at t [] j p h e = absurd (cc)
ready-at t (q ∷ ps) zero p h e = let same : q ≡ p = cc in subst (λ (z : Instead). slice_get t.pools.names z.name ≡ Some (the_name (slice_get t.pools.names z.name))) same (name-listed (slice_get t.pools.names q.name) h.0.named)
ready-at t (q ∷ ps) (suc j) p h e = ready-at t ps j p h.1 e

pub several-means : (ps : List Instead) (t : Listing) (o made : Option ValueTree) → is_truth o ≡ true → all_closed (pairs_in t ps) ≡ true →
    made ≡ Some (of_truth (mapped_formula (the_truth o) (instead (pairs_in t ps)) 0)) → (m : Interp) (env : List ℕ) → truth (the_truth made) m env ≡ truth (the_truth o) (all_assigned m (pairs_in t ps)) env
several-means ps t o made h closed is m env =
    ap (λ a. truth a m env) (listed-truth made (mapped_formula (the_truth o) (instead (pairs_in t ps)) 0) is)
    ∙ truth-instead (the_truth o) (pairs_in t ps) closed m env

-- the answer of the walk
pub several-tree : (ps : List (Name × ValueTree)) (o : Option ValueTree) → is_truth o ≡ true → Some (rewritten_value (the_value o) (leaves_alone (instead ps)) 0) ≡ Some (of_truth (mapped_formula (the_truth o) (instead ps) 0))
several-tree ps o h = rewritten-truth (instead ps) 0 o h
