-- The facts of a sequent, one after another.
use Rattle.std.proofs.Common.{◌≡◌, refl, sym, ap, ◌∙◌, subst, ℕ, zero, suc, ◌+◌, ◌≤◌, true, List, [], ◌∷◌, ◌++◌, append_assoc, map, take, slice_get, Some, arith}
use Rattle.std.proofs.lemmas.List.{map_push}
use Rattle.jh_form.specs.Tree.{FormulaTree, of_truth}
use Rattle.jh_form.specs.Tree as t
use Rattle.jh_boxed_operations.specs.comparison.Unmarked.{unmarked_formula}
use Rattle.jh_seq.specs.sequent.Sequents.{HypTree, SequentTree}
use Rattle.jh_arena.specs.table.Entries.{Listing, is_truth, the_truth}
use Rattle.jh_arena.specs.table.Nodes.{nodes}
use Rattle.jh_arena.proofs.table.Tables.{take-one}
use Rattle.jh_reach.specs.Standing.{AreFormulas}
use Rattle.jh_instantiation.specs.jh_derivation_rules.Closes.{facts_of}
use Rattle.jh_local_form.specs.local_sequents.Forming.{IsFormed}
use Rattle.jh_local_form.specs.declared.local_sequents.forming.LocalForm.{LocalForm}
use Rattle.jh_ground_input.specs.declared.facts.Apart.{Apart}
use Rattle.jh_ground_input.specs.Standing.{AreThere, IsApart, IsPosed, bare_at}
use Rattle.jh_ground_input.proofs.More.{truth-is, truth-there}

none-there : {P : Type 0} (i n : ℕ) → slice_get [] i ≡ Some n → P
none-there i n e = cc

some-same : (m n : ℕ) → Some m ≡ Some n → m ≡ n
some-same m n e = cc

-- one more of the first facts
pub facts-next : (f : ℕ → FormulaTree) (fs : List FormulaTree) (ns : List ℕ) (i n : ℕ) → slice_get ns i ≡ Some n → (fs ++ map f (take i ns)) ++ (f n ∷ []) ≡ fs ++ map f (take (i + 1) ns)
facts-next f fs ns i n at =
    append_assoc fs (map f (take i ns)) (f n ∷ [])
    ∙ ap (λ gs. fs ++ gs) (sym (map_push f (take i ns) n) ∙ ap (λ ms. map f ms) (sym (take-one ns i n at)))

module _ (listing : Listing) where
  pub all-there : (ns : List ℕ) (fs : List FormulaTree) → AreFormulas listing ns fs → AreThere (nodes listing) ns
  unfolding AreFormulas
  all-there [] fs h i n at = none-there i n at
  all-there (m ∷ ns) [] h i n at = absurd h
  all-there (m ∷ ns) (a ∷ fs) h zero n at = subst (λ k. is_truth (slice_get (nodes listing) k) ≡ true) (some-same m n at) (truth-there (slice_get (nodes listing) m) a h.0)
  all-there (m ∷ ns) (a ∷ fs) h (suc i) n at = all-there ns fs h.1 i n at

  bares : (ns : List ℕ) (hs : List HypTree) → AreFormulas listing ns (map (λ h. h.fact) hs) → map (bare_at (nodes listing)) ns ≡ map (λ (h : HypTree). unmarked_formula h.fact) hs
  unfolding AreFormulas
  bares [] [] h = refl
  bares [] (a ∷ hs) h = absurd h
  bares (n ∷ ns) [] h = absurd h
  bares (n ∷ ns) (a ∷ hs) h = λ i. unmarked_formula (truth-is (slice_get (nodes listing) n) a.fact h.0 i) ∷ bares ns hs h.1 i

  pub posed : (form : LocalForm) (s : SequentTree) (x : Apart) → IsFormed listing form s → IsApart x (([] ++ map (bare_at (nodes listing)) form.facts) ++ (t.negation (bare_at (nodes listing) form.goal) ∷ [])) → IsPosed x s
  posed form s x formed h =
      let same : (([] ++ map (bare_at (nodes listing)) form.facts) ++ (t.negation (bare_at (nodes listing) form.goal) ∷ [])) ≡ facts_of s =
      λ i. bares form.facts s.hyps formed.facts i ++ (t.negation (unmarked_formula (truth-is (slice_get (nodes listing) form.goal) s.goal formed.goal i)) ∷ []) in
      let are : IsApart x (facts_of s) = subst (λ (fs : List FormulaTree). IsApart x fs) same h in
      record { facts = are.facts; first = record { free = are.first.closed x.first (omega arith); first = λ n k. are.first.least n k } }
