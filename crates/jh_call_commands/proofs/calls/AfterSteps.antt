-- Formulas that are facts from there on, one after another, and the set of all objects that there were.
use Rattle.std.proofs.Common.{◌≡◌, refl, sym, ap, ◌∙◌, subst, ℕ, zero, suc, ◌+◌, ◌≤◌, arith, add-one, Bool, true, false, if◌then◌else◌, List, [], ◌∷◌, ◌++◌, map, take, length, Some, slice_get, codes}
use Rattle.std.proofs.lemmas.List.{map-append, take_all}
use Rattle.jh_form.specs.Tree.{FormulaTree, SetTree, of_truth}
use Rattle.jh_form.specs.Tree as tree
use Rattle.jh_arena.specs.table.Entries.{Listing}
use Rattle.jh_arena.specs.table.Nodes.{nodes}
use Rattle.jh_arena.proofs.table.Listed.{extends-refl}
use Rattle.jh_wp.specs.Command.{CommandTree}
use Rattle.jh_wp.specs.Command as w
use Rattle.jh_command_terms.specs.declared.command.command.Command.{Command}
use Rattle.jh_semantics.specs.Code.{Text}
use Rattle.jh_semantics.specs.State.{named}
use Rattle.jh_guard.specs.Steps.{fresh}
use Rattle.jh_guard.specs.Calls.{old_alloc}
use Rattle.jh_state_facts.specs.well_formedness.Facts.{AreFacts, AddsFacts}
use Rattle.jh_state_facts.specs.declared.changes.names.SortedName.{SortedName}
use Rattle.jh_state_facts.specs.changes.Added.{AddsCommands}
use Rattle.jh_state_facts.proofs.changes.AddedSteps.{adds-two}
use Rattle.jh_call_commands.specs.contract_instances.Calling.{is_among, AreTexts}

taken-more : {X : Type 0} (xs : List X) (x : X) (i : ℕ) → slice_get xs i ≡ Some x → take (suc i) xs ≡ take i xs ++ x ∷ []
taken-more [] x i h = absurd (cc)
taken-more (y ∷ ys) x zero h = let same : y ≡ x = cc in ap (λ z. z ∷ []) same
taken-more (y ∷ ys) x (suc i) h = ap (λ zs. y ∷ zs) (taken-more ys x i h)

-- the formula of a node of the list
record FactAt (t : Listing) (n i : ℕ) (fs : List FormulaTree) : Type 0 where
  fact : FormulaTree
  at : slice_get fs i ≡ Some fact
  is : slice_get (nodes t) n ≡ Some (of_truth fact)

fact-of : (t : Listing) (ns : List ℕ) (fs : List FormulaTree) (n i : ℕ) → AreFacts t ns fs → slice_get ns i ≡ Some n → FactAt t n i fs
unfolding AreFacts
fact-of t [] fs n i h e = absurd (cc)
fact-of t (m ∷ ns) [] n i h e = absurd h
fact-of t (m ∷ ns) (f ∷ fs) n zero h e = let same : m ≡ n = cc in record { fact = f; at = refl; is = ap (λ k. slice_get (nodes t) k) (sym same) ∙ h.0 }
fact-of t (m ∷ ns) (f ∷ fs) n (suc i) h e = let rest = fact-of t ns fs n i h.1 e in record { fact = rest.fact; at = rest.at; is = rest.is }

facts-count : (t : Listing) (ns : List ℕ) (fs : List FormulaTree) → AreFacts t ns fs → length fs ≤ length ns
unfolding AreFacts
facts-count t [] [] h = omega arith
facts-count t [] (f ∷ fs) h = absurd h
facts-count t (n ∷ ns) [] h = omega arith
facts-count t (n ∷ ns) (f ∷ fs) h = let rest = facts-count t ns fs h.1 in omega (arith, rest)

module _ (t : Listing) (ns : List ℕ) (fs : List FormulaTree) (are : AreFacts t ns fs) where
  pub facts-next : (old mid new : List Command) (n i : ℕ) → slice_get ns i ≡ Some n → AddsCommands t old mid (map (λ f. w.assume f) (take i fs)) →
      ((f : FormulaTree) → slice_get (nodes t) n ≡ Some (of_truth f) → AddsCommands t mid new (w.assume f ∷ [])) →
      AddsCommands t old new (map (λ f. w.assume f) (take (i + 1) fs))
  facts-next old mid new n i e h one =
      let told = fact-of t ns fs n i are e in
      let more : take (i + 1) fs ≡ take i fs ++ told.fact ∷ [] = ap (λ k. take k fs) (add-one i) ∙ taken-more fs told.fact i told.at in
      subst (λ (cs : List CommandTree). AddsCommands t old new cs) (sym (ap (map (λ f. w.assume f)) more ∙ map-append (λ f. w.assume f) (take i fs) (told.fact ∷ [])))
      (adds-two t t old mid new (map (λ f. w.assume f) (take i fs)) (w.assume told.fact ∷ []) h (extends-refl t) (one told.fact told.is))

  pub facts-all : (old new : List Command) (i : ℕ) → length ns ≤ i → AddsCommands t old new (map (λ f. w.assume f) (take i fs)) → AddsCommands t old new (map (λ f. w.assume f) fs)
  facts-all old new i le h =
      let count = facts-count t ns fs are in
      subst (λ (gs : List FormulaTree). AddsCommands t old new (map (λ f. w.assume f) gs)) (take_all i fs (omega (arith, le, count))) h

-- the set of all objects that there were
pub alloc-is : (test : Text → Bool) (written : List SortedName) (k : ℕ) → AreTexts test written →
    tree.free_set (fresh (codes "alloc") (if is_among written (codes "alloc") then k else 0)) ≡ old_alloc test k
alloc-is test written k are = by_case (is_among written (codes "alloc")) (test (codes "alloc")) (sym (are (codes "alloc"))) where
  by_case : (b d : Bool) → b ≡ d → tree.free_set (fresh (codes "alloc") (if b then k else 0)) ≡ (if d then tree.free_set (fresh (codes "alloc") k) else tree.free_set (named (codes "alloc")))
  by_case true true e = refl
  by_case false false e = refl
  by_case true false e = absurd (cc)
  by_case false true e = absurd (cc)

-- what was added to an empty list is all of it
pub facts-of-none : (t : Listing) (ms : List ℕ) (fs : List FormulaTree) → AddsFacts t [] ms fs → AreFacts t ms fs
facts-of-none t ms fs h = subst (λ (xs : List ℕ). AreFacts t xs fs) (sym h.list) h.are
