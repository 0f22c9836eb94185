-- Nodes without labels, and what they say of sequents.
use Rattle.std.proofs.Common.{◌≡◌, refl, sym, ap, ◌∙◌, subst, ℕ, Bool, true, false, ◌⊎◌, inl, inr, ◌<◌, List, [], ◌∷◌, length, slice_get, Option, Some, None}
use Rattle.std.specs.Prelude.{map}
use Rattle.std.proofs.lemmas.Option.{slice_get_within}
use Rattle.jh_form.specs.Tree.{FormulaTree, ValueTree, of_truth}
use Rattle.jh_boxed_operations.specs.comparison.Unmarked.{unmarked_formula, unmarked_value}
use Rattle.jh_arena.specs.table.Entries.{Listing, is_truth, the_truth, the_value}
use Rattle.jh_arena.specs.table.Growth.{Grows, Extends}
use Rattle.jh_arena.specs.table.Nodes.{nodes}
use Rattle.jh_arena.proofs.table.Children.{it-is-truth}
use Rattle.jh_name.specs.declared.place.MethodId.{MethodId}
use Rattle.jh_containers.specs.declared.shared_lists.chains.Link.{Link}
use Rattle.jh_seq.specs.sequent.Sequents.{HypTree, SequentTree}
use Rattle.jh_splitting.specs.declared.sequent.NodeHyp.{NodeHyp}
use Rattle.jh_splitting.specs.Pairs.{ArePaired}
use Rattle.jh_splitting.specs.declared.sequent.NodeSequent.{NodeSequent}
use Rattle.jh_splitting.specs.Standing.{IsHyp, IsSequent}
use Rattle.jh_prove.specs.trivial.Facts.{truth_at, AreTruths}
use Rattle.jh_prove.specs.trivial.Trivial.{IsEvident, IsTrivial, IsTrivialOver}
use Rattle.jh_prove.specs.prover.Unlabelled.{IsBare, IsUnlabelled, HoldsUnlabelled, AreFacts, AreUnlabelled, AreBare, IsBareSequent}
use Rattle.jh_prove.proofs.prover.Pairing.{paired-grows, paired-at, paired-back}

pub truth-inside : (ts : List ValueTree) (n : ℕ) → is_truth (slice_get ts n) ≡ true → n < length ts
truth-inside ts n h = slice_get_within ts n (of_truth (the_truth (slice_get ts n))) (it-is-truth (slice_get ts n) h)

some-truth : (a b : FormulaTree) → Some (of_truth a) ≡ Some (of_truth b) → a ≡ b
some-truth a b e = cc

pub bare-truth : (ts : List ValueTree) (a : FormulaTree) (n : ℕ) → IsBare ts a n → is_truth (slice_get ts n) ≡ true
unfolding is_truth
bare-truth ts a n h = ap is_truth h

-- the formula at a node is one formula
pub bare-is : (ts : List ValueTree) (k n : ℕ) (a : FormulaTree) → slice_get ts k ≡ Some (of_truth a) → IsUnlabelled ts k n → IsBare ts a n
bare-is ts k n a at h = h.is ∙ ap (λ (b : FormulaTree). Some (of_truth (unmarked_formula b))) (some-truth h.formula a (sym h.there ∙ at))

-- what was made of a node while the table grew
pub made-unlabelled : (ts us : List ValueTree) (k n : ℕ) → Grows ts us → is_truth (slice_get ts k) ≡ true → slice_get us n ≡ Some (unmarked_value (the_value (slice_get ts k))) → IsUnlabelled us k n
unfolding the_value unmarked_value
made-unlabelled ts us k n g h made =
    let here : slice_get ts k ≡ Some (of_truth (the_truth (slice_get ts k))) = it-is-truth (slice_get ts k) h in
    record {
      formula = the_truth (slice_get ts k);
      there = g.keeps k (of_truth (the_truth (slice_get ts k))) here;
      is = made ∙ ap (λ o. Some (unmarked_value (the_value o))) here;
    }

module _ (ts us : List ValueTree) (g : Grows ts us) where
  pub bare-grows : (a : FormulaTree) (n : ℕ) → IsBare ts a n → IsBare us a n
  bare-grows a n h = g.keeps n (of_truth (unmarked_formula a)) h

  pub unlabelled-grows : (k n : ℕ) → IsUnlabelled ts k n → IsUnlabelled us k n
  unlabelled-grows k n h = record { formula = h.formula; there = g.keeps k (of_truth h.formula) h.there; is = bare-grows h.formula n h.is }

  pub holds-grow : (find : ℕ → Option ℕ) → HoldsUnlabelled ts find → HoldsUnlabelled us find
  holds-grow find h = record { at = λ k n e. unlabelled-grows k n (h.at k n e) }

  pub all-grow : (xs : List NodeHyp) (ns : List ℕ) → AreUnlabelled ts xs ns → AreUnlabelled us xs ns
  all-grow xs ns h = paired-grows (λ (x : NodeHyp) n. IsUnlabelled ts x.fact n) (λ (x : NodeHyp) n. IsUnlabelled us x.fact n) (λ x n k. unlabelled-grows x.fact n k) xs ns h

nothing : (o : Option ℕ) (n : ℕ) → o ≡ None → o ≡ Some n → ⊥
nothing o n e f = cc

pub holds-none : (ts : List ValueTree) (find : ℕ → Option ℕ) → ((k : ℕ) → find k ≡ None) → HoldsUnlabelled ts find
holds-none ts find empty = record { at = λ k n e. absurd (nothing (find k) n (empty k) e) }

noted : (ts : List ValueTree) (key answer k n : ℕ) (old : Option ℕ) → IsUnlabelled ts key answer → (old ≡ Some n → IsUnlabelled ts k n) → ((k ≡ key) × (n ≡ answer)) ⊎ (old ≡ Some n) → IsUnlabelled ts k n
noted ts key answer k n old m h (inl e) = subst (λ (x : ℕ). IsUnlabelled ts k x) (sym e.1) (subst (λ (q : ℕ). IsUnlabelled ts q answer) (sym e.0) m)
noted ts key answer k n old m h (inr e) = h e

pub holds-note : (ts : List ValueTree) (old new : ℕ → Option ℕ) (key answer : ℕ) → HoldsUnlabelled ts old → IsUnlabelled ts key answer →
    ((k n : ℕ) → new k ≡ Some n → ((k ≡ key) × (n ≡ answer)) ⊎ (old k ≡ Some n)) → HoldsUnlabelled ts new
holds-note ts old new key answer h m fresh = record { at = λ k n e. noted ts key answer k n (old k) m (h.at k n) (fresh k n e) }

module _ (t : Listing) where
  -- hypotheses stand at formulas
  pub hyps-facts : (xs : List NodeHyp) (hs : List HypTree) → ArePaired (IsHyp t) xs hs → AreFacts t xs
  unfolding is_truth
  hyps-facts xs hs h = λ i x at. let there = paired-at (IsHyp t) xs hs i x h at in ap is_truth there.2.fact

  -- the nodes without labels of hypotheses
  pub bare-facts : (u : Listing) → Grows (nodes t) (nodes u) → (xs : List NodeHyp) (hs : List HypTree) (ns : List ℕ) → ArePaired (IsHyp t) xs hs → AreUnlabelled (nodes u) xs ns → AreBare (nodes u) hs ns
  bare-facts u g [] [] [] h m = tt
  bare-facts u g [] [] (n ∷ ns) h m = absurd m
  bare-facts u g [] (a ∷ hs) ns h m = absurd h
  bare-facts u g (x ∷ xs) [] ns h m = absurd h
  bare-facts u g (x ∷ xs) (a ∷ hs) [] h m = absurd m
  bare-facts u g (x ∷ xs) (a ∷ hs) (n ∷ ns) h m = (bare-is (nodes u) x.fact n a.fact (g.keeps x.fact (of_truth a.fact) h.0.fact) m.0, bare-facts u g xs hs ns h.1 m.1)

  truth-is : (a : FormulaTree) (n : ℕ) → IsBare (nodes t) a n → truth_at t n ≡ unmarked_formula a
  unfolding the_truth
  truth-is a n h = ap the_truth h

  pub bare-truths : (hs : List HypTree) (ns : List ℕ) → AreBare (nodes t) hs ns → AreTruths t ns
  bare-truths hs ns h i n at =
      let there = paired-back (λ (a : HypTree) m. IsBare (nodes t) a.fact m) hs ns i n h at in
      bare-truth (nodes t) there.0.fact n there.1

  facts-are : (hs : List HypTree) (ns : List ℕ) → AreBare (nodes t) hs ns → map (truth_at t) ns ≡ map (λ h. unmarked_formula h.fact) hs
  facts-are [] [] h = refl
  facts-are [] (n ∷ ns) h = absurd h
  facts-are (a ∷ hs) [] h = absurd h
  facts-are (a ∷ hs) (n ∷ ns) h = λ i. truth-is a.fact n h.0 i ∷ facts-are hs ns h.1 i

  -- what is trivial over nodes without labels is trivial
  pub trivial-over : (facts : List ℕ) (goal : ℕ) (s : SequentTree) → IsBareSequent (nodes t) facts goal s → IsTrivialOver (map (truth_at t) facts) (truth_at t goal) ≡ IsTrivial s
  trivial-over facts goal s h = λ i. IsTrivialOver (facts-are s.hyps facts h.hyps i) (truth-is s.goal goal h.goal_is i)

pub still-truth : (ts us : List ValueTree) (n : ℕ) → Grows ts us → is_truth (slice_get ts n) ≡ true → is_truth (slice_get us n) ≡ true
unfolding is_truth
still-truth ts us n g h = ap is_truth (g.keeps n (of_truth (the_truth (slice_get ts n))) (it-is-truth (slice_get ts n) h))

pub not-both : (b : Bool) → b ≡ true → b ≡ false → ⊥
not-both b h k = cc

-- the facts and the goal of a sequent without labels, while the table grows
pub bare-of : (t u : Listing) → Extends t u → (links : List (Link NodeHyp)) (method : MethodId) (x : NodeSequent) (facts : List ℕ) (goal : ℕ) (s : SequentTree) → IsSequent t links method x s → AreBare (nodes u) s.hyps facts →
    IsUnlabelled (nodes t) x.goal goal → IsBareSequent (nodes u) facts goal s
bare-of t u g links method x facts goal s h bare is = record {
  hyps = bare;
  goal_is = bare-grows (nodes t) (nodes u) g.nodes s.goal goal (bare-is (nodes t) x.goal goal s.goal h.goal is);
}

pub formula-there : (ts : List ValueTree) (n : ℕ) (a : FormulaTree) → slice_get ts n ≡ Some (of_truth a) → is_truth (slice_get ts n) ≡ true
unfolding is_truth
formula-there ts n a h = ap is_truth h

pub unlabelled-truth : (ts : List ValueTree) (k n : ℕ) → IsUnlabelled ts k n → is_truth (slice_get ts n) ≡ true
unlabelled-truth ts k n h = bare-truth ts h.formula n h.is

-- a goal that is evident without labels
pub evident-goal : (t : Listing) (k n : ℕ) (a : FormulaTree) → slice_get (nodes t) k ≡ Some (of_truth a) → IsUnlabelled (nodes t) k n → IsEvident (truth_at t n) → IsEvident (unmarked_formula a)
unfolding the_truth
evident-goal t k n a at h evident = subst (λ (b : FormulaTree). IsEvident b) (ap the_truth (bare-is (nodes t) k n a at h)) evident
