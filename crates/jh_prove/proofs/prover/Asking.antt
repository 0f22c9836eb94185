-- What is asked of a sequent over nodes without labels.
use Rattle.std.proofs.Common.{ℕ, List, [], ◌∷◌, map, Option, Some, None}
use Rattle.jh_form.specs.declared.mark.Mark.{Mark}
use Rattle.jh_form.specs.Tree.{ValueTree, of_truth}
use Rattle.jh_arena.specs.table.Entries.{Listing}
use Rattle.jh_arena.specs.table.Growth.{Extends}
use Rattle.jh_arena.specs.table.Nodes.{nodes}
use Rattle.jh_name.specs.declared.place.MethodId.{MethodId}
use Rattle.jh_containers.specs.declared.shared_lists.chains.Link.{Link}
use Rattle.jh_boxed_operations.specs.comparison.Unmarked.{unmarked_formula}
use Rattle.jh_seq.specs.sequent.Sequents.{HypTree, SequentTree}
use Rattle.jh_splitting.specs.declared.sequent.NodeHyp.{NodeHyp}
use Rattle.jh_splitting.specs.declared.sequent.NodeSequent.{NodeSequent}
use Rattle.jh_splitting.specs.Pairs.{ArePaired}
use Rattle.jh_splitting.specs.Standing.{IsHyp, IsLabel, IsSequent}
use Rattle.jh_approx.specs.definition.Regions.{unlabelled}
use Rattle.jh_local.specs.jh_abstraction.choice_of_hypotheses.Asking.{HasFact, HasName, IsAsked}
use Rattle.jh_prove.specs.prover.Unlabelled.{IsUnlabelled, AreUnlabelled, AreBare, IsBareSequent}
use Rattle.jh_prove.proofs.prover.Bareness.{bare-facts, bare-grows, bare-is}
use Rattle.jh_prove.proofs.prover.Pairing.{paired-grows}

-- the hypothesis without labels in its fact
abbrev bare_hyp : HypTree → HypTree
bare_hyp h = record { name = h.name; fact = unmarked_formula h.fact }

module _ (ts : List ValueTree) where
  facts-bare : (ns : List ℕ) (hs : List HypTree) → ArePaired (HasFact ts) ns (map bare_hyp hs) → AreBare ts hs ns
  facts-bare [] [] h = tt
  facts-bare [] (a ∷ hs) h = absurd h
  facts-bare (n ∷ ns) [] h = absurd h
  facts-bare (n ∷ ns) (a ∷ hs) h = (h.0, facts-bare ns hs h.1)

  bare-stated : (ns : List ℕ) (hs : List HypTree) → AreBare ts hs ns → ArePaired (HasFact ts) ns (map bare_hyp hs)
  bare-stated [] [] h = tt
  bare-stated [] (a ∷ hs) h = absurd h
  bare-stated (n ∷ ns) [] h = absurd h
  bare-stated (n ∷ ns) (a ∷ hs) h = (h.0, bare-stated ns hs h.1)

-- the nodes of a sequent that is asked are its facts and its goal without labels
pub asked-bare : (t : Listing) (xs : List NodeHyp) (label : Option ℕ) (facts : List ℕ) (goal : ℕ) (s : SequentTree) → IsAsked t xs label facts goal (unlabelled s) → IsBareSequent (nodes t) facts goal s
unfolding unlabelled
asked-bare t xs label facts goal s h = record { hyps = facts-bare (nodes t) facts s.hyps h.stated.said; goal_is = h.stated.wanted }

module _ (t u : Listing) (g : Extends t u) where
  label-stays : (n : Option ℕ) (m : Option Mark) → IsLabel t n m → IsLabel u n m
  label-stays None None h = h
  label-stays None (Some m) h = h
  label-stays (Some n) None h = h
  label-stays (Some n) (Some m) h = g.marks.keeps n m h

  names-stay : (xs : List NodeHyp) (hs : List HypTree) → ArePaired (IsHyp t) xs hs → ArePaired (HasName u) xs (map bare_hyp hs)
  names-stay [] [] h = tt
  names-stay [] (a ∷ hs) h = absurd h
  names-stay (x ∷ xs) [] h = absurd h
  names-stay (x ∷ xs) (a ∷ hs) h = (record { mark = h.0.mark; is_label = label-stays x.mark h.0.mark h.0.label; is = h.0.name }, names-stay xs hs h.1)

  -- a sequent whose labels were taken off is asked
  pub asked-of : (links : List (Link NodeHyp)) (method : MethodId) (x : NodeSequent) (s : SequentTree) → IsSequent t links method x s → (xs : List NodeHyp) → ArePaired (IsHyp t) xs s.hyps →
      (facts : List ℕ) → AreUnlabelled (nodes u) xs facts → (goal : ℕ) → IsUnlabelled (nodes t) x.goal goal → IsAsked u xs x.mark facts goal (unlabelled s)
  unfolding unlabelled
  asked-of links method x s h xs hyps facts made goal is = record {
    stated = record {
      said = bare-stated (nodes u) facts s.hyps (bare-facts t u g.nodes xs s.hyps facts hyps made);
      wanted = bare-grows (nodes t) (nodes u) g.nodes s.goal goal (bare-is (nodes t) x.goal goal s.goal h.goal is);
    };
    called = names-stay xs s.hyps hyps;
    mark = h.mark;
    is_label = label-stays x.mark h.mark h.label;
    under = h.shown;
  }

  -- what is asked stays while the table grows
  pub asked-stays : (xs : List NodeHyp) (label : Option ℕ) (facts : List ℕ) (goal : ℕ) (s : SequentTree) → IsAsked t xs label facts goal s → IsAsked u xs label facts goal s
  asked-stays xs label facts goal s h = record {
    stated = record {
      said = paired-grows (HasFact (nodes t)) (HasFact (nodes u)) (λ n a e. g.nodes.keeps n (of_truth a.fact) e) facts s.hyps h.stated.said;
      wanted = g.nodes.keeps goal (of_truth s.goal) h.stated.wanted;
    };
    called = paired-grows (HasName t) (HasName u) (λ x a n. record { mark = n.mark; is_label = label-stays x.mark n.mark n.is_label; is = n.is }) xs s.hyps h.called;
    mark = h.mark;
    is_label = label-stays label h.mark h.is_label;
    under = h.under;
  }
