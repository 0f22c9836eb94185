-- One step further through an explanation without a decision.
use Rattle.std.proofs.Common.{◌≡◌, refl, sym, ap, ◌∙◌, subst, ℕ, zero, suc, ◌+◌, ◌<◌, ◌≤◌, add-one, arith, Bool, true, false, List, [], ◌∷◌, ◌++◌, length, take, take_all, take-append-drop, drop, ◌⊎◌, inl, inr, Some, slice_get, ◌↔◌}
use Rattle.std.proofs.lemmas.Bool.{true≢false}
use Rattle.std.proofs.lemmas.Option.{slice_get_within}
use Rattle.jh_form.specs.Tree.{ValueTree}
use Rattle.jh_closure.specs.structures.Literals.{IsListed}
use Rattle.jh_closure.specs.congruence_closure.Nodes.{Has}
use Rattle.jh_closure.proofs.congruence_closure.Having.{has-at, has-pushed}
use Rattle.jh_cong.proofs.classes.Looking.{take-next}
use Rattle.jh_arena.specs.table.Growth.{AreDifferent}
use Rattle.jh_models.specs.ground_models.Clashes.{Clash}
use Rattle.jh_models.specs.ground_models.Explanations.{ClosesBranch, IsExplanation}
use Rattle.jh_models.specs.shortening.Steps.{MayStand, IsMost}
use Rattle.jh_models.specs.shortening.Shortened.{IsShortened}
use Rattle.jh_models.specs.shortening.Laws.{MostIsKept, ShorteningIsExact}
use Rattle.jh_propagation.specs.declared.trail.decided.Decided.{Decided}
use Rattle.jh_propagation.specs.trail.Listing.{decided, IsUndecided, DecideOnce}
use Rattle.jh_propagation.specs.trail.Saying.{literal_tree_at, literals_at, opposite_of, IsTruth}
use Rattle.jh_propagation.proofs.trail.Listed.{has-listed}
use Rattle.jh_propagation.specs.declared.propagation.problem.Problem.{Problem}
use Rattle.jh_propagation.specs.propagation.Problems.{IsPosed, instances_in}
use Rattle.jh_explanations.specs.declared.step.Step.{Step}
use Rattle.jh_explanations.specs.Steps.{literals_of, trees_of, AreOverAtoms}
use Rattle.jh_explanations.specs.Keeping.{AreFollowing, AreRight, IsMostOf, AreKept, IsWhole, IsShorter, AreTried, MayBeKept, IsKept}
use Rattle.jh_explanations.proofs.Lists.{literals-more, trees-more, trees-both, once-more, listed-stands, same-tree, slice-literal, has-literal, literal-step}
use Rattle.jh_explanations.proofs.Readiness.{goes-step, item-at}

module _ (ts : List ValueTree) (p : Problem) (problem : IsPosed ts p) (different : AreDifferent ts) where
  atom-truth : (d : Decided) → Has p.ground.atoms d.atom → IsTruth ts d.atom
  atom-truth d h = problem.occurrences.truths d.atom h

  module _ (ds : List Decided) (ss : List Step) (right : AreRight p ds ss) where
    decision-listed : (d : Decided) → Has p.ground.atoms d.atom → IsListed (literals_at ts ds) (literal_tree_at ts d) → Has ds d
    decision-listed d at h = listed-stands ts different ds d (λ e g. atom-truth e (right.decided_over e g)) (atom-truth d at) h

    -- a step may be kept exactly where its literal may stand there
    pub kept-stands : (s : Step) → Has ss s → (had : List Decided) → MayBeKept ts p had s → MayStand (instances_in ts p) (literals_at ts ds) (literals_at ts had) (literal_tree_at ts s.literal)
    kept-stands s there had (inl e) = inl (has-listed ts ds s.literal ((right.marked s there).0 e))
    kept-stands s there had (inr clash) = inr clash

    pub stands-kept : (s : Step) → Has ss s → (had : List Decided) → MayStand (instances_in ts p) (literals_at ts ds) (literals_at ts had) (literal_tree_at ts s.literal) → MayBeKept ts p had s
    stands-kept s there had (inl listed) = inl ((right.marked s there).1 (decision-listed s.literal (right.over.over_atoms s.literal (has-literal ss s there)) listed))
    stands-kept s there had (inr clash) = inr clash

    -- in an explanation each step is a decision, or its opposite clashes with those before it
    pub following-of : ClosesBranch (instances_in ts p) (literals_at ts ds) (trees_of ts ss) → AreFollowing ts p ss
    following-of closes n s here = stands-kept s (has-at ss n s here) (literals_of (take n ss)) (goes-step ts (instances_in ts p) (literals_at ts ds) [] ss n s closes here)

  module _ (law : MostIsKept) (ss : List Step) (over : AreOverAtoms p.ground (literals_of ss)) (out : Decided) (out_over : Has p.ground.atoms out.atom) where
    pub kept-none : AreKept ts p ss out 0 []
    kept-none = record {
      most = λ ds right. law.begins (instances_in ts p) (literals_at ts ds) (literal_tree_at ts out);
      inside = λ s h. absurd h;
      from = λ d h. absurd h;
      once = λ i j d e at_i at_j same. absurd (let lt : i < 0 = slice_get_within [] i d at_i in omega (arith, lt));
    }

    module _ (index : ℕ) (kept : List Step) (h : AreKept ts p ss out index kept) (s : Step) (here : slice_get ss index ≡ Some s) where
      there : Has ss s
      there = has-at ss index s here

      at : Has p.ground.atoms s.literal.atom
      at = over.over_atoms s.literal (has-literal ss s there)

      longer : trees_of ts (take (index + 1) ss) ≡ trees_of ts (take index ss) ++ literal_tree_at ts s.literal ∷ []
      longer = ap (trees_of ts) (take-next ss index s here) ∙ trees-more ts (take index ss) s

      -- its atom isn't decided by what is kept
      pub new-literal : IsUndecided (literals_of kept) s.literal.atom
      new-literal b g =
          let f = h.from (decided s.literal.atom b) g in
          let same : f.0 ≡ index = over.once f.0 index (decided s.literal.atom b) s.literal f.1.1 (slice-literal ss index s here) refl in
          let lt : f.0 < index = f.1.0 in
          omega (arith, same, lt)

      pub kept-more : IsKept ts p (literals_of kept) s out true → AreKept ts p ss out (index + 1) (kept ++ s ∷ [])
      kept-more may = record {
        most = λ ds right. subst (λ gone. IsMost (instances_in ts p) (literals_at ts ds) (literal_tree_at ts out) gone (trees_of ts (kept ++ s ∷ []))) (sym longer)
            (subst (λ ks. IsMost (instances_in ts p) (literals_at ts ds) (literal_tree_at ts out) (trees_of ts (take index ss) ++ literal_tree_at ts s.literal ∷ []) ks) (sym (trees-more ts kept s))
            (law.keeps (instances_in ts p) (literals_at ts ds) (trees_of ts (take index ss)) (trees_of ts kept) (literal_tree_at ts out) (literal_tree_at ts s.literal) (h.most ds right) (problem.occurrences.stand s.literal.atom at)
            (λ same. may.0 (same-tree ts different s.literal out (atom-truth s.literal at) (atom-truth out out_over) same))
            (kept-stands ds ss right s there (literals_of kept) may.1)));
        inside = λ r g. elim (has-pushed kept s r g) [ inl old ↦ h.inside r old | inr e ↦ subst (Has ss) e there ];
        from = λ d g. elim (has-pushed (literals_of kept) s.literal d (subst (λ xs. Has xs d) (literals-more kept s) g)) [
          | inl old ↦ let f = h.from d old in (f.0, (let lt : f.0 < index = f.1.0 in omega (arith, lt), f.1.1))
          | inr e ↦ (index, (omega arith, slice-literal ss index s here ∙ ap Some e))
        ];
        once = subst DecideOnce (sym (literals-more kept s)) (once-more (literals_of kept) s.literal h.once new-literal);
      }

      pub kept-less : IsKept ts p (literals_of kept) s out false → AreKept ts p ss out (index + 1) kept
      kept-less why = record {
        most = λ ds right. subst (λ gone. IsMost (instances_in ts p) (literals_at ts ds) (literal_tree_at ts out) gone (trees_of ts kept)) (sym longer)
            (law.skips (instances_in ts p) (literals_at ts ds) (trees_of ts (take index ss)) (trees_of ts kept) (literal_tree_at ts out) (literal_tree_at ts s.literal) (h.most ds right) (reason ds right why));
        inside = h.inside;
        from = λ d g. let f = h.from d g in (f.0, (let lt : f.0 < index = f.1.0 in omega (arith, lt), f.1.1));
        once = h.once;
      }
        where
          reason : (ds : List Decided) → AreRight p ds ss → IsKept ts p (literals_of kept) s out false → (literal_tree_at ts s.literal ≡ literal_tree_at ts out) ⊎ (MayStand (instances_in ts p) (literals_at ts ds) (trees_of ts kept) (literal_tree_at ts s.literal) → ⊥)
          reason ds right (inl same) = inl (ap (literal_tree_at ts) same)
          reason ds right (inr never) = inr (λ stands. never (stands-kept ds ss right s there (literals_of kept) stands))

    -- The first steps are all kept, up to the literal that is taken out.
    pub kept-first : AreFollowing ts p ss → (count : ℕ) → count ≤ length ss → ((n : ℕ) (s : Step) → n < count → slice_get ss n ≡ Some s → s.literal ≡ out → ⊥) → AreKept ts p ss out count (take count ss)
    kept-first following zero le other = kept-none
    kept-first following (suc n) le other =
        let there = item-at ss n (omega (arith, le)) in
        let before = kept-first following n (omega (arith, le)) (λ m s lt at. other m s (omega (arith, lt)) at) in
        subst (λ k. AreKept ts p ss out k (take k ss)) (add-one n)
        (subst (λ (ks : List Step). AreKept ts p ss out (n + 1) ks) (sym (take-next ss n there.0 there.1)) (kept-more n (take n ss) before there.0 there.1 (other n there.0 (omega arith) there.1, following n there.0 there.1)))

    -- all were gone through, or what is kept clashes
    pub whole : (count : ℕ) (kept : List Step) → length ss ≡ count → AreKept ts p ss out count kept → (Clash (instances_in ts p) (trees_of ts kept) → ⊥) → IsWhole ts p ss out
    whole count kept long h apart = record {
      kept = kept;
      most = subst (λ gone. IsMostOf ts p ss out gone kept) (take_all count ss (omega (arith, long))) h.most;
      apart = apart;
    }

    pub shorter : (count : ℕ) (kept : List Step) → AreKept ts p ss out count kept → Clash (instances_in ts p) (trees_of ts kept) → IsShorter ts p ss out kept
    shorter count kept h clash = record {
      gone = take count ss;
      rest = drop count ss;
      parts = sym (take-append-drop count ss);
      most = h.most;
      clash = clash;
      inside = h.inside;
      once = h.once;
    }

  -- one more decision was tried
  module _ (laws : ShorteningIsExact) (law : MostIsKept) (ds tried : List Decided) (ss : List Step) (out : Decided) (h : AreTried ts p ds tried ss) (out_over : Has p.ground.atoms out.atom) where
    pub tries-absent : (Has (literals_of ss) out → ⊥) → AreTried ts p ds (out ∷ tried) ss
    tries-absent never = record {
      right = h.right;
      shortened = laws.absent (instances_in ts p) (literals_at ts ds) (literals_at ts tried) (trees_of ts ss) (literal_tree_at ts out) h.shortened
          (λ listed. never (listed-stands ts different (literals_of ss) out (λ e g. atom-truth e (h.right.over.over_atoms e g)) (atom-truth out out_over) listed));
    }

    pub tries-whole : IsWhole ts p ss out → AreTried ts p ds (out ∷ tried) ss
    tries-whole w = record {
      right = h.right;
      shortened = laws.needed (instances_in ts p) (literals_at ts ds) (literals_at ts tried) (trees_of ts ss) (literal_tree_at ts out) h.shortened
          (law.is_needed (instances_in ts p) (literals_at ts ds) (trees_of ts ss) (trees_of ts w.kept) (literal_tree_at ts out) (w.most ds h.right) w.apart);
    }

    pub tries-shorter : (kept : List Step) → IsShorter ts p ss out kept → AreTried ts p ds (out ∷ tried) kept
    tries-shorter kept w = record {
      right = record {
        marked = λ s g. h.right.marked s (w.inside s g);
        over = record {
          over_atoms = λ d g. let r = literal-step kept d g in subst (λ (z : Decided). Has p.ground.atoms z.atom) r.literal (h.right.over.over_atoms r.step.literal (has-literal ss r.step (w.inside r.step r.there)));
          once = w.once;
        };
        decided_over = h.right.decided_over;
      };
      shortened = laws.shorter (instances_in ts p) (literals_at ts ds) (literals_at ts tried) (trees_of ts w.gone) (trees_of ts w.rest) (trees_of ts kept) (literal_tree_at ts out)
          (subst (λ ls. IsShortened (instances_in ts p) (literals_at ts ds) (literals_at ts tried) ls) (ap (trees_of ts) w.parts ∙ trees-both ts w.gone w.rest) h.shortened) (w.most ds h.right) w.clash;
    }

  -- where all decisions were tried
  pub all-tried : (laws : ShorteningIsExact) (ds : List Decided) (ss : List Step) → AreTried ts p ds ds ss → IsExplanation (instances_in ts p) (literals_at ts ds) (trees_of ts ss)
  all-tried laws ds ss h = laws.ends (instances_in ts p) (literals_at ts ds) (literals_at ts ds) (trees_of ts ss) h.shortened (λ l g. g)

-- a step that wasn't decided is kept exactly where its opposite clashes
pub asked-kept : (ts : List ValueTree) (p : Problem) (had : List Decided) (s : Step) (out : Decided) (b : Bool) → (s.literal ≡ out → ⊥) → s.is_decision ≡ false → (b ≡ true) ↔ Clash (instances_in ts p) (literals_at ts (opposite_of s.literal ∷ had)) → IsKept ts p had s out b
asked-kept ts p had s out true other free h = (other, inr (h.0 refl))
asked-kept ts p had s out false other free h = inr never
  where
    never : MayBeKept ts p had s → ⊥
    never (inl is) = true≢false (sym is ∙ free)
    never (inr clash) = true≢false (sym (h.1 clash))
