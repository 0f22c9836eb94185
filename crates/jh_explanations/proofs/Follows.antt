-- What literals of the trail follow from.
use Rattle.std.proofs.Common.{◌≡◌, sym, subst, ℕ, true, ◌+◌, ◌≤◌, arith, List, ◌∷◌, length, take, take-take, inl, inr, Some, slice_get}
use Rattle.std.proofs.lemmas.List.{length-take-le}
use Rattle.jh_form.specs.Tree.{ValueTree}
use Rattle.jh_closure.specs.structures.Literals.{MeetsOne, Meets}
use Rattle.jh_closure.proofs.structures.Listed.{meets-all}
use Rattle.jh_closure.specs.congruence_closure.Nodes.{Has}
use Rattle.jh_cong.specs.classes.Saying.{Entails, literal_of}
use Rattle.jh_cong.specs.classes.Saying as cong
use Rattle.jh_cong.specs.declared.classes.literal.Said.{Said}
use Rattle.jh_models.specs.ground_models.Truths.{IsFalse}
use Rattle.jh_propagation.specs.declared.trail.decided.Decided.{Decided}
use Rattle.jh_propagation.specs.trail.Listing.{picked}
use Rattle.jh_propagation.specs.trail.Saying.{truth_at, literals_at, opposite_of}
use Rattle.jh_propagation.specs.declared.propagation.problem.Problem.{Problem}
use Rattle.jh_propagation.specs.declared.propagation.branch.Branch.{Branch}
use Rattle.jh_propagation.specs.declared.propagation.branch.Reason.{Reason}
use Rattle.jh_propagation.specs.declared.propagation.branch.Reason.TheVariants as reason
use Rattle.jh_propagation.specs.propagation.Branches.{IsEqual, IsBranch}
use Rattle.jh_propagation.specs.propagation.Closings.{AreUnmet}
use Rattle.jh_propagation.specs.propagation.Speaking.{AreSpoken, IsTold, Speaks}
use Rattle.jh_arena.specs.table.Nodes.{nodes}
use Rattle.jh_explanations.specs.Resting.{IsHistory, IsToldBelow, AreDecided, ClashWith, RestsOn}
use Rattle.jh_explanations.proofs.Lists.{all-listed, picked-held, slice-taken}
use Rattle.jh_explanations.proofs.Falses.{false-clashes}
use Rattle.jh_explanations.proofs.Spoken.{spoken-taken, spoken-picked, meets-told, told-meets, not-opposites}

module _ (ts : List ValueTree) (p : Problem) (trail : List Decided) where
  -- an instance that the literals at places make false
  pub rests-instance : (d : Decided) (places : List ℕ) (place n : ℕ) → slice_get p.instances.items place ≡ Some n → IsFalse (literals_at ts (opposite_of d ∷ picked trail places)) (truth_at ts n) → RestsOn ts p trail d places
  rests-instance d places place n e h ks held = false-clashes ts p (opposite_of d ∷ ks) (opposite_of d ∷ picked trail places) among place n e h
    where
      among : (x : Decided) → Has (opposite_of d ∷ picked trail places) x → Has (opposite_of d ∷ ks) x
      among x (inl same) = inl same
      among x (inr g) = inr (picked-held trail places ks held x g)

  pub clash-instance : (places : List ℕ) (place n : ℕ) → slice_get p.instances.items place ≡ Some n → IsFalse (literals_at ts (picked trail places)) (truth_at ts n) → ClashWith ts p trail places
  clash-instance places place n e h ks held = false-clashes ts p ks (picked trail places) (picked-held trail places ks held) place n e h

  pub clash-unmet : (places : List ℕ) → AreUnmet ts trail places → ClashWith ts p trail places
  clash-unmet places h ks held = inl (λ m met. h.unmet m (meets-all m (literals_at ts ks) (literals_at ts (picked trail places)) (all-listed ts ks (picked trail places) (picked-held trail places ks held)) met))

  -- what follows by equality
  pub rests-equal : (us : List ValueTree) (d : Decided) (count : ℕ) (es : List Said) (ns : List ℕ) → AreSpoken us ts (take count trail) es → IsTold us ts (cong.picked es ns) d → RestsOn ts p trail d ns
  rests-equal us d count es ns spoken told ks held = inl (λ m met. not-opposites m (truth_at ts d.atom) d.holds (told m (meets-told m us ts (picked (take count trail) ns) (cong.picked es ns) (spoken-picked us ts (take count trail) es spoken ns) (meets-all m (literals_at ts ks) (literals_at ts (picked (take count trail) ns)) (all-listed ts ks (picked (take count trail) ns) among) met.1))) met.0)
    where
      among : (x : Decided) → Has (picked (take count trail) ns) x → Has ks x
      among x g = picked-held (take count trail) ns ks (λ n e there at. held n e there (slice-taken count trail n e at)) x g

  module _ (us : List ValueTree) (reasons : List Reason) (said : List Said) (place count : ℕ) (below : IsToldBelow us ts trail reasons said (place + 1)) (here : slice_get reasons place ≡ Some (reason.Equality count)) where
    pub count-inside : count ≤ length said
    count-inside = below.counts place count (omega arith) here

    pub first-spoken : AreSpoken us ts (take count trail) (take count said)
    first-spoken = subst (λ xs. AreSpoken us ts xs (take count said)) (take-take count (length said) trail count-inside) (spoken-taken us ts count (take (length said) trail) said below.spoken)

    pub first-told : (d : Decided) → IsEqual ts (take place trail) d count → place ≤ length trail → IsTold us ts (take count said) d
    first-told d h inside m met =
        let long : length (take place trail) ≡ place = length-take-le place trail inside in
        let small : count ≤ place = subst (λ n. count ≤ n) long h.inside in
        h.implied m (subst (λ xs. Meets m (literals_at ts xs)) (sym (take-take count place trail small)) (told-meets m us ts (take count trail) (take count said) first-spoken met))

    -- as many as the literals before a place speak of
    pub fewer-told : ((m n first later : ℕ) → m ≤ n → slice_get reasons m ≡ Some (reason.Equality first) → slice_get reasons n ≡ Some (reason.Equality later) → first ≤ later) → IsToldBelow us ts trail reasons (take count said) place
    fewer-told rising =
        let long : length (take count said) ≡ count = length-take-le count said count-inside in
        record {
          counts = λ n c lt e. subst (λ k. c ≤ k) (sym long) (rising n place c count (omega (arith, lt)) e here);
          told = let inside = count-inside in let told = below.told in omega (arith, long, inside, told);
          spoken = subst (λ k. AreSpoken us ts (take k trail) (take count said)) (sym long) first-spoken;
        }

  pub told-before : (us : List ValueTree) (reasons : List Reason) (said : List Said) (place : ℕ) → IsToldBelow us ts trail reasons said (place + 1) → IsToldBelow us ts trail reasons said place
  told-before us reasons said place h = record {
    counts = λ n c lt e. h.counts n c (omega (arith, lt)) e;
    told = h.told;
    spoken = h.spoken;
  }

-- the history of a branch
pub history-of : (p : Problem) (busy : List ℕ) (b : Branch) → IsBranch p busy b → IsHistory (nodes p.table) p b.trail b.reasons.items
history-of p busy b h = record {
  posed = h.problem.posed;
  over_atoms = h.over_atoms;
  reasoned = h.reasoned;
  instances = λ n place d at why. h.justified n d (reason.Instance place) at why;
  equalities = λ n count d at why. h.justified n d (reason.Equality count) at why;
  rising = h.rising;
}

pub decided-of : (p : Problem) (busy : List ℕ) (b : Branch) → IsBranch p busy b → AreDecided b.decisions.items b.trail b.reasons.items
decided-of p busy b h n d at why = h.justified n d reason.Decision at why

pub told-of : (p : Problem) (busy : List ℕ) (b : Branch) → IsBranch p busy b → IsToldBelow (nodes b.classes.table) (nodes p.table) b.trail b.reasons.items b.classes.said (length b.trail)
told-of p busy b h = record {
  counts = λ n count lt e. h.counts n count e;
  told = h.told;
  spoken = h.spoken;
}

-- a literal and the equation that it is
module _ (us ts : List ValueTree) (said : List Said) (e : Said) (d : Decided) (speaks : Speaks us ts e d) (holds : e.holds ≡ true) where
  pub entailed-told : Entails us said e.left e.right → IsTold us ts said d
  entailed-told h m met = (speaks.same m).0 (subst (λ h. MeetsOne m h (literal_of us e).atom) (sym holds) (h m met))

  pub told-entailed : IsTold us ts said d → Entails us said e.left e.right
  told-entailed h m met = subst (λ h. MeetsOne m h (literal_of us e).atom) holds ((speaks.same m).1 (h m met))
