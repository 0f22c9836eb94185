-- Marks of an explanation, and the steps that are gathered from them.
use Rattle.std.proofs.Common.{◌≡◌, refl, sym, ap, ◌∙◌, subst, ℕ, zero, suc, ◌+◌, ◌<◌, ◌≤◌, arith, Bool, true, false, List, [], ◌∷◌, ◌++◌, length, ◌⊎◌, inl, inr, Some, slice_get, slice_set, ◌↔◌}
use Rattle.std.proofs.lemmas.Bool.{true≢false, cases_lt}
use Rattle.std.proofs.lemmas.Option.{slice_get_within, same_Some}
use Rattle.jh_form.specs.Tree.{ValueTree}
use Rattle.jh_closure.specs.congruence_closure.Nodes.{Has}
use Rattle.jh_closure.proofs.congruence_closure.Having.{has-at, has-left, has-last, has-pushed}
use Rattle.jh_models.specs.ground_models.Atoms.{IsGroundAtom}
use Rattle.jh_models.specs.ground_models.Clashes.{Clash}
use Rattle.jh_models.specs.ground_models.Explanations.{ClosesBranch}
use Rattle.jh_models.specs.shortening.Steps.{MayStand, AreSteps}
use Rattle.jh_models.specs.shortening.Laws.{MostIsKept}
use Rattle.jh_propagation.specs.declared.trail.decided.Decided.{Decided}
use Rattle.jh_propagation.specs.trail.Listing.{decided, IsUndecided, DecideOnce}
use Rattle.jh_propagation.specs.trail.Saying.{truth_at, literal_tree_at, literals_at, opposite_of}
use Rattle.jh_propagation.proofs.trail.Listed.{has-listed}
use Rattle.jh_propagation.specs.declared.propagation.problem.Problem.{Problem}
use Rattle.jh_propagation.specs.declared.propagation.branch.Reason.{Reason}
use Rattle.jh_propagation.specs.declared.propagation.branch.Reason.TheVariants as reason
use Rattle.jh_propagation.specs.propagation.Problems.{instances_in}
use Rattle.jh_explanations.specs.declared.step.Step.{Step}
use Rattle.jh_explanations.specs.Steps.{literals_of, trees_of}
use Rattle.jh_explanations.specs.Keeping.{AreRight}
use Rattle.jh_explanations.specs.Resting.{IsHistory, AreDecided, ClashWith, RestsAt}
use Rattle.jh_explanations.specs.Marks.{IsMarkedAt, HoldBelow, AreExplained, AddsMarks, AreGathered}
use Rattle.jh_explanations.proofs.Lists.{literals-more, trees-more, once-more, marked-more}

before-or-at : (i n : ℕ) → i < n + 1 → (i < n) ⊎ (i ≡ n)
before-or-at i n l = elim (cases_lt i n) [ inl before ↦ inl before | inr past ↦ inr (omega (arith, l, past)) ]

from-or-at : (i n : ℕ) → n ≤ i → (n + 1 ≤ i) ⊎ (i ≡ n)
from-or-at i n l = elim (cases_lt n i) [ inl before ↦ inl (omega (arith, before)) | inr past ↦ inr (omega (arith, l, past)) ]

module _ (ts : List ValueTree) (p : Problem) (trail : List Decided) (reasons : List Reason) where
  -- the places of a cause are marked
  pub cause-explained : (old new : List Bool) (places : List ℕ) → length old ≡ length trail → ((n : ℕ) → Has places n → n < length trail) → ((n : ℕ) → IsMarkedAt old n → ⊥) → AddsMarks old new places → ClashWith ts p trail places → AreExplained ts p trail reasons new (length trail)
  cause-explained old new places long inside none adds clash = record {
    long = adds.long ∙ long;
    clash = λ ks held. clash ks (λ n d there at. held n d (slice_get_within trail n d at) (adds.here n there) at);
    each = λ n d le marked at. absurd (let lt : n < length trail = slice_get_within trail n d at in omega (arith, lt, le));
  }

  -- what a marked literal rests on is marked
  pub more-explained : (old new : List Bool) (places : List ℕ) (place : ℕ) → AreExplained ts p trail reasons old (place + 1) → ((n : ℕ) → Has places n → n < place) → AddsMarks old new places → RestsAt ts p trail reasons place places → AreExplained ts p trail reasons new place
  more-explained old new places place h below adds rests = record {
    long = adds.long ∙ h.long;
    clash = λ ks held. h.clash ks (λ n d lt marked at. held n d lt (adds.kept n marked) at);
    each = each;
  }
    where
      old-mark : (n : ℕ) → place ≤ n → IsMarkedAt new n → IsMarkedAt old n
      old-mark n le marked = elim (adds.only n marked) [
        | inl old ↦ old
        | inr there ↦ absurd (let lt : n < place = below n there in omega (arith, lt, le))
      ]

      each : (n : ℕ) (d : Decided) → place ≤ n → IsMarkedAt new n → slice_get trail n ≡ Some d → (slice_get reasons n ≡ Some reason.Decision) ⊎ ((ks : List Decided) → HoldBelow trail new n ks → Clash (instances_in ts p) (literals_at ts (opposite_of d ∷ ks)))
      each n d le marked at = elim (from-or-at n place le) [
        | inl past ↦ elim (h.each n d past (old-mark n le marked) at) [
          | inl decision ↦ inl decision
          | inr f ↦ inr (λ ks held. f ks (λ m e lt mark there. held m e lt (adds.kept m mark) there))
        ]
        | inr same ↦ elim rests [
          | inl decision ↦ inl (subst (λ k. slice_get reasons k ≡ Some reason.Decision) (sym same) decision)
          | inr f ↦ inr (λ ks held. f d (subst (λ k. slice_get trail k ≡ Some d) same at) ks (λ m e there is_at. held m e (let lt : m < place = below m there in omega (arith, lt, same)) (adds.here m there) is_at))
        ]
      ]

  pub unmarked-explained : (marks : List Bool) (place : ℕ) → AreExplained ts p trail reasons marks (place + 1) → slice_get marks place ≡ Some false → AreExplained ts p trail reasons marks place
  unmarked-explained marks place h off = record {
    long = h.long;
    clash = h.clash;
    each = λ n d le marked at. elim (from-or-at n place le) [
      | inl past ↦ h.each n d past marked at
      | inr same ↦ absurd (true≢false (same_Some true false (sym marked ∙ (ap (slice_get marks) same ∙ off))))
    ];
  }

  pub gathered-none : (ds : List Decided) (marks : List Bool) → AreGathered ts p ds trail marks 0 []
  gathered-none ds marks = record {
    goes = tt;
    all = λ n d lt marked at. absurd (omega (arith, lt));
    from = λ d h. absurd h;
    once = λ i j d e at_i at_j same. absurd (let lt : i < 0 = slice_get_within [] i d at_i in omega (arith, lt));
    marked = λ s h. absurd h;
  }

  module _ (ds : List Decided) (law : MostIsKept) (history : IsHistory ts p trail reasons) (decisions : AreDecided ds trail reasons) (once : DecideOnce trail) (marks : List Bool) (explained : AreExplained ts p trail reasons marks 0) where
    over : (n : ℕ) (d : Decided) → slice_get trail n ≡ Some d → Has p.ground.atoms d.atom
    over n d at = history.over_atoms d (has-at trail n d at)

    module _ (place : ℕ) (ss : List Step) (h : AreGathered ts p ds trail marks place ss) where
      pub gathered-next : slice_get marks place ≡ Some false → AreGathered ts p ds trail marks (place + 1) ss
      gathered-next off = record {
        goes = h.goes;
        all = λ n d lt marked at. elim (before-or-at n place lt) [
          | inl before ↦ h.all n d before marked at
          | inr same ↦ absurd (true≢false (same_Some true false (sym marked ∙ (ap (slice_get marks) same ∙ off))))
        ];
        from = λ d there. let f = h.from d there in (f.0, (let lt : f.0 < place = f.1.0 in omega (arith, lt), f.1.1));
        once = h.once;
        marked = h.marked;
      }

      module _ (s : Step) (here : slice_get trail place ≡ Some s.literal) (on : slice_get marks place ≡ Some true) (says : (s.is_decision ≡ true) ↔ Has ds s.literal) where
        new-literal : IsUndecided (literals_of ss) s.literal.atom
        new-literal b there =
            let f = h.from (decided s.literal.atom b) there in
            let same : f.0 ≡ place = once f.0 place (decided s.literal.atom b) s.literal f.1.1 here refl in
            let lt : f.0 < place = f.1.0 in
            omega (arith, same, lt)

        may-stand : MayStand (instances_in ts p) (literals_at ts ds) (trees_of ts ss) (literal_tree_at ts s.literal)
        may-stand = elim (explained.each place s.literal (omega arith) on here) [
          | inl decision ↦ inl (has-listed ts ds s.literal (decisions place s.literal here decision))
          | inr f ↦ inr (f (literals_of ss) h.all)
        ]

        ground-atom : IsGroundAtom (instances_in ts p) (truth_at ts s.literal.atom)
        ground-atom = history.posed.occurrences.stand s.literal.atom (over place s.literal here)

        pub gathered-more : AreGathered ts p ds trail marks (place + 1) (ss ++ s ∷ [])
        gathered-more = record {
          goes = subst (λ ls. AreSteps (instances_in ts p) (literals_at ts ds) ls) (sym (trees-more ts ss s)) (law.steps_more (instances_in ts p) (literals_at ts ds) (trees_of ts ss) (literal_tree_at ts s.literal) h.goes ground-atom may-stand);
          all = λ n d lt marked at. subst (λ xs. Has xs d) (sym (literals-more ss s)) (elim (before-or-at n place lt) [
            | inl before ↦ has-left (literals_of ss) (s.literal ∷ []) d (h.all n d before marked at)
            | inr same ↦ subst (Has (literals_of ss ++ s.literal ∷ [])) (same_Some s.literal d (sym here ∙ (ap (slice_get trail) (sym same) ∙ at))) (has-last (literals_of ss) s.literal)
          ]);
          from = λ d there. elim (has-pushed (literals_of ss) s.literal d (subst (λ xs. Has xs d) (literals-more ss s) there)) [
            | inl old ↦ let f = h.from d old in (f.0, (let lt : f.0 < place = f.1.0 in omega (arith, lt), f.1.1))
            | inr e ↦ (place, (omega arith, here ∙ ap Some e))
          ];
          once = subst DecideOnce (sym (literals-more ss s)) (once-more (literals_of ss) s.literal h.once new-literal);
          marked = marked-more ds ss s h.marked says;
        }

    -- in the end the steps close the branch
    module _ (ss : List Step) (h : AreGathered ts p ds trail marks (length trail) ss) where
      pub gathered-close : ClosesBranch (instances_in ts p) (literals_at ts ds) (trees_of ts ss)
      gathered-close = law.closes (instances_in ts p) (literals_at ts ds) (trees_of ts ss) h.goes (explained.clash (literals_of ss) h.all)

      pub gathered-right : ((d : Decided) → Has ds d → Has trail d) → AreRight p ds ss
      gathered-right decided_there = record {
        marked = h.marked;
        over = record {
          over_atoms = λ d there. let f = h.from d there in over f.0 d f.1.1;
          once = h.once;
        };
        decided_over = λ d there. history.over_atoms d (decided_there d there);
      }

-- one more place is marked
pub adds-none : (marks : List Bool) → AddsMarks marks marks []
adds-none marks = record { long = refl; here = λ n h. absurd h; kept = λ n h. h; only = λ n h. inl h }

set-there : (xs : List Bool) (k : ℕ) (v : Bool) → k < length xs → slice_get (slice_set xs k v) k ≡ Some v
set-there [] k v lt = absurd (omega (arith, lt))
set-there (x ∷ xs) zero v lt = refl
set-there (x ∷ xs) (suc k) v lt = set-there xs k v (omega (arith, lt))

set-else : (xs : List Bool) (k : ℕ) (v : Bool) (n : ℕ) → (n ≡ k) ⊎ (slice_get (slice_set xs k v) n ≡ slice_get xs n)
set-else [] zero v n = inr refl
set-else [] (suc k) v n = inr refl
set-else (x ∷ xs) zero v zero = inl refl
set-else (x ∷ xs) zero v (suc n) = inr refl
set-else (x ∷ xs) (suc k) v zero = inr refl
set-else (x ∷ xs) (suc k) v (suc n) = elim (set-else xs k v n) [ inl e ↦ inl (ap suc e) | inr e ↦ inr e ]

set-kept : (xs : List Bool) (k n : ℕ) → k < length xs → IsMarkedAt xs n → IsMarkedAt (slice_set xs k true) n
set-kept xs k n lt h = elim (set-else xs k true n) [
  | inl e ↦ subst (IsMarkedAt (slice_set xs k true)) (sym e) (set-there xs k true lt)
  | inr e ↦ e ∙ h
]

set-only : (xs : List Bool) (k n : ℕ) → IsMarkedAt (slice_set xs k true) n → IsMarkedAt xs n ⊎ (n ≡ k)
set-only xs k n h = elim (set-else xs k true n) [ inl e ↦ inr e | inr e ↦ inl (sym e ∙ h) ]

set-long : (xs : List Bool) (k : ℕ) (v : Bool) → length (slice_set xs k v) ≡ length xs
set-long [] zero v = refl
set-long [] (suc k) v = refl
set-long (x ∷ xs) zero v = refl
set-long (x ∷ xs) (suc k) v = ap suc (set-long xs k v)

pub adds-more : (old new : List Bool) (places : List ℕ) (k : ℕ) → AddsMarks old new places → k < length new → AddsMarks old (slice_set new k true) (places ++ k ∷ [])
adds-more old new places k h lt = record {
  long = set-long new k true ∙ h.long;
  here = λ n g. elim (has-pushed places k n g) [
    | inl was ↦ set-kept new k n lt (h.here n was)
    | inr e ↦ subst (IsMarkedAt (slice_set new k true)) e (set-there new k true lt)
  ];
  kept = λ n g. set-kept new k n lt (h.kept n g);
  only = λ n g. elim (set-only new k n g) [
    | inl was ↦ elim (h.only n was) [ inl o ↦ inl o | inr there ↦ inr (has-left places (k ∷ []) n there) ]
    | inr e ↦ inr (subst (Has (places ++ k ∷ [])) (sym e) (has-last places k))
  ];
}
