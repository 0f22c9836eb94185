-- Solutions of the system are sizes that meet all atoms, and sizes that do are solutions of it.
use Rattle.std.proofs.Common.{◌≡◌, ◌≢◌, refl, ℕ, zero, suc, ◌+◌, ◌*◌, ◌-◌, ◌^◌, ◌<◌, ◌≤◌, ◌==◌, nat_lt, Bool, true, false, not, ◌&&◌, ◌||◌, if◌then◌else◌, List, [], ◌∷◌, ◌++◌, length, get_or, Option, Some, None, ℤ, pos, negsuc, ◌+ℤ◌, ◌-ℤ◌, ◌*ℤ◌, neg_ℤ, ap, sym, ◌∙◌, arith, ◌⊎◌, inl, inr}
use Rattle.std.specs.Prelude.{slice_index}
use Rattle.std.specs.List.{list_all, list_any}
use Rattle.std.proofs.lemmas.Bool.{eqb-true, eq-eqb, cases_eq, lt-ltb, le-ltb, ltb-true, ltb-false, or_cases, or_left, or_right, true≢false}
use Rattle.std.proofs.lemmas.Int.{ints}
use Rattle.std.proofs.Math.ListN.{get_or-append}
use Rattle.std.proofs.Math.Seq.{get_or-append_seam}
use Rattle.jh_digits.specs.solver.Solution as digits
use Rattle.jh_query.specs.declared.queries.sizes.Spot.{Spot}
use Rattle.jh_query.specs.queries.Bare.{cond_tree}
use Rattle.jh_query.specs.queries.Tree.{CondTree, QueryTree}
use Rattle.jh_query.specs.queries.Tree as t
use Rattle.jh_query.specs.queries.Sizing.{Sizing}
use Rattle.jh_query.specs.queries.Named.{cond_named, room_of}
use Rattle.jh_query.specs.queries.Truth.{Fits, holds, rest_of, spot_of, implied}
use Rattle.jh_form.specs.Meaning.{agree, any_below}
use Rattle.jh_query.specs.declared.partial_truth.casing.Atom.{Atom}
use Rattle.jh_query.specs.declared.partial_truth.casing.Case.{Case}
use Rattle.jh_query.specs.declared.partial_truth.casing.Case.TheVariants.{Open, True, False, Greater, Remainder}
use Rattle.jh_query.specs.partial_truth.Judged.{Agrees, case_truth}
use Rattle.jh_bapa.specs.decision.Lists.{dot, listed, picks}
use Rattle.jh_bapa.specs.decision.Cases.{LineMet, LineTree, Met, class_differs, classes_differ, conds_of, flag_chosen, is_against, is_case_of, is_chosen_flag, is_contrary, is_hopeless, is_loose, line_of, rest_differs}
use Rattle.jh_bapa.specs.decision.Systems.{Frame, count, emptied, empties, frame_of, is_empty, need_of, needs_of, said, slack_count, wants}
use Rattle.jh_bapa.specs.decision.Searching.{AllMet, IsPlacement}
use Rattle.jh_bapa.proofs.decision.Belows.{any-none, any-some, both, first, none_one, none_two, not-false, not-true, picks-at, picks-in, second, set-class-false, set-classes, set-rest, set-rest-false, set-true, set-wanted, sure}
use Rattle.jh_bapa.proofs.decision.Dots.{dot-same, length-listed}
use Rattle.jh_bapa.proofs.decision.Truths.{divides-truth, equal-truth, less-truth, some-is}
use Rattle.jh_bapa.proofs.decision.Said.{Says, slacks_at}
use Rattle.jh_bapa.proofs.decision.Equations.{AllLines}

pub at-listed : {A : Type 0} (n : ℕ) (f : ℕ → A) (i : ℕ) (d : A) → i < n → get_or (listed n f) i d ≡ f i
at-listed zero f i d h = absurd (omega arith)
at-listed (suc n) f i d h =
    elim (cases_eq i n) [
      | inl e ↦ ap (λ j. get_or (listed n f ++ f n ∷ []) j d) (e ∙ sym (length-listed n f)) ∙ get_or-append_seam (listed n f) (f n) [] d ∙ ap f (sym e)
      | inr e ↦ get_or-append (listed n f) (f n ∷ []) d i (omega (arith, length-listed n f, e, h)) ∙ at-listed n f i d (omega arith)
    ]

pub emptied-is : (sets : ℕ) (atoms : List Atom) (r : ℕ) → r < 2 ^ sets → emptied sets atoms r ≡ is_empty atoms r
emptied-is sets atoms r h = at-listed (2 ^ sets) (is_empty atoms) r false h

-- a need of each atom that wants one
abbrev pub NeedsMet : ℕ → (ℕ → Bool) → List Spot → (ℕ → ℕ) → List Atom → Type 0
NeedsMet regions empty spots v [] = Unit {0}
NeedsMet regions empty spots v (a ∷ rest) = (wants spots (cond_tree a.cond.now) a.case ≡ true → digits.IsMet (need_of regions empty (cond_tree a.cond.now)) v) × NeedsMet regions empty spots v rest

abbrev pub EachMet : List (List ℕ) → (ℕ → ℕ) → Type 0
EachMet needs v = (k : ℕ) → k < length needs → digits.IsMet (get_or needs k []) v

needs_with : (b : Bool) (need : List ℕ) (needs : List (List ℕ)) (v : ℕ → ℕ) (P : Type 0) → EachMet (if b then need ∷ needs else needs) v → (EachMet needs v → P) → (b ≡ true → digits.IsMet need v) × P
needs_with true need needs v P h k = (λ e. h 0 (omega arith), k (λ i l. h (suc i) (omega arith)))
needs_with false need needs v P h k = (λ e. cc, k h)

pub needs-of-each : (regions : ℕ) (empty : ℕ → Bool) (spots : List Spot) (v : ℕ → ℕ) (atoms : List Atom) → EachMet (needs_of regions empty spots atoms) v → NeedsMet regions empty spots v atoms
needs-of-each regions empty spots v [] h = tt
needs-of-each regions empty spots v (a ∷ rest) h =
    needs_with (wants spots (cond_tree a.cond.now) a.case) (need_of regions empty (cond_tree a.cond.now)) (needs_of regions empty spots rest) v (NeedsMet regions empty spots v rest) h (needs-of-each regions empty spots v rest)

each_with : (b : Bool) (need : List ℕ) (needs : List (List ℕ)) (v : ℕ → ℕ) → (b ≡ true → digits.IsMet need v) → EachMet needs v → EachMet (if b then need ∷ needs else needs) v
each_with true need needs v h k zero l = h refl
each_with true need needs v h k (suc i) l = k i (omega arith)
each_with false need needs v h k i l = k i l

pub each-of-needs : (regions : ℕ) (empty : ℕ → Bool) (spots : List Spot) (v : ℕ → ℕ) (atoms : List Atom) → NeedsMet regions empty spots v atoms → EachMet (needs_of regions empty spots atoms) v
each-of-needs regions empty spots v [] h = λ i l. absurd (none i l)
  where
    none : (i : ℕ) → i < 0 → ⊥
    none i l = omega arith
each-of-needs regions empty spots v (a ∷ rest) h =
    each_with (wants spots (cond_tree a.cond.now) a.case) (need_of regions empty (cond_tree a.cond.now)) (needs_of regions empty spots rest) v h.0 (each-of-needs regions empty spots v rest h.1)

if_true : (b : Bool) (x y : ℕ) → b ≡ true → (if b then x else y) ≡ x
if_true true x y e = refl
if_true false x y e = cc

if_false : (b : Bool) (x y : ℕ) → b ≡ false → (if b then x else y) ≡ y
if_false true x y e = cc
if_false false x y e = refl

pub said-says : (q : QueryTree) (atoms : List Atom) (spots : List Spot) (v : ℕ → ℕ) → Says (frame_of q atoms spots) (said q atoms spots v) v
said-says q atoms spots v = record {
  rests = length-listed (2 ^ q.sets) (λ r. if emptied q.sets atoms r then 0 else v r);
  numbers = length-listed q.numbers (λ l. pos (v (2 ^ q.sets + 2 * l)) -ℤ pos (v (2 ^ q.sets + (2 * l + 1))));
  spots = refl;
  none = λ r h e. at-listed (2 ^ q.sets) (λ r. if emptied q.sets atoms r then 0 else v r) r 0 h ∙ if_true (emptied q.sets atoms r) 0 (v r) e;
  some = λ r h e. at-listed (2 ^ q.sets) (λ r. if emptied q.sets atoms r then 0 else v r) r 0 h ∙ if_false (emptied q.sets atoms r) 0 (v r) e;
  number = λ l h. at-listed q.numbers (λ l. pos (v (2 ^ q.sets + 2 * l)) -ℤ pos (v (2 ^ q.sets + (2 * l + 1)))) l (pos 0) h;
}

pub said-fits : (q : QueryTree) (atoms : List Atom) (spots : List Spot) (v : ℕ → ℕ) → IsPlacement q.sets spots → length spots ≡ q.elements → Fits q (said q atoms spots v)
said-fits q atoms spots v placement full = record {
  rest = length-listed (2 ^ q.sets) (λ r. if emptied q.sets atoms r then 0 else v r);
  spots = full;
  numbers = length-listed q.numbers (λ l. pos (v (2 ^ q.sets + 2 * l)) -ℤ pos (v (2 ^ q.sets + (2 * l + 1))));
  flags = length-listed q.flags (flag_chosen atoms);
  regions = λ i h. placement.regions i (omega (arith, full));
  classes = λ i j h k e. ap (λ (s : Spot). s.region) (sym (placement.same i (omega (arith, full))) ∙ ap (spot_of spots) e ∙ placement.same j (omega (arith, full)));
}
