-- Placements are extended by one element after the other, and each placement of a query is one that is found so.
use Rattle.std.proofs.Common.{◌≡◌, refl, ℕ, zero, suc, ◌+◌, ◌^◌, ◌<◌, ◌≤◌, ◌==◌, nat_lt, Bool, true, false, not, ◌||◌, if◌then◌else◌, List, [], ◌∷◌, ◌++◌, length, get_or, ap, sym, ◌∙◌, arith, ◌⊎◌, inl, inr, subst}
use Rattle.std.proofs.lemmas.Bool.{eq-eqb, eqb-true, ltb-false, ltb-true, cases_eq, true≢false}
use Rattle.std.proofs.lemmas.List.{length-append}
use Rattle.std.proofs.Math.ListN.{get_or-append}
use Rattle.std.proofs.Math.Seq.{get_or-append_seam}
use Rattle.jh_form.specs.Meaning.{any_below}
use Rattle.jh_query.specs.declared.queries.sizes.Spot.{Spot}
use Rattle.jh_query.specs.queries.Bare.{cond_tree}
use Rattle.jh_query.specs.queries.Tree.{CondTree, QueryTree}
use Rattle.jh_query.specs.queries.Tree as t
use Rattle.jh_query.proofs.queries.Renamings.{fits-same, true-same}
use Rattle.jh_query.specs.queries.Sizing.{Sizing}
use Rattle.jh_query.specs.queries.Named.{IsRenamed, IsWellFormed, moved_to}
use Rattle.jh_query.specs.queries.Truth.{Fits, IsTrueQuery, is_first, nowhere, query_true, spot_of}
use Rattle.jh_query.specs.declared.partial_truth.casing.Atom.{Atom}
use Rattle.jh_query.specs.declared.partial_truth.casing.Case.{Case}
use Rattle.jh_query.specs.declared.partial_truth.casing.Case.TheVariants.{Open, True, False, Greater, Remainder}
use Rattle.jh_query_branching.specs.Branches.{new_spot}
use Rattle.jh_bapa.specs.decision.Lists.{listed}
use Rattle.jh_bapa.specs.decision.Cases.{Met}
use Rattle.jh_bapa.specs.decision.Searching.{AllMet, IsLeft, IsPlacement, NoneLeft, are_open, is_open}
use Rattle.jh_query.specs.partial_truth.Judged.{Agrees}
use Rattle.jh_bapa.proofs.decision.Meeting.{agrees}
use Rattle.jh_bapa.specs.decision.Standing.{NewTried, OldTried}
use Rattle.jh_bapa.proofs.decision.Belows.{any-none, first, none-any, second, some-any, sure}
use Rattle.jh_bapa.proofs.decision.Dots.{length-listed}
use Rattle.jh_bapa.proofs.decision.Solutions.{at-listed}

before : (s : List Spot) (x : Spot) (i : ℕ) → i < length s → spot_of (s ++ x ∷ []) i ≡ spot_of s i
before s x i h = get_or-append s (x ∷ []) nowhere i h

behind : (s : List Spot) (x : Spot) → spot_of (s ++ x ∷ []) (length s) ≡ x
behind s x = get_or-append_seam s x [] nowhere

-- the first elements, or the last one
module _ (s : List Spot) (x : Spot) (P : ℕ → Type 0) where
  by_place : ((i : ℕ) → i < length s → P i) → P (length s) → (i : ℕ) → i < length (s ++ x ∷ []) → P i
  by_place old new i h = elim (cases_eq i (length s)) [
    | inl e ↦ subst P (sym e) new
    | inr e ↦ old i (omega (arith, h, e, length-append s (x ∷ [])))
  ]

pub placement-new : (sets : ℕ) (s : List Spot) (r : ℕ) → IsPlacement sets s → r < 2 ^ sets → IsPlacement sets (s ++ (record { class = length s; region = r }) ∷ [])
placement-new sets s r placement h =
    let x : Spot = record { class = length s; region = r } in
    let last : spot_of (s ++ x ∷ []) (length s) ≡ x = behind s x in
    record {
      first = by_place s x (λ i. (spot_of (s ++ x ∷ []) i).class ≤ i)
          (λ i k. let same : (spot_of (s ++ x ∷ []) i).class ≡ (spot_of s i).class = ap (λ (p : Spot). p.class) (before s x i k) in omega (arith, same, placement.first i k))
          (let same : (spot_of (s ++ x ∷ []) (length s)).class ≡ length s = ap (λ (p : Spot). p.class) last in omega (arith, same));
      same = by_place s x (λ i. spot_of (s ++ x ∷ []) (spot_of (s ++ x ∷ []) i).class ≡ spot_of (s ++ x ∷ []) i)
          (λ i k. ap (λ (p : Spot). spot_of (s ++ x ∷ []) p.class) (before s x i k) ∙ before s x (spot_of s i).class (omega (arith, placement.first i k, k)) ∙ placement.same i k ∙ sym (before s x i k))
          (ap (λ (p : Spot). spot_of (s ++ x ∷ []) p.class) last);
      regions = by_place s x (λ i. (spot_of (s ++ x ∷ []) i).region < 2 ^ sets)
          (λ i k. let same : (spot_of (s ++ x ∷ []) i).region ≡ (spot_of s i).region = ap (λ (p : Spot). p.region) (before s x i k) in omega (arith, same, placement.regions i k))
          (let same : (spot_of (s ++ x ∷ []) (length s)).region ≡ r = ap (λ (p : Spot). p.region) last in omega (arith, same, h));
    }

pub placement-old : (sets : ℕ) (s : List Spot) (e : ℕ) → IsPlacement sets s → e < length s → IsPlacement sets (s ++ spot_of s e ∷ [])
placement-old sets s e placement h =
    let x : Spot = spot_of s e in
    let last : spot_of (s ++ x ∷ []) (length s) ≡ x = behind s x in
    record {
      first = by_place s x (λ i. (spot_of (s ++ x ∷ []) i).class ≤ i)
          (λ i k. let same : (spot_of (s ++ x ∷ []) i).class ≡ (spot_of s i).class = ap (λ (p : Spot). p.class) (before s x i k) in omega (arith, same, placement.first i k))
          (let same : (spot_of (s ++ x ∷ []) (length s)).class ≡ (spot_of s e).class = ap (λ (p : Spot). p.class) last in omega (arith, same, placement.first e h, h));
      same = by_place s x (λ i. spot_of (s ++ x ∷ []) (spot_of (s ++ x ∷ []) i).class ≡ spot_of (s ++ x ∷ []) i)
          (λ i k. ap (λ (p : Spot). spot_of (s ++ x ∷ []) p.class) (before s x i k) ∙ before s x (spot_of s i).class (omega (arith, placement.first i k, k)) ∙ placement.same i k ∙ sym (before s x i k))
          (ap (λ (p : Spot). spot_of (s ++ x ∷ []) p.class) last ∙ before s x (spot_of s e).class (omega (arith, placement.first e h, h)) ∙ placement.same e h ∙ sym last);
      regions = by_place s x (λ i. (spot_of (s ++ x ∷ []) i).region < 2 ^ sets)
          (λ i k. let same : (spot_of (s ++ x ∷ []) i).region ≡ (spot_of s i).region = ap (λ (p : Spot). p.region) (before s x i k) in omega (arith, same, placement.regions i k))
          (let same : (spot_of (s ++ x ∷ []) (length s)).region ≡ (spot_of s e).region = ap (λ (p : Spot). p.region) last in omega (arith, same, placement.regions e h));
    }

pub placement-none : (sets : ℕ) → IsPlacement sets []
placement-none sets = record { first = λ i h. absurd (nothing i h); same = λ i h. absurd (nothing i h); regions = λ i h. absurd (nothing i h) }
  where
    nothing : (i : ℕ) → i < 0 → ⊥
    nothing i h = omega arith

-- sizes in which the next element stands somewhere
left-more : (q : QueryTree) (s : List Spot) (atoms : List Atom) (z : Sizing) (x : Spot) → IsLeft q s atoms z → spot_of z.spots (length s) ≡ x → IsLeft q (s ++ x ∷ []) atoms z
left-more q s atoms z x left e = record {
  fits = left.fits;
  placement = left.placement;
  placed = by_place s x (λ i. spot_of z.spots i ≡ spot_of (s ++ x ∷ []) i) (λ i k. left.placed i k ∙ sym (before s x i k)) (e ∙ sym (behind s x));
  met = left.met;
}

not_same : (a b : ℕ) → a < b → (a == b) ≡ false
not_same a b h = elim (sure (a == b)) [
  | inl e ↦ let same : a ≡ b = eqb-true a b e in absurd (omega (arith, same, h))
  | inr e ↦ e
]

-- the element that numbers a class is the first of it
pub first-of : (sets : ℕ) (s : List Spot) (e : ℕ) → IsPlacement sets s → e < length s → (spot_of s e).class ≡ e → is_first s e ≡ true
first-of sets s e placement h same = ap not (none-any e (λ j. (spot_of s j).class == (spot_of s e).class) (λ j k. not_same (spot_of s j).class (spot_of s e).class (omega (arith, placement.first j (omega (arith, h, k)), k, same))))

pub next-none : (q : QueryTree) (s : List Spot) (atoms : List Atom) → IsPlacement q.sets s → length s < q.elements → OldTried q s atoms (length s) → NewTried q s atoms (2 ^ q.sets) → NoneLeft q s atoms
next-none q s atoms placement room old new z left =
    let n : ℕ = length s in
    let inside : n < length z.spots = omega (arith, room, left.fits.spots) in
    let low : (spot_of z.spots n).class ≤ n = left.placement.first n inside in
    elim (cases_eq (spot_of z.spots n).class n) [
      | inl e ↦
          let x : Spot = record { class = n; region = (spot_of z.spots n).region } in
          let same : spot_of z.spots n ≡ x = λ i. record { class = e i; region = (spot_of z.spots n).region } in
          new (spot_of z.spots n).region (left.placement.regions n inside) z (left-more q s atoms z x left same)
      | inr e ↦
          let f : ℕ = (spot_of z.spots n).class in
          let lower : f < n = omega (arith, low, e) in
          let there : spot_of z.spots f ≡ spot_of z.spots n = left.placement.same n inside in
          let known : spot_of z.spots f ≡ spot_of s f = left.placed f lower in
          let class : (spot_of s f).class ≡ f = ap (λ (p : Spot). p.class) (sym known ∙ there) in
          old f lower (first-of q.sets s f placement lower class) z (left-more q s atoms z (spot_of s f) left (sym there ∙ known))
    ]

-- The classes of any sizes may be numbered by their first elements.
abbrev least : (ℕ → Bool) → ℕ → ℕ
least p zero = zero
least p (suc n) = if any_below (suc n) p then least p n else suc n

record IsLeast (p : ℕ → Bool) (n m : ℕ) : Type 0 where
  low : m ≤ n
  here : p m ≡ true
  none : (j : ℕ) → j < m → p j ≡ false

least_is : (p : ℕ → Bool) (n : ℕ) → any_below (suc n) p ≡ true → IsLeast p n (least p n)
least_is p zero h = record { low = omega arith; here = h; none = λ j k. absurd (omega (arith, k)) }
least_is p (suc n) h = elim (sure (any_below (suc n) p)) [
  | inl e ↦ let below : IsLeast p n (least p n) = least_is p n e in rw e (record { low = omega (arith, below.low); here = below.here; none = below.none })
  | inr e ↦ let last : p (suc n) ≡ true = rest_true (any_below (suc n) p) (p (suc n)) h e in rw e (record { low = omega arith; here = last; none = λ j k. any-none (suc n) j p e k })
]
  where
    rest_true : (a b : Bool) → (a || b) ≡ true → a ≡ false → b ≡ true
    rest_true true b h e = cc
    rest_true false b h e = h

-- whether element j is of the class of element i
abbrev of_class : List Spot → ℕ → ℕ → Bool
of_class s i j = (spot_of s j).class == (spot_of s i).class

abbrev first_in : List Spot → ℕ → ℕ
first_in s i = least (of_class s i) i

first_is : (s : List Spot) (i : ℕ) → IsLeast (of_class s i) i (first_in s i)
first_is s i = least_is (of_class s i) i (some-any (suc i) i (of_class s i) (omega arith) (eq-eqb (spot_of s i).class (spot_of s i).class refl))

class_first : (s : List Spot) (i : ℕ) → (spot_of s (first_in s i)).class ≡ (spot_of s i).class
class_first s i = eqb-true (spot_of s (first_in s i)).class (spot_of s i).class (first_is s i).here

not_below : (s : List Spot) (i j : ℕ) → (spot_of s i).class ≡ (spot_of s j).class → first_in s i < first_in s j → ⊥
not_below s i j e h = true≢false (sym (eq-eqb (spot_of s (first_in s i)).class (spot_of s j).class (class_first s i ∙ e)) ∙ (first_is s j).none (first_in s i) h)

first_same : (s : List Spot) (i j : ℕ) → (spot_of s i).class ≡ (spot_of s j).class → first_in s i ≡ first_in s j
first_same s i j e = elim (cases_eq (first_in s i) (first_in s j)) [
  | inl f ↦ f
  | inr f ↦ elim (lt_or (first_in s i) (first_in s j) f) [
    | inl h ↦ absurd (not_below s i j e h)
    | inr h ↦ absurd (not_below s j i (sym e) h)
  ]
]
  where
    lt_or : (a b : ℕ) → (a ≡ b → ⊥) → (a < b) ⊎ (b < a)
    lt_or a b h = elim (sure (nat_lt a b)) [
      | inl e ↦ inl (ltb-true a b e)
      | inr e ↦ inr (omega (arith, ltb-false a b e, h))
    ]

class_test : (s : List Spot) (i j : ℕ) → ((spot_of s i).class == (spot_of s j).class) ≡ (first_in s i == first_in s j)
class_test s i j = elim (sure (first_in s i == first_in s j)) [
  | inl e ↦ eq-eqb (spot_of s i).class (spot_of s j).class (sym (class_first s i) ∙ ap (λ n. (spot_of s n).class) (eqb-true (first_in s i) (first_in s j) e) ∙ class_first s j) ∙ sym e
  | inr e ↦ elim (sure ((spot_of s i).class == (spot_of s j).class)) [
    | inl f ↦ absurd (true≢false (sym (eq-eqb (first_in s i) (first_in s j) (first_same s i j (eqb-true (spot_of s i).class (spot_of s j).class f))) ∙ e))
    | inr f ↦ f ∙ sym e
  ]
]

abbrev numbered : List Spot → List Spot
numbered s = listed (length s) (λ i. record { class = first_in s i; region = (spot_of s i).region })

spot_numbered : (s : List Spot) (i : ℕ) → i < length s → spot_of (numbered s) i ≡ record { class = first_in s i; region = (spot_of s i).region }
spot_numbered s i h = at-listed (length s) (λ i. record { class = first_in s i; region = (spot_of s i).region }) i nowhere h

renamed : (s : List Spot) → IsRenamed s (numbered s)
renamed s = record {
  count = sym (length-listed (length s) (λ i. record { class = first_in s i; region = (spot_of s i).region }));
  regions = λ i h. sym (ap (λ (p : Spot). p.region) (spot_numbered s i h));
  classes = λ i j h k. class_test s i j ∙ (λ x. (sym (ap (λ (p : Spot). p.class) (spot_numbered s i h)) x) == (sym (ap (λ (p : Spot). p.class) (spot_numbered s j k)) x));
}

placement_numbered : (q : QueryTree) (z : Sizing) → Fits q z → IsPlacement q.sets (numbered z.spots)
placement_numbered q z fits =
    let s : List Spot = z.spots in
    let size : length (numbered s) ≡ length s = length-listed (length s) (λ i. record { class = first_in s i; region = (spot_of s i).region }) in
    record {
      first = λ i h. let k : i < length s = omega (arith, size, h) in let same : (spot_of (numbered s) i).class ≡ first_in s i = ap (λ (p : Spot). p.class) (spot_numbered s i k) in omega (arith, same, (first_is s i).low);
      same = λ i h.
          let k : i < length s = omega (arith, size, h) in
          let lower : first_in s i < length s = omega (arith, (first_is s i).low, k) in
          let region : (spot_of s (first_in s i)).region ≡ (spot_of s i).region = fits.classes (first_in s i) i (omega (arith, fits.spots, lower)) (omega (arith, fits.spots, k)) (class_first s i) in
          ap (λ (p : Spot). spot_of (numbered s) p.class) (spot_numbered s i k) ∙ spot_numbered s (first_in s i) lower ∙ (λ x. record { class = first_same s (first_in s i) i (class_first s i) x; region = region x }) ∙ sym (spot_numbered s i k);
      regions = λ i h. let k : i < length s = omega (arith, size, h) in let same : (spot_of (numbered s) i).region ≡ (spot_of s i).region = ap (λ (p : Spot). p.region) (spot_numbered s i k) in omega (arith, same, fits.regions i (omega (arith, fits.spots, k)));
    }

-- an open atom is met
open_met : (z : Sizing) (c : CondTree) → Met z c Open
open_met z t.yes = record { suits = refl; truth = λ x e. cc; line = (λ j. 0, tt) }
open_met z t.no = record { suits = refl; truth = λ x e. cc; line = (λ j. 0, tt) }
open_met z (t.flag f) = record { suits = refl; truth = λ x e. cc; line = (λ j. 0, tt) }
open_met z (t.same_element i j) = record { suits = refl; truth = λ x e. cc; line = (λ j. 0, tt) }
open_met z (t.member i s) = record { suits = refl; truth = λ x e. cc; line = (λ j. 0, tt) }
open_met z (t.equal_set a b) = record { suits = refl; truth = λ x e. cc; line = (λ j. 0, tt) }
open_met z (t.within a b) = record { suits = refl; truth = λ x e. cc; line = (λ j. 0, tt) }
open_met z (t.equal_num a b) = record { suits = refl; truth = λ x e. cc; line = (λ j. 0, tt) }
open_met z (t.less_num a b) = record { suits = refl; truth = λ x e. cc; line = (λ j. 0, tt) }
open_met z (t.divides d a) = record { suits = refl; truth = λ x e. cc; line = (λ j. 0, tt) }
open_met z (t.negation a) = record { suits = refl; truth = λ x e. cc; line = (λ j. 0, tt) }
open_met z (t.and a b) = record { suits = refl; truth = λ x e. cc; line = (λ j. 0, tt) }
open_met z (t.or a b) = record { suits = refl; truth = λ x e. cc; line = (λ j. 0, tt) }
open_met z (t.implies a b) = record { suits = refl; truth = λ x e. cc; line = (λ j. 0, tt) }
open_met z (t.iff a b) = record { suits = refl; truth = λ x e. cc; line = (λ j. 0, tt) }

case_met : (z : Sizing) (c : CondTree) (k : Case) → is_open k ≡ true → Met z c k
case_met z c Open h = open_met z c
case_met z c True h = absurd (true≢false (sym h))
case_met z c False h = absurd (true≢false (sym h))
case_met z c Greater h = absurd (true≢false (sym h))
case_met z c (Remainder j) h = absurd (true≢false (sym h))

open_all : (z : Sizing) (atoms : List Atom) → are_open atoms ≡ true → AllMet z atoms
open_all z [] h = tt
open_all z (a ∷ rest) h = (case_met z (cond_tree a.cond.now) a.case (first _ _ h), open_all z rest (second _ _ h))

-- where nothing is left before any element stands, the query is true
pub true-query : (q : QueryTree) (atoms : List Atom) → IsWellFormed q → are_open atoms ≡ true → NoneLeft q [] atoms → IsTrueQuery q
true-query q atoms formed unset none z fits =
    let u : List Spot = numbered z.spots in
    let moved : Sizing = moved_to z u in
    let same : query_true q z ≡ query_true q moved = true-same q z u formed fits (renamed z.spots) in
    same ∙ none moved (record { fits = fits-same q z u fits (renamed z.spots); placement = placement_numbered q z fits; placed = λ i h. absurd (omega (arith, h)); met = open_all moved atoms unset })

-- in the loops of the search
pub told-both : (q : QueryTree) (s u : List Spot) (atoms there : List Atom) (x : Bool) → ((z : Sizing) → Agrees z u there → query_true q z ≡ x) → x ≡ true → u ≡ s → there ≡ atoms → NoneLeft q s atoms
told-both q s u atoms there x tells e f g z left =
    let at : Agrees z s atoms = agrees z s atoms left.placed left.met in
    let moved : Agrees z s there = subst (λ (xs : List Atom). Agrees z s xs) (sym g) at in
    tells z (subst (λ (v : List Spot). Agrees z v there) (sym f) moved) ∙ e

pub new-more : (q : QueryTree) (s u v : List Spot) (atoms there : List Atom) (x : Spot) (m : ℕ) → u ≡ s → there ≡ atoms → v ≡ u → x ≡ new_spot v m → NewTried q s atoms m → NoneLeft q (u ++ x ∷ []) there → NewTried q s atoms (m + 1)
new-more q s u v atoms there x m e f d g tried none r h = elim (cases_eq r m) [
  | inl k ↦
      let same : x ≡ new_spot s r = g ∙ ap (λ (w : List Spot). new_spot w m) (d ∙ e) ∙ ap (λ (n : ℕ). new_spot s n) (sym k) in
      let at : NoneLeft q (s ++ x ∷ []) there = subst (λ (w : List Spot). NoneLeft q (w ++ x ∷ []) there) e none in
      let here : NoneLeft q (s ++ x ∷ []) atoms = subst (λ (xs : List Atom). NoneLeft q (s ++ x ∷ []) xs) f at in
      subst (λ (y : Spot). NoneLeft q (s ++ y ∷ []) atoms) same here
  | inr k ↦ tried r (omega (arith, h, k))
]

pub next-both : (q : QueryTree) (s u : List Spot) (atoms there : List Atom) → IsPlacement q.sets s → length s < q.elements → u ≡ s → there ≡ atoms → OldTried q s atoms (length s) → NewTried q u there (2 ^ q.sets) → NoneLeft q s atoms
next-both q s u atoms there placement room e f old new =
    let at : NewTried q s there (2 ^ q.sets) = subst (λ (v : List Spot). NewTried q v there (2 ^ q.sets)) e new in
    next-none q s atoms placement room old (subst (λ (xs : List Atom). NewTried q s xs (2 ^ q.sets)) f at)

pub none-query : (q : QueryTree) (atoms : List Atom) (s : List Spot) → IsWellFormed q → are_open atoms ≡ true → s ≡ [] → NoneLeft q s atoms → IsTrueQuery q
none-query q atoms s formed unset e none = true-query q atoms formed unset (subst (λ (v : List Spot). NoneLeft q v atoms) e none)

pub placement-empty : (sets : ℕ) (s : List Spot) → s ≡ [] → IsPlacement sets s
placement-empty sets s e = rw e (placement-none sets)
