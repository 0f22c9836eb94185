-- Sizes that meet all atoms are a solution of the system.
use Rattle.std.proofs.Common.{◌≡◌, ◌≢◌, refl, ℕ, zero, suc, ◌+◌, ◌*◌, ◌-◌, ◌^◌, ◌<◌, ◌≤◌, ◌==◌, nat_lt, Bool, true, false, not, ◌&&◌, ◌||◌, if◌then◌else◌, List, [], ◌∷◌, length, get_or, Option, Some, None, ℤ, pos, negsuc, ◌+ℤ◌, ◌-ℤ◌, ap, sym, ◌∙◌, arith, ◌⊎◌, inl, inr}
use Rattle.std.specs.List.{list_any}
use Rattle.std.proofs.lemmas.Bool.{eqb-true, lt-ltb, le-ltb, or_cases, true≢false}
use Rattle.std.proofs.lemmas.Int.{ints}
use Rattle.jh_digits.specs.solver.Solution as digits
use Rattle.jh_form.specs.Meaning.{agree, any_below}
use Rattle.jh_query.specs.declared.queries.sizes.Spot.{Spot}
use Rattle.jh_query.specs.queries.Bare.{cond_tree}
use Rattle.jh_query.specs.queries.Tree.{CondTree, QueryTree, SetExprTree}
use Rattle.jh_query.specs.queries.Tree as t
use Rattle.jh_query.specs.queries.Sizing.{Sizing}
use Rattle.jh_query.specs.queries.Truth.{Fits, compares, holds, implied, number_value, rest_of}
use Rattle.jh_query.specs.declared.partial_truth.casing.Atom.{Atom}
use Rattle.jh_query.specs.declared.partial_truth.casing.Case.{Case}
use Rattle.jh_query.specs.declared.partial_truth.casing.Case.TheVariants.{Open, True, False, Greater, Remainder}
use Rattle.jh_bapa.specs.decision.Lists.{dot}
use Rattle.jh_bapa.specs.decision.Cases.{LineMet, LineTree, Met, class_differs, classes_differ, flag_chosen, is_against, is_contrary, is_case_of, is_chosen_flag, is_hopeless, line_of, rest_differs}
use Rattle.jh_bapa.specs.decision.Systems.{Frame, count, emptied, empties, frame_of, is_empty, need_of, slack_count, wants}
use Rattle.jh_bapa.specs.decision.Searching.{AllMet}
use Rattle.jh_bapa.proofs.decision.Belows.{any-some, both, class_fails, picks-in, rest_fails, set-classes, set-rest, set-wanted, sure, not-true}
use Rattle.jh_bapa.proofs.decision.Dots.{dot-same}
use Rattle.jh_bapa.proofs.decision.Said.{Says, slacks_at}
use Rattle.jh_bapa.proofs.decision.Equations.{AllLines}
use Rattle.jh_bapa.proofs.decision.Solutions.{NeedsMet, emptied-is}

line_same : (z : Sizing) (l : Option LineTree) (v w : ℕ → ℕ) (k j : ℕ) → ((i : ℕ) → i < count l → v (k + i) ≡ w (j + i)) → LineMet z l w j → LineMet z l v k
line_same z None v w k j h e = tt
line_same z (Some l) v w k j h e = ap (λ y. number_value z l.side +ℤ y) (dot-same l.slacks v w k j h) ∙ e

-- the slacks matter alone from their place on
pub lines-same : (m : Frame) (z : Sizing) (v w : ℕ → ℕ) (place : ℕ) (atoms : List Atom) → ((j : ℕ) → slacks_at m place ≤ j → v j ≡ w j) → AllLines m z w place atoms → AllLines m z v place atoms
lines-same m z v w place [] h e = tt
lines-same m z v w place (a ∷ rest) h e = (
  line_same z (line_of (cond_tree a.cond.now) a.case) v w (slacks_at m place) (slacks_at m place) (λ i k. h (slacks_at m place + i) (omega arith)) e.0,
  lines-same m z v w (place + slack_count (cond_tree a.cond.now) a.case) rest (λ j k. h j (omega (arith, k))) e.1,
)

-- the slacks of all atoms, one after the other
abbrev slack_from : ℕ → ℕ → (ℕ → ℕ) → (ℕ → ℕ) → ℕ → ℕ
slack_from start end x w j = if nat_lt j end then x (j - start) else w j

from_first : (start end : ℕ) (x w : ℕ → ℕ) (i : ℕ) → start + i < end → slack_from start end x w (start + i) ≡ x (0 + i)
from_first start end x w i h = ap (λ b. if b then x ((start + i) - start) else w (start + i)) (lt-ltb (start + i) end h) ∙ ap x (less start i)
  where
    less : (s i : ℕ) → (s + i) - s ≡ 0 + i
    less s i = omega arith

from_rest : (start end : ℕ) (x w : ℕ → ℕ) (j : ℕ) → end ≤ j → slack_from start end x w j ≡ w j
from_rest start end x w j h = ap (λ b. if b then x (j - start) else w j) (le-ltb j end h)

pub slacks-of : (m : Frame) (z : Sizing) (place : ℕ) (atoms : List Atom) → AllMet z atoms → (w : ℕ → ℕ) × AllLines m z w place atoms
slacks-of m z place [] h = (λ j. 0, tt)
slacks-of m z place (a ∷ rest) h =
    let line : Option LineTree = line_of (cond_tree a.cond.now) a.case in
    let behind = slacks-of m z (place + count line) rest h.1 in
    let x : ℕ → ℕ = h.0.line.0 in
    let start : ℕ = slacks_at m place in
    let end : ℕ = slacks_at m (place + count line) in (
      slack_from start end x behind.0,
      (
        line_same z line (slack_from start end x behind.0) x start 0 (λ i k. from_first start end x behind.0 i (omega (arith, k))) h.0.line.1,
        lines-same m z (slack_from start end x behind.0) behind.0 (place + count line) rest (from_rest start end x behind.0) behind.1,
      ),
    )

-- whole numbers as two columns each
abbrev plus_of : ℤ → ℕ
plus_of (pos a) = a
plus_of (negsuc a) = 0

abbrev minus_of : ℤ → ℕ
minus_of (pos a) = 0
minus_of (negsuc a) = suc a

parts_of : (y : ℤ) → y ≡ pos (plus_of y) -ℤ pos (minus_of y)
parts_of (pos a) = omega (arith, ints)
parts_of (negsuc a) = omega (arith, ints)

abbrev halves : List ℤ → ℕ → ℕ
halves [] j = 0
halves (y ∷ ys) zero = plus_of y
halves (y ∷ ys) (suc zero) = minus_of y
halves (y ∷ ys) (suc (suc j)) = halves ys j

halves_at : (ys : List ℤ) (l : ℕ) → get_or ys l (pos 0) ≡ pos (halves ys (2 * l)) -ℤ pos (halves ys (2 * l + 1))
halves_at [] l = omega (arith, ints)
halves_at (y ∷ ys) zero = parts_of y
halves_at (y ∷ ys) (suc l) =
    let first : halves (y ∷ ys) (2 * suc l) ≡ halves ys (2 * l) = ap (halves (y ∷ ys)) (two_more l) in
    let second : halves (y ∷ ys) (2 * suc l + 1) ≡ halves ys (2 * l + 1) = ap (halves (y ∷ ys)) (three_more l) in
    halves_at ys l ∙ sym (λ i. pos (first i) -ℤ pos (second i))
  where
    two_more : (l : ℕ) → 2 * suc l ≡ suc (suc (2 * l))
    two_more l = omega arith

    three_more : (l : ℕ) → 2 * suc l + 1 ≡ suc (suc (2 * l + 1))
    three_more l = omega arith

-- the numbers of all columns: rests, whole numbers, slacks
abbrev pub columns_of : Frame → Sizing → (ℕ → ℕ) → ℕ → ℕ
columns_of m z w j = if nat_lt j m.regions then rest_of z j else (if nat_lt j (slacks_at m 0) then halves z.numbers (j - m.regions) else w j)

column_rest : (m : Frame) (z : Sizing) (w : ℕ → ℕ) (j : ℕ) → j < m.regions → columns_of m z w j ≡ rest_of z j
column_rest m z w j h = ap (λ b. if b then rest_of z j else (if nat_lt j (slacks_at m 0) then halves z.numbers (j - m.regions) else w j)) (lt-ltb j m.regions h)

column_half : (m : Frame) (z : Sizing) (w : ℕ → ℕ) (i : ℕ) → i < 2 * m.numbers → columns_of m z w (m.regions + i) ≡ halves z.numbers i
column_half m z w i h =
    ap (λ b. if b then rest_of z (m.regions + i) else (if nat_lt (m.regions + i) (slacks_at m 0) then halves z.numbers ((m.regions + i) - m.regions) else w (m.regions + i))) (le-ltb (m.regions + i) m.regions (omega arith))
    ∙ ap (λ b. if b then halves z.numbers ((m.regions + i) - m.regions) else w (m.regions + i)) (lt-ltb (m.regions + i) (slacks_at m 0) (omega (arith, h)))
    ∙ ap (halves z.numbers) (less m.regions i)
  where
    less : (s i : ℕ) → (s + i) - s ≡ i
    less s i = omega arith

pub column_slack : (m : Frame) (z : Sizing) (w : ℕ → ℕ) (j : ℕ) → slacks_at m 0 ≤ j → columns_of m z w j ≡ w j
column_slack m z w j h =
    ap (λ b. if b then rest_of z j else (if nat_lt j (slacks_at m 0) then halves z.numbers (j - m.regions) else w j)) (le-ltb j m.regions (omega (arith, h)))
    ∙ ap (λ b. if b then halves z.numbers (j - m.regions) else w j) (le-ltb j (slacks_at m 0) h)

-- a region that a true atom empties has no rest
rest_none : (z : Sizing) (c : CondTree) (k : Case) (r : ℕ) → Met z c k → r < length z.rest → empties r c k ≡ true → rest_of z r ≡ 0
rest_none z (t.equal_set a b) True r m h e = set-rest z agree a b (m.truth true refl) r h e
rest_none z (t.within a b) True r m h e = set-rest z implied a b (m.truth true refl) r h e
rest_none z t.yes True r m h e = cc
rest_none z t.no True r m h e = cc
rest_none z (t.flag f) True r m h e = cc
rest_none z (t.same_element i j) True r m h e = cc
rest_none z (t.member i s) True r m h e = cc
rest_none z (t.equal_num a b) True r m h e = cc
rest_none z (t.less_num a b) True r m h e = cc
rest_none z (t.divides d a) True r m h e = cc
rest_none z (t.negation a) True r m h e = cc
rest_none z (t.and a b) True r m h e = cc
rest_none z (t.or a b) True r m h e = cc
rest_none z (t.implies a b) True r m h e = cc
rest_none z (t.iff a b) True r m h e = cc
rest_none z c Open r m h e = cc
rest_none z c False r m h e = cc
rest_none z c Greater r m h e = cc
rest_none z c (Remainder j) r m h e = cc

pub rests-none : (z : Sizing) (atoms : List Atom) (r : ℕ) → AllMet z atoms → r < length z.rest → is_empty atoms r ≡ true → rest_of z r ≡ 0
rests-none z [] r m h e = cc
rests-none z (a ∷ rest) r m h e =
    elim (or_cases (empties r (cond_tree a.cond.now) a.case) (is_empty rest r) e) [
      | inl f ↦ rest_none z (cond_tree a.cond.now) a.case r m.0 h f
      | inr f ↦ rests-none z rest r m.1 h f
    ]

pub says-of : (q : QueryTree) (atoms : List Atom) (spots : List Spot) (z : Sizing) (w : ℕ → ℕ) → Fits q z → z.spots ≡ spots → AllMet z atoms → Says (frame_of q atoms spots) z (columns_of (frame_of q atoms spots) z w)
says-of q atoms spots z w fits at m = record {
  rests = fits.rest;
  numbers = fits.numbers;
  spots = at;
  none = λ r h e. rests-none z atoms r m (omega (arith, fits.rest, h)) (sym (emptied-is q.sets atoms r h) ∙ e);
  some = λ r h e. sym (column_rest (frame_of q atoms spots) z w r h);
  number = λ l h.
      let first : columns_of (frame_of q atoms spots) z w (2 ^ q.sets + 2 * l) ≡ halves z.numbers (2 * l) = column_half (frame_of q atoms spots) z w (2 * l) (omega (arith, h)) in
      let second : columns_of (frame_of q atoms spots) z w (2 ^ q.sets + (2 * l + 1)) ≡ halves z.numbers (2 * l + 1) = column_half (frame_of q atoms spots) z w (2 * l + 1) (omega (arith, h)) in
      halves_at z.numbers l ∙ sym (λ i. pos (first i) -ℤ pos (second i));
}

module _ (q : QueryTree) (atoms : List Atom) (spots : List Spot) (z : Sizing) (w : ℕ → ℕ) (fits : Fits q z) (at : z.spots ≡ spots) (met : AllMet z atoms) where
  abbrev columns : ℕ → ℕ
  columns = columns_of (frame_of q atoms spots) z w

  wanted : (c : CondTree) (test : Bool → Bool → Bool) (a b : SetExprTree) → ((r : ℕ) → rest_differs r c ≡ rest_fails z test a b r) → compares z test a b ≡ false → any_below (length z.spots) (class_fails z test a b) ≡ false → digits.IsMet (need_of (2 ^ q.sets) (emptied q.sets atoms) c) columns
  wanted c test a b same e f =
      let found = set-wanted z test a b e f in
      let r : ℕ = found.0 in
      let inside : r < 2 ^ q.sets = omega (arith, fits.rest, found.1) in
      let full : emptied q.sets atoms r ≡ false = elim (sure (emptied q.sets atoms r)) [
        | inl g ↦ absurd (found.2.1 (rests-none z atoms r met found.1 (sym (emptied-is q.sets atoms r inside) ∙ g)))
        | inr g ↦ g
      ] in
      let picked = picks-in (2 ^ q.sets) (λ r. not (emptied q.sets atoms r) && rest_differs r c) r inside (both _ _ (ap not full) (same r ∙ found.2.0)) in
      record { place = picked.0; within = picked.1; nonzero = λ g. found.2.1 (sym (column_rest (frame_of q atoms spots) z w r inside) ∙ sym (ap columns picked.2) ∙ g) }

  need_met : (c : CondTree) (k : Case) → Met z c k → wants spots c k ≡ true → digits.IsMet (need_of (2 ^ q.sets) (emptied q.sets atoms) c) columns
  need_met (t.equal_set a b) False m e = wanted (t.equal_set a b) agree a b (λ r. refl) (m.truth false refl) (ap (λ s. classes_differ s (t.equal_set a b)) at ∙ not-true (classes_differ spots (t.equal_set a b)) e)
  need_met (t.within a b) False m e = wanted (t.within a b) implied a b (λ r. refl) (m.truth false refl) (ap (λ s. classes_differ s (t.within a b)) at ∙ not-true (classes_differ spots (t.within a b)) e)
  need_met (t.equal_set a b) Open m e = cc
  need_met (t.equal_set a b) True m e = cc
  need_met (t.equal_set a b) Greater m e = cc
  need_met (t.equal_set a b) (Remainder j) m e = cc
  need_met (t.within a b) Open m e = cc
  need_met (t.within a b) True m e = cc
  need_met (t.within a b) Greater m e = cc
  need_met (t.within a b) (Remainder j) m e = cc
  need_met t.yes k m e = cc
  need_met t.no k m e = cc
  need_met (t.flag f) k m e = cc
  need_met (t.same_element i j) k m e = cc
  need_met (t.member i s) k m e = cc
  need_met (t.equal_num a b) k m e = cc
  need_met (t.less_num a b) k m e = cc
  need_met (t.divides d a) k m e = cc
  need_met (t.negation a) k m e = cc
  need_met (t.and a b) k m e = cc
  need_met (t.or a b) k m e = cc
  need_met (t.implies a b) k m e = cc
  need_met (t.iff a b) k m e = cc

  pub needs-met : (rest : List Atom) → AllMet z rest → NeedsMet (2 ^ q.sets) (emptied q.sets atoms) spots columns rest
  needs-met [] m = tt
  needs-met (a ∷ rest) m = (need_met (cond_tree a.cond.now) a.case m.0, needs-met rest m.1)

-- nothing is hopeless that sizes meet
flag_met : (z : Sizing) (atoms : List Atom) (f : ℕ) → AllMet z atoms → flag_chosen atoms f ≡ true → holds z (t.flag f) ≡ true
flag_met z [] f m e = cc
flag_met z (a ∷ rest) f m e =
    elim (or_cases (is_chosen_flag f (cond_tree a.cond.now) a.case) (flag_chosen rest f) e) [
      | inl g ↦ one (cond_tree a.cond.now) a.case m.0 g
      | inr g ↦ flag_met z rest f m.1 g
    ]
  where
    one : (c : CondTree) (k : Case) → Met z c k → is_chosen_flag f c k ≡ true → holds z (t.flag f) ≡ true
    one (t.flag g) True m e = ap (λ n. holds z (t.flag n)) (sym (eqb-true g f e)) ∙ m.truth true refl
    one (t.flag g) Open m e = cc
    one (t.flag g) False m e = cc
    one (t.flag g) Greater m e = cc
    one (t.flag g) (Remainder j) m e = cc
    one t.yes k m e = cc
    one t.no k m e = cc
    one (t.same_element i j) k m e = cc
    one (t.member i s) k m e = cc
    one (t.equal_set a b) k m e = cc
    one (t.within a b) k m e = cc
    one (t.equal_num a b) k m e = cc
    one (t.less_num a b) k m e = cc
    one (t.divides d a) k m e = cc
    one (t.negation a) k m e = cc
    one (t.and a b) k m e = cc
    one (t.or a b) k m e = cc
    one (t.implies a b) k m e = cc
    one (t.iff a b) k m e = cc

nowhere_differs : (n : ℕ) → any_below n (λ i. false) ≡ false
nowhere_differs zero = refl
nowhere_differs (suc n) = ap (λ b. b || false) (nowhere_differs n)

-- the classes of a set atom that is true don't differ
pub classes-agree : (z : Sizing) (c : CondTree) → holds z c ≡ true → classes_differ z.spots c ≡ false
classes-agree z (t.equal_set a b) e = set-classes z agree a b e
classes-agree z (t.within a b) e = set-classes z implied a b e
classes-agree z t.yes e = nowhere_differs (length z.spots)
classes-agree z t.no e = nowhere_differs (length z.spots)
classes-agree z (t.flag f) e = nowhere_differs (length z.spots)
classes-agree z (t.same_element i j) e = nowhere_differs (length z.spots)
classes-agree z (t.member i s) e = nowhere_differs (length z.spots)
classes-agree z (t.equal_num a b) e = nowhere_differs (length z.spots)
classes-agree z (t.less_num a b) e = nowhere_differs (length z.spots)
classes-agree z (t.divides d a) e = nowhere_differs (length z.spots)
classes-agree z (t.negation a) e = nowhere_differs (length z.spots)
classes-agree z (t.and a b) e = nowhere_differs (length z.spots)
classes-agree z (t.or a b) e = nowhere_differs (length z.spots)
classes-agree z (t.implies a b) e = nowhere_differs (length z.spots)
classes-agree z (t.iff a b) e = nowhere_differs (length z.spots)

contrary : (z : Sizing) (atoms : List Atom) (c : CondTree) → AllMet z atoms → holds z c ≡ false → is_contrary atoms c ≡ false
contrary z atoms (t.flag f) m e = elim (sure (flag_chosen atoms f)) [
  | inl g ↦ absurd (true≢false (sym (flag_met z atoms f m g) ∙ e))
  | inr g ↦ g
]
contrary z atoms t.yes m e = refl
contrary z atoms t.no m e = refl
contrary z atoms (t.same_element i j) m e = refl
contrary z atoms (t.member i s) m e = refl
contrary z atoms (t.equal_set a b) m e = refl
contrary z atoms (t.within a b) m e = refl
contrary z atoms (t.equal_num a b) m e = refl
contrary z atoms (t.less_num a b) m e = refl
contrary z atoms (t.divides d a) m e = refl
contrary z atoms (t.negation a) m e = refl
contrary z atoms (t.and a b) m e = refl
contrary z atoms (t.or a b) m e = refl
contrary z atoms (t.implies a b) m e = refl
contrary z atoms (t.iff a b) m e = refl

against : (z : Sizing) (atoms : List Atom) (c : CondTree) (k : Case) → AllMet z atoms → Met z c k → is_against atoms z.spots c k ≡ false
against z atoms c Open all m = refl
against z atoms c True all m = classes-agree z c (m.truth true refl)
against z atoms c False all m = contrary z atoms c all (m.truth false refl)
against z atoms c Greater all m = refl
against z atoms c (Remainder j) all m = refl

pub hopeful : (z : Sizing) (atoms : List Atom) (spots : List Spot) (c : CondTree) (k : Case) → z.spots ≡ spots → AllMet z atoms → Met z c k → is_hopeless atoms spots c k ≡ false
hopeful z atoms spots c k at all m = λ i. not (m.suits i) || (ap (λ s. is_against atoms s c k) (sym at) ∙ against z atoms c k all m) i

pub all-hopeful : (z : Sizing) (atoms : List Atom) (spots : List Spot) (rest : List Atom) → z.spots ≡ spots → AllMet z atoms → AllMet z rest → list_any (λ a. is_hopeless atoms spots (cond_tree a.cond.now) a.case) rest ≡ false
all-hopeful z atoms spots [] at all m = refl
all-hopeful z atoms spots (a ∷ rest) at all m = λ i. hopeful z atoms spots (cond_tree a.cond.now) a.case at all m.0 i || all-hopeful z atoms spots rest at all m.1 i
