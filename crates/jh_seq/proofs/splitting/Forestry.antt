-- Fields are the edges of a forest exactly where its goals are true, and so splitting may go on with these.
use Rattle.std.proofs.Common.{◌≡◌, refl, sym, ap, ◌∙◌, ℕ, zero, suc, ◌<◌, ◌==◌, nat_lt, arith, length, Bool, true, false, not, ◌&&◌, ◌||◌, List, [], ◌∷◌, ◌++◌, Option}
use Rattle.std.proofs.lemmas.Bool.{true≢false}
use Rattle.std.proofs.lemmas.Bool.Decides.{nat_tests}
use Rattle.std.specs.List.{flat_map, list_all}
use Rattle.jh_name.specs.declared.naming.Name.{Name}
use Rattle.jh_name.specs.declared.place.MethodId.{MethodId}
use Rattle.jh_form.specs.declared.mark.Mark.{Mark}
use Rattle.jh_form.specs.Tree.{FormulaTree, FieldTree, FieldTrees}
use Rattle.jh_form.specs.Tree as t
use Rattle.jh_form.specs.Passing.{term_passes, field_passes, formula_passes, fields_passes}
use Rattle.jh_form.specs.Meaning.{Interp, Fields, InUniverse, all_below, every, edge, reaches, no_cycle, no_sharing, truth, field_value, fields_value}
use Rattle.jh_form.proofs.ClosedLemmas.{both-left, both-right}
use Rattle.jh_wp.specs.jh_boxed.Mapped.{mapped_field, mapped_fields}
use Rattle.jh_seq.specs.sequent.Sequents.{HypTree, AllTrue}
use Rattle.jh_seq.specs.splitting.Forests.{no_cycle_at, one_source, apart, no_cycles, one_sources, apart_from, all_apart, forest_goals}
use Rattle.jh_seq.specs.splitting.Laws.{AllValid}
use Rattle.jh_seq.specs.splitting.Split.{closing, split_over, whole_forest, split_forest, before}
use Rattle.jh_seq.proofs.splitting.Closings.{values, truth-closed_by, field-closed, fields-closed}
use Rattle.jh_seq.proofs.splitting.Connectives.{all-at, all-made, valid-left, valid-right, valid-both}
use Rattle.jh_seq.proofs.splitting.Agreements.{AllHang}
use Rattle.jh_seq.proofs.splitting.Passings.{fields-passing, closing-passes}
use Rattle.jh_seq.proofs.splitting.Splitting.{ForestSound, ForestComplete, split-sound, split-complete}

-- all formulas of a list are true
abbrev AllHold : Interp → List FormulaTree → Type 0
AllHold m [] = Unit {0}
AllHold m (g ∷ gs) = (truth g m [] ≡ true) × AllHold m gs

hold-left : (m : Interp) (gs hs : List FormulaTree) → AllHold m (gs ++ hs) → AllHold m gs
hold-left m [] hs h = tt
hold-left m (g ∷ gs) hs h = (h.0, hold-left m gs hs h.1)

hold-right : (m : Interp) (gs hs : List FormulaTree) → AllHold m (gs ++ hs) → AllHold m hs
hold-right m [] hs h = h
hold-right m (g ∷ gs) hs h = hold-right m gs hs h.1

hold-both : (m : Interp) (gs hs : List FormulaTree) → AllHold m gs → AllHold m hs → AllHold m (gs ++ hs)
hold-both m [] hs h k = k
hold-both m (g ∷ gs) hs h k = (h.0, hold-both m gs hs h.1 k)

-- connectives
cycle-made : (z q l : Bool) → (not (not z) || q) ≡ true → (z || l) ≡ true → (z || (q && l)) ≡ true
cycle-made true q l h k = refl
cycle-made false true l h k = k
cycle-made false false l h k = absurd (true≢false (sym h))

cycle-first : (z q l : Bool) → (z || (q && l)) ≡ true → (not (not z) || q) ≡ true
cycle-first true q l h = refl
cycle-first false true l h = refl
cycle-first false false l h = absurd (true≢false (sym h))

cycle-rest : (z q l : Bool) → (z || (q && l)) ≡ true → (z || l) ≡ true
cycle-rest true q l h = refl
cycle-rest false true l h = h
cycle-rest false false l h = absurd (true≢false (sym h))

or-true : (z : Bool) → (z || true) ≡ true
or-true true = refl
or-true false = refl

to-one : (p e q r : Bool) → ((p && e) || not q || r) ≡ true → (not (q && not r) || p) ≡ true
to-one p e true true h = refl
to-one p e false r h = refl
to-one true e true false h = refl
to-one false e true false h = absurd (true≢false (sym h))

from-one : (p e q r : Bool) → e ≡ true → (not (q && not r) || p) ≡ true → ((p && e) || not q || r) ≡ true
from-one p false q r s h = absurd (true≢false (sym s))
from-one true true q r s h = refl
from-one false true true true s h = refl
from-one false true true false s h = absurd (true≢false (sym h))
from-one false true false r s h = refl

to-apart : (p e q r : Bool) → e ≡ false → ((p && e) || not q || r) ≡ true → (not q || r) ≡ true
to-apart p true q r s h = absurd (true≢false s)
to-apart true false q r s h = h
to-apart false false q r s h = h

from-apart : (p q r : Bool) → (not q || r) ≡ true → (p || not q || r) ≡ true
from-apart true true r h = refl
from-apart true false r h = refl
from-apart false q r h = h

turned : (a b : ℕ) → (not (b == a) || b == 0) ≡ true → (not (a == b) || a == 0) ≡ true
turned a b h = grind (arith, nat_tests)

alike : (i : ℕ) → (i == i) ≡ true
alike i = grind (arith, nat_tests)

unlike : (i j : ℕ) → i < j → (i == j) ≡ false
unlike i j lt = grind (arith, nat_tests)

module _ (ws : List Name) (m : Interp) where
  -- the value of a field, and the field without the variables of binders
  abbrev value : FieldTree → Fields
  value f = field_value f m (values m ws)

  abbrev shut : FieldTree → FieldTree
  shut f = mapped_field f (closing ws) 0

  abbrev all_values : FieldTrees → List Fields
  all_values fs = fields_value fs m (values m ws)

  abbrev all_shut : FieldTrees → FieldTrees
  all_shut fs = mapped_fields fs (closing ws) 0

  truth-no_cycle : (fs : FieldTrees) (f : FieldTree) →
      truth (no_cycle_at (all_shut fs) (shut f)) m [] ≡ every m.last (λ x. not (not (x == 0)) || not (reaches m.last (all_values fs) ((value f).objects x) x))
  truth-no_cycle fs f = λ i. every m.last (λ x. not (not (x == 0)) || not (reaches m.last (fields-closed ws m fs (x ∷ []) i) ((field-closed ws m f (x ∷ []) i).objects x) x))

  truth-one_source : (f : FieldTree) →
      truth (one_source (shut f)) m [] ≡ every m.last (λ x. every m.last (λ y. not ((value f).objects x == (value f).objects y && not ((value f).objects x == 0)) || x == y))
  truth-one_source f = λ i. every m.last (λ x. every m.last (λ y.
      not ((field-closed ws m f (y ∷ x ∷ []) i).objects x == (field-closed ws m f (y ∷ x ∷ []) i).objects y && not ((field-closed ws m f (y ∷ x ∷ []) i).objects x == 0)) || x == y))

  truth-apart : (f g : FieldTree) →
      truth (apart (shut f) (shut g)) m [] ≡ every m.last (λ x. every m.last (λ y. not ((value f).objects x == (value g).objects y) || (value f).objects x == 0))
  truth-apart f g = λ i. every m.last (λ x. every m.last (λ y.
      not ((field-closed ws m f (y ∷ x ∷ []) i).objects x == (field-closed ws m g (y ∷ x ∷ []) i).objects y) || (field-closed ws m f (y ∷ x ∷ []) i).objects x == 0))

  -- no cycle
  abbrev free_of_cycles : FieldTrees → FieldTrees → ℕ → Bool
  free_of_cycles fs rest x = x == 0 || list_all (λ f. not (reaches m.last (all_values fs) (f.objects x) x)) (all_values rest)

  cycles-to : (fs rest : FieldTrees) → AllHold m (no_cycles (all_shut fs) (all_shut rest)) → every m.last (free_of_cycles fs rest) ≡ true
  unfolding mapped_fields
  cycles-to fs t.none h = all-made (suc m.last) (free_of_cycles fs t.none) (λ x lt. or-true (x == 0))
  cycles-to fs (t.more f rest) h = all-made (suc m.last) (free_of_cycles fs (t.more f rest)) (λ x lt.
      cycle-made (x == 0) (not (reaches m.last (all_values fs) ((value f).objects x) x)) (list_all (λ g. not (reaches m.last (all_values fs) (g.objects x) x)) (all_values rest))
      (all-at (suc m.last) (λ z. not (not (z == 0)) || not (reaches m.last (all_values fs) ((value f).objects z) z)) x (sym (truth-no_cycle fs f) ∙ h.0) lt)
      (all-at (suc m.last) (free_of_cycles fs rest) x (cycles-to fs rest h.1) lt))

  cycles-from : (fs rest : FieldTrees) → ((x : ℕ) → x < suc m.last → free_of_cycles fs rest x ≡ true) → AllHold m (no_cycles (all_shut fs) (all_shut rest))
  unfolding mapped_fields
  cycles-from fs t.none h = tt
  cycles-from fs (t.more f rest) h = (
    truth-no_cycle fs f ∙ all-made (suc m.last) (λ z. not (not (z == 0)) || not (reaches m.last (all_values fs) ((value f).objects z) z)) (λ x lt.
        cycle-first (x == 0) (not (reaches m.last (all_values fs) ((value f).objects x) x)) (list_all (λ g. not (reaches m.last (all_values fs) (g.objects x) x)) (all_values rest)) (h x lt)),
    cycles-from fs rest (λ x lt.
        cycle-rest (x == 0) (not (reaches m.last (all_values fs) ((value f).objects x) x)) (list_all (λ g. not (reaches m.last (all_values fs) (g.objects x) x)) (all_values rest)) (h x lt)),
  )

  -- one source
  abbrev has_one_source : FieldTrees → ℕ → ℕ → ℕ → Bool
  has_one_source fs i x y = not (edge (all_values fs) i x == edge (all_values fs) i y && not (edge (all_values fs) i x == 0)) || x == y

  abbrev InRange : ℕ → Type 0
  InRange x = x < suc m.last

  sources-to : (fs : FieldTrees) (i x y : ℕ) → AllHold m (one_sources (all_shut fs)) → i < length (all_values fs) → InRange x → InRange y → has_one_source fs i x y ≡ true
  unfolding mapped_fields
  sources-to t.none i x y h lt u v = absurd (omega arith)
  sources-to (t.more f fs) zero x y h lt u v =
      all-at (suc m.last) (λ b. not ((value f).objects x == (value f).objects b && not ((value f).objects x == 0)) || x == b) y
      (all-at (suc m.last) (λ a. every m.last (λ b. not ((value f).objects a == (value f).objects b && not ((value f).objects a == 0)) || a == b)) x (sym (truth-one_source f) ∙ h.0) u) v
  sources-to (t.more f fs) (suc i) x y h lt u v = sources-to fs i x y h.1 (omega arith) u v

  sources-from : (fs : FieldTrees) → ((i x y : ℕ) → i < length (all_values fs) → InRange x → InRange y → has_one_source fs i x y ≡ true) → AllHold m (one_sources (all_shut fs))
  unfolding mapped_fields
  sources-from t.none h = tt
  sources-from (t.more f fs) h = (
    truth-one_source f
        ∙ all-made (suc m.last) (λ a. every m.last (λ b. not ((value f).objects a == (value f).objects b && not ((value f).objects a == 0)) || a == b)) (λ x u.
        all-made (suc m.last) (λ b. not ((value f).objects x == (value f).objects b && not ((value f).objects x == 0)) || x == b) (λ y v. h 0 x y (omega arith) u v)),
    sources-from fs (λ i x y lt u v. h (suc i) x y (omega arith) u v),
  )

  -- apart
  abbrev is_apart : (ℕ → ℕ) → FieldTrees → ℕ → ℕ → ℕ → Bool
  is_apart f fs j x y = not (f x == edge (all_values fs) j y) || f x == 0

  apart-to : (f : FieldTree) (fs : FieldTrees) (j x y : ℕ) → AllHold m (apart_from (shut f) (all_shut fs)) → j < length (all_values fs) → InRange x → InRange y → is_apart (value f).objects fs j x y ≡ true
  unfolding mapped_fields
  apart-to f t.none j x y h lt u v = absurd (omega arith)
  apart-to f (t.more g fs) zero x y h lt u v =
      all-at (suc m.last) (λ b. not ((value f).objects x == (value g).objects b) || (value f).objects x == 0) y
      (all-at (suc m.last) (λ a. every m.last (λ b. not ((value f).objects a == (value g).objects b) || (value f).objects a == 0)) x (sym (truth-apart f g) ∙ h.0) u) v
  apart-to f (t.more g fs) (suc j) x y h lt u v = apart-to f fs j x y h.1 (omega arith) u v

  apart-made : (f : FieldTree) (fs : FieldTrees) → ((j x y : ℕ) → j < length (all_values fs) → InRange x → InRange y → is_apart (value f).objects fs j x y ≡ true) → AllHold m (apart_from (shut f) (all_shut fs))
  unfolding mapped_fields
  apart-made f t.none h = tt
  apart-made f (t.more g fs) h = (
    truth-apart f g
        ∙ all-made (suc m.last) (λ a. every m.last (λ b. not ((value f).objects a == (value g).objects b) || (value f).objects a == 0)) (λ x u.
        all-made (suc m.last) (λ b. not ((value f).objects x == (value g).objects b) || (value f).objects x == 0) (λ y v. h 0 x y (omega arith) u v)),
    apart-made f fs (λ j x y lt u v. h (suc j) x y (omega arith) u v),
  )

  all-apart-to : (fs : FieldTrees) (i j x y : ℕ) → AllHold m (all_apart (all_shut fs)) → i < j → j < length (all_values fs) → InRange x → InRange y → is_apart (edge (all_values fs) i) fs j x y ≡ true
  unfolding mapped_fields
  all-apart-to t.none i j x y h less lt u v = absurd (omega arith)
  all-apart-to (t.more f fs) i zero x y h less lt u v = absurd (omega arith)
  all-apart-to (t.more f fs) zero (suc j) x y h less lt u v = apart-to f fs j x y (hold-left m (apart_from (shut f) (all_shut fs)) (all_apart (all_shut fs)) h) (omega arith) u v
  all-apart-to (t.more f fs) (suc i) (suc j) x y h less lt u v = all-apart-to fs i j x y (hold-right m (apart_from (shut f) (all_shut fs)) (all_apart (all_shut fs)) h) (omega arith) (omega arith) u v

  all-apart-from : (fs : FieldTrees) → ((i j x y : ℕ) → i < j → j < length (all_values fs) → InRange x → InRange y → is_apart (edge (all_values fs) i) fs j x y ≡ true) → AllHold m (all_apart (all_shut fs))
  unfolding mapped_fields
  all-apart-from t.none h = tt
  all-apart-from (t.more f fs) h =
      hold-both m (apart_from (shut f) (all_shut fs)) (all_apart (all_shut fs))
      (apart-made f fs (λ j x y lt u v. h 0 (suc j) x y (omega arith) (omega arith) u v))
      (all-apart-from fs (λ i j x y less lt u v. h (suc i) (suc j) x y (omega arith) (omega arith) u v))

  -- no sharing
  abbrev unshared : FieldTrees → ℕ → ℕ → ℕ → ℕ → Bool
  unshared fs x y i j = (x == y && i == j) || not (edge (all_values fs) i x == edge (all_values fs) j y) || edge (all_values fs) i x == 0

  sharing-at : (fs : FieldTrees) (x y i j : ℕ) → no_sharing m.last (all_values fs) ≡ true → InRange x → InRange y → i < length (all_values fs) → j < length (all_values fs) → unshared fs x y i j ≡ true
  sharing-at fs x y i j h u v li lj =
      let n = length (all_values fs) in
      all-at n (λ d. unshared fs x y i d) j
      (all-at n (λ c. all_below n (λ d. unshared fs x y c d)) i
      (all-at (suc m.last) (λ b. all_below n (λ c. all_below n (λ d. unshared fs x b c d))) y
      (all-at (suc m.last) (λ a. every m.last (λ b. all_below n (λ c. all_below n (λ d. unshared fs a b c d)))) x h u) v) li) lj

  unshared-made : (fs : FieldTrees) (x y i j : ℕ) → AllHold m (one_sources (all_shut fs)) → AllHold m (all_apart (all_shut fs)) → InRange x → InRange y → i < length (all_values fs) → j < length (all_values fs) → unshared fs x y i j ≡ true
  unshared-made fs x y i j one two u v li lj = by (nat_lt i j) (nat_lt j i) refl refl
    where
      by : (less more : Bool) → nat_lt i j ≡ less → nat_lt j i ≡ more → unshared fs x y i j ≡ true
      by true more p q =
          from-apart (x == y && i == j) (edge (all_values fs) i x == edge (all_values fs) j y) (edge (all_values fs) i x == 0) (all-apart-to fs i j x y two (grind (arith, nat_tests)) lj u v)
      by false true p q =
          from-apart (x == y && i == j) (edge (all_values fs) i x == edge (all_values fs) j y) (edge (all_values fs) i x == 0)
          (turned (edge (all_values fs) i x) (edge (all_values fs) j y) (all-apart-to fs j i y x two (grind (arith, nat_tests)) li v u))
      by false false p q =
          let same : i ≡ j = grind (arith, nat_tests) in
          from-one (x == y) (i == j) (edge (all_values fs) i x == edge (all_values fs) j y) (edge (all_values fs) i x == 0) (ap (λ k. i == k) (sym same) ∙ alike i)
          (ap (λ k. not (edge (all_values fs) i x == edge (all_values fs) k y && not (edge (all_values fs) i x == 0)) || x == y) (sym same) ∙ sources-to fs i x y one li u v)

  sharing-to : (fs : FieldTrees) → AllHold m (one_sources (all_shut fs)) → AllHold m (all_apart (all_shut fs)) → no_sharing m.last (all_values fs) ≡ true
  sharing-to fs one two =
      let n = length (all_values fs) in
      all-made (suc m.last) (λ a. every m.last (λ b. all_below n (λ c. all_below n (λ d. unshared fs a b c d)))) (λ x u.
      all-made (suc m.last) (λ b. all_below n (λ c. all_below n (λ d. unshared fs x b c d))) (λ y v.
      all-made n (λ c. all_below n (λ d. unshared fs x y c d)) (λ i li.
      all-made n (λ d. unshared fs x y i d) (λ j lj. unshared-made fs x y i j one two u v li lj))))

  -- the goals of a forest
  pub forest-made : (fs : FieldTrees) → AllHold m (forest_goals (all_shut fs)) → truth (t.tree fs) m (values m ws) ≡ true
  forest-made fs h =
      let goals = no_cycles (all_shut fs) (all_shut fs) in
      let rest = hold-right m goals (one_sources (all_shut fs) ++ all_apart (all_shut fs)) h in
      λ i. cycles-to fs fs (hold-left m goals (one_sources (all_shut fs) ++ all_apart (all_shut fs)) h) i
      && sharing-to fs (hold-left m (one_sources (all_shut fs)) (all_apart (all_shut fs)) rest) (hold-right m (one_sources (all_shut fs)) (all_apart (all_shut fs)) rest) i

  pub forest-taken : (fs : FieldTrees) → truth (t.tree fs) m (values m ws) ≡ true → AllHold m (forest_goals (all_shut fs))
  forest-taken fs h =
      let cycles = both-left (no_cycle m.last (all_values fs)) (no_sharing m.last (all_values fs)) h in
      let sharing = both-right (no_cycle m.last (all_values fs)) (no_sharing m.last (all_values fs)) h in
      hold-both m (no_cycles (all_shut fs) (all_shut fs)) (one_sources (all_shut fs) ++ all_apart (all_shut fs))
      (cycles-from fs fs (λ x lt. all-at (suc m.last) (free_of_cycles fs fs) x cycles lt))
      (hold-both m (one_sources (all_shut fs)) (all_apart (all_shut fs))
      (sources-from fs (λ i x y lt u v.
      to-one (x == y) (i == i) (edge (all_values fs) i x == edge (all_values fs) i y) (edge (all_values fs) i x == 0) (sharing-at fs x y i i sharing u v lt lt)))
      (all-apart-from fs (λ i j x y less lt u v.
      to-apart (x == y) (i == j) (edge (all_values fs) i x == edge (all_values fs) j y) (edge (all_values fs) i x == 0) (unlike i j less) (sharing-at fs x y i j sharing u v (omega (arith, less, lt)) lt))))

-- where the names of the fields come before a number, those of the goals do
module _ (k : ℕ) where
  abbrev AllPassing : List FormulaTree → Type 0
  AllPassing [] = Unit {0}
  AllPassing (g ∷ gs) = (formula_passes g (before k) ≡ true) × AllPassing gs

  passing-both : (gs hs : List FormulaTree) → AllPassing gs → AllPassing hs → AllPassing (gs ++ hs)
  passing-both [] hs h l = l
  passing-both (g ∷ gs) hs h l = (h.0, passing-both gs hs h.1 l)

  no_cycles-pass : (fs rest : FieldTrees) → fields_passes fs (before k) ≡ true → fields_passes rest (before k) ≡ true → AllPassing (no_cycles fs rest)
  unfolding formula_passes fields_passes term_passes
  no_cycles-pass fs t.none p q = tt
  no_cycles-pass fs (t.more f rest) p q =
      let first = both-left (field_passes f (before k)) (fields_passes rest (before k)) q in
      ((λ i. p i && (first i && true) && true), no_cycles-pass fs rest p (both-right (field_passes f (before k)) (fields_passes rest (before k)) q))

  one_sources-pass : (fs : FieldTrees) → fields_passes fs (before k) ≡ true → AllPassing (one_sources fs)
  unfolding formula_passes fields_passes term_passes
  one_sources-pass t.none q = tt
  one_sources-pass (t.more f fs) q =
      let first = both-left (field_passes f (before k)) (fields_passes fs (before k)) q in
      ((λ i. (((first i && true) && (first i && true)) && ((first i && true) && true)) && true), one_sources-pass fs (both-right (field_passes f (before k)) (fields_passes fs (before k)) q))

  apart_from-pass : (f : FieldTree) (fs : FieldTrees) → field_passes f (before k) ≡ true → fields_passes fs (before k) ≡ true → AllPassing (apart_from f fs)
  unfolding formula_passes fields_passes term_passes
  apart_from-pass f t.none p q = tt
  apart_from-pass f (t.more g fs) p q =
      let first = both-left (field_passes g (before k)) (fields_passes fs (before k)) q in
      ((λ i. ((p i && true) && (first i && true)) && ((p i && true) && true)), apart_from-pass f fs p (both-right (field_passes g (before k)) (fields_passes fs (before k)) q))

  all_apart-pass : (fs : FieldTrees) → fields_passes fs (before k) ≡ true → AllPassing (all_apart fs)
  unfolding fields_passes
  all_apart-pass t.none q = tt
  all_apart-pass (t.more f fs) q =
      let first = both-left (field_passes f (before k)) (fields_passes fs (before k)) q in
      let rest = both-right (field_passes f (before k)) (fields_passes fs (before k)) q in
      passing-both (apart_from f fs) (all_apart fs) (apart_from-pass f fs first rest) (all_apart-pass fs rest)

  goals-pass : (fs : FieldTrees) → fields_passes fs (before k) ≡ true → AllPassing (forest_goals fs)
  goals-pass fs q = passing-both (no_cycles fs fs) (one_sources fs ++ all_apart fs) (no_cycles-pass fs fs q q) (passing-both (one_sources fs) (all_apart fs) (one_sources-pass fs q) (all_apart-pass fs q))

-- a goal `tree` that isn't split
whole-sound : (method : MethodId) (j : ℕ) → ForestSound whole_forest method j
unfolding mapped_fields
whole-sound method j = λ fs mark hs ws k le passes hang wb valid m u h. sym (truth-closed_by ws m (t.tree fs)) ∙ valid.0 m u h

whole-complete : (method : MethodId) → ForestComplete whole_forest method
unfolding mapped_fields
whole-complete method = λ fs mark hs ws k goal. (λ m u h. truth-closed_by ws m (t.tree fs) ∙ goal m u h, tt)

module _ (method : MethodId) (mark : Option Mark) (hs : List HypTree) (k : ℕ) where
  goals-sound : (gs : List FormulaTree) → AllPassing k gs → AllHang k hs → AllValid (flat_map (λ a. split_over whole_forest a method mark hs [] k) gs) → (m : Interp) → InUniverse m → AllTrue hs m → AllHold m gs
  goals-sound [] p hang valid m u h = tt
  goals-sound (g ∷ gs) p hang valid m u h =
      let first = split_over whole_forest g method mark hs [] k in
      let rest = flat_map (λ a. split_over whole_forest a method mark hs [] k) gs in (
        split-sound whole_forest method k (whole-sound method k) g mark hs [] k (omega arith) p.0 hang tt (valid-left first rest valid) m u h,
        goals-sound gs p.1 hang (valid-right first rest valid) m u h,
      )

  goals-complete : (gs : List FormulaTree) → ((m : Interp) → InUniverse m → AllTrue hs m → AllHold m gs) → AllValid (flat_map (λ a. split_over whole_forest a method mark hs [] k) gs)
  goals-complete [] h = tt
  goals-complete (g ∷ gs) h =
      valid-both (split_over whole_forest g method mark hs [] k) (flat_map (λ a. split_over whole_forest a method mark hs [] k) gs)
      (split-complete whole_forest method (whole-complete method) g mark hs [] k (λ m u e. (h m u e).0))
      (goals-complete gs (λ m u e. (h m u e).1))

pub forest-sound : (method : MethodId) (j : ℕ) → ForestSound split_forest method j
unfolding formula_passes
forest-sound method j = λ fs mark hs ws k le passes hang wb valid m u h.
    forest-made ws m fs (goals-sound method mark hs k (forest_goals (mapped_fields fs (closing ws) 0))
    (goals-pass k (mapped_fields fs (closing ws) 0) (fields-passing (closing ws) (before j) (before k) (closing-passes j k le ws wb) fs 0 passes)) hang valid m u h)

pub forest-complete : (method : MethodId) → ForestComplete split_forest method
forest-complete method = λ fs mark hs ws k goal.
    goals-complete method mark hs k (forest_goals (mapped_fields fs (closing ws) 0)) (λ m u h. forest-taken ws m fs (goal m u h))
