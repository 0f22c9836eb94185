-- Gathering the atoms of instances.
use Rattle.std.proofs.Common.{◌≡◌, refl, sym, ap, ◌∙◌, subst, ℕ, zero, suc, ◌+◌, ◌<◌, ◌≤◌, ◌==◌, if◌then◌else◌, arith, List, [], ◌∷◌, ◌++◌, ◌⊎◌, inl, inr, Some, length, slice_get}
use Rattle.std.proofs.lemmas.Bool.{cases_lt}
use Rattle.std.proofs.lemmas.Bool.Decides.{eqb_tells}
use Rattle.std.proofs.lemmas.Option.{slice_get_within}
use Rattle.std.specs.declared.alloc.Global.{Global}
use Rattle.std.specs.declared.vec.Vec.{Vec}
use Rattle.jh_form.specs.Tree.{FormulaTree, ValueTree}
use Rattle.jh_closure.specs.congruence_closure.Nodes.{Has}
use Rattle.jh_closure.specs.congruence_closure.Uses.{row}
use Rattle.jh_closure.proofs.congruence_closure.Having.{has-at, has-pushed, has-last, has-left}
use Rattle.jh_arena.specs.table.Growth.{AreDifferent}
use Rattle.jh_models.specs.ground_models.Atoms.{atoms_of, ground_atoms, StandsIn, IsGroundAtom}
use Rattle.jh_propagation.specs.trail.Saying.{truth_at, truths_at, IsTruth}
use Rattle.jh_propagation.specs.trail.Occurring.{places_in, lists_in, AreOccurrences, AreGathered, IsNoted, HasNode, AreAdded, AreBegun}
use Rattle.jh_propagation.proofs.trail.Connectives.{stands-left, stands-right, stands-either}
use Rattle.jh_propagation.proofs.trail.Formed.{some-is}
use Rattle.jh_propagation.proofs.trail.Listed.{one-truth}

abbrev pub Rows : Type 0
Rows = List (Vec ℕ Global)

-- nothing gathered
no-place : (rows : Rows) → ((r : ℕ) → row rows r ≡ []) → (k p : ℕ) → Has (row rows k) p → ⊥
no-place rows empty k p h = subst (λ xs. Has xs p) (empty k) h

pub gathered-none : (atoms : List ℕ) (rows : Rows) → atoms ≡ [] → ((r : ℕ) → row rows r ≡ []) → AreGathered atoms rows
gathered-none atoms rows none empty = record {
  listed = λ k h. absurd (subst (λ xs. Has xs k) none h);
  all = λ k p h. absurd (no-place rows empty k p h);
  once = λ i j x e f. absurd (let inside : i < length atoms = slice_get_within atoms i x e in let short : length atoms ≡ 0 = ap length none in omega (arith, inside, short));
}

pub begun-none : (ts : List ValueTree) (is : List ℕ) (rows : Rows) → ((r : ℕ) → row rows r ≡ []) → length rows ≡ length ts → AreBegun ts is 0 rows
begun-none ts is rows empty long = record {
  there = λ j n a lt e s. absurd (omega (arith, lt));
  only = λ k j h. absurd (no-place rows empty k j h);
  long = long;
}

before-or-last : (xs : List ℕ) (x i y : ℕ) → slice_get (xs ++ x ∷ []) i ≡ Some y → (slice_get xs i ≡ Some y) ⊎ ((i ≡ length xs) × (x ≡ y))
before-or-last [] x zero y e = inr (refl, some-is x y e)
before-or-last [] x (suc i) y e = absurd (cc)
before-or-last (z ∷ xs) x zero y e = inl e
before-or-last (z ∷ xs) x (suc i) y e = elim (before-or-last xs x i y e) [ inl a ↦ inl a | inr b ↦ inr (ap suc b.0, b.1) ]

-- one more that wasn't there
different-more : (xs : List ℕ) (x : ℕ) → AreDifferent xs → (Has xs x → ⊥) → AreDifferent (xs ++ x ∷ [])
different-more xs x once new i j y e f = elim (before-or-last xs x i y e) [
  | inl a ↦ elim (before-or-last xs x j y f) [
    | inl b ↦ once i j y a b
    | inr b ↦ absurd (new (has-at xs i x (a ∙ ap Some (sym b.1))))
  ]
  | inr a ↦ elim (before-or-last xs x j y f) [
    | inl b ↦ absurd (new (has-at xs j x (b ∙ ap Some (sym a.1))))
    | inr b ↦ a.0 ∙ sym b.0
  ]
]

-- a place is listed behind those of one node
module _ (old new : Rows) (atom place : ℕ) (added : (r : ℕ) → row new r ≡ (if r == atom then row old atom ++ place ∷ [] else row old r)) where
  at-atom : row new atom ≡ row old atom ++ place ∷ []
  at-atom = elim (eqb_tells atom atom) [ inl same ↦ added atom ∙ ap (λ b. if b then row old atom ++ place ∷ [] else row old atom) same.0 | inr other ↦ absurd (other.1 refl) ]

  keeps-places : (k p : ℕ) → Has (row old k) p → Has (row new k) p
  keeps-places k p h = elim (eqb_tells k atom) [
    | inl same ↦ subst (λ xs. Has xs p) (sym (ap (row new) same.1 ∙ at-atom)) (has-left (row old atom) (place ∷ []) p (subst (λ r. Has (row old r) p) same.1 h))
    | inr other ↦ subst (λ xs. Has xs p) (sym (added k ∙ ap (λ b. if b then row old atom ++ place ∷ [] else row old k) other.0)) h
  ]

  only-place : (k p : ℕ) → Has (row new k) p → Has (row old k) p ⊎ ((k ≡ atom) × (p ≡ place))
  only-place k p h = elim (eqb_tells k atom) [
    | inl same ↦ elim (has-pushed (row old atom) place p (subst (λ xs. Has xs p) (ap (row new) same.1 ∙ at-atom) h)) [
      | inl before ↦ inl (subst (λ r. Has (row old r) p) (sym same.1) before)
      | inr it ↦ inr (same.1, sym it)
    ]
    | inr other ↦ inl (subst (λ xs. Has xs p) (added k ∙ ap (λ b. if b then row old atom ++ place ∷ [] else row old k) other.0) h)
  ]

  pub noted-row : length new ≡ length old → IsNoted atom place old new
  noted-row long = record {
    keeps = keeps-places;
    here = subst (λ xs. Has xs place) (sym at-atom) (has-last (row old atom) place);
    only = only-place;
    long = long;
  }

  -- the atom was there, or is added now
  pub gathered-more : (atoms more : List ℕ) → AreGathered atoms old → (more ≡ atoms) ⊎ ((row old atom ≡ []) × (more ≡ atoms ++ atom ∷ [])) → (row old atom ≡ [] → more ≡ atoms ++ atom ∷ []) → AreGathered more new
  gathered-more atoms more g (inl same) always = record {
    listed = λ k h. let was = g.listed k (subst (λ xs. Has xs k) same h) in (was.0, keeps-places k was.0 was.1);
    all = λ k p h. elim (only-place k p h) [
      | inl before ↦ subst (λ xs. Has xs k) (sym same) (g.all k p before)
      | inr it ↦ subst (λ z. Has more z) (sym it.0) (has-atom (row old atom) refl)
    ];
    once = subst AreDifferent (sym same) g.once;
  }
    where
      has-atom : (xs : List ℕ) → row old atom ≡ xs → Has more atom
      has-atom [] e = subst (λ ys. Has ys atom) (sym (always e)) (has-last atoms atom)
      has-atom (x ∷ xs) e = subst (λ ys. Has ys atom) (sym same) (g.all atom x (subst (λ ys. Has ys x) (sym e) (inl refl)))
  gathered-more atoms more g (inr added) always = record {
    listed = λ k h. elim (has-pushed atoms atom k (subst (λ xs. Has xs k) added.1 h)) [
      | inl before ↦ let was = g.listed k before in (was.0, keeps-places k was.0 was.1)
      | inr it ↦ (place, subst (λ z. Has (row new z) place) it (subst (λ xs. Has xs place) (sym at-atom) (has-last (row old atom) place)))
    ];
    all = λ k p h. elim (only-place k p h) [
      | inl before ↦ subst (λ xs. Has xs k) (sym added.1) (has-left atoms (atom ∷ []) k (g.all k p before))
      | inr it ↦ subst (λ xs. Has xs k) (sym added.1) (subst (λ z. Has (atoms ++ atom ∷ []) z) (sym it.0) (has-last atoms atom))
    ];
    once = subst AreDifferent (sym added.1) (different-more atoms atom g.once (λ h. let was = g.listed atom h in subst (λ xs. Has xs was.0) added.0 was.1));
  }

-- nothing new is noted where the place is listed already
pub noted-already : (rows : Rows) (atom place : ℕ) → Has (row rows atom) place → IsNoted atom place rows rows
noted-already rows atom place h = record { keeps = λ k p g. g; here = h; only = λ k p g. inl g; long = refl }

module _ (ts : List ValueTree) (place : ℕ) where
  pub added-none : (atoms : List FormulaTree) (rows : Rows) → atoms ≡ [] → AreAdded ts place atoms rows rows
  added-none atoms rows none = record {
    keeps = λ k p h. h;
    there = λ a s. absurd (subst (λ xs. StandsIn xs a) none s);
    only = λ k p h. inl h;
    long = refl;
  }

  pub added-one : (atoms : List FormulaTree) (old new : Rows) (k : ℕ) → atoms ≡ truth_at ts k ∷ [] → IsTruth ts k → IsNoted k place old new → AreAdded ts place atoms old new
  added-one atoms old new k one truth noted = record {
    keeps = noted.keeps;
    there = λ a s. elim (subst (λ xs. StandsIn xs a) one s) [
      | inl same ↦ record { node = k; truth = truth; is = same; there = noted.here }
      | inr none ↦ absurd none
    ];
    only = λ m p h. elim (noted.only m p h) [
      | inl before ↦ inl before
      | inr it ↦ inr (it.1, record { truth = subst (λ z. IsTruth ts z) (sym it.0) truth; stands = subst (λ xs. StandsIn xs (truth_at ts m)) (sym one) (inl (ap (truth_at ts) (sym it.0))) })
    ];
    long = noted.long;
  }

  node-later : (old new : Rows) (a : FormulaTree) → ((k p : ℕ) → Has (row old k) p → Has (row new k) p) → HasNode ts old place a → HasNode ts new place a
  node-later old new a keeps h = record { node = h.node; truth = h.truth; is = h.is; there = keeps h.node place h.there }

  pub added-both : (xs ys : List FormulaTree) (old mid new : Rows) → AreAdded ts place xs old mid → AreAdded ts place ys mid new → AreAdded ts place (xs ++ ys) old new
  added-both xs ys old mid new f g = record {
    keeps = λ k p h. g.keeps k p (f.keeps k p h);
    there = λ a s. elim (stands-either xs ys a s) [
      | inl left ↦ node-later mid new a g.keeps (f.there a left)
      | inr right ↦ g.there a right
    ];
    only = λ k p h. elim (g.only k p h) [
      | inl before ↦ elim (f.only k p before) [
        | inl first ↦ inl first
        | inr it ↦ inr (it.0, record { truth = it.1.truth; stands = stands-left xs ys (truth_at ts k) it.1.stands })
      ]
      | inr it ↦ inr (it.0, record { truth = it.1.truth; stands = stands-right xs ys (truth_at ts k) it.1.stands })
    ];
    long = g.long ∙ f.long;
  }

-- one more instance
module _ (ts : List ValueTree) (is : List ℕ) (count n : ℕ) (old new : Rows) where
  at-count : (j m : ℕ) → j ≡ count → slice_get is count ≡ Some n → slice_get is j ≡ Some m → n ≡ m
  at-count j m same at e = some-is n m (sym at ∙ (ap (slice_get is) (sym same) ∙ e))

  pub begun-more : AreBegun ts is count old → slice_get is count ≡ Some n → AreAdded ts count (atoms_of (truth_at ts n)) old new → AreBegun ts is (count + 1) new
  begun-more f at g = record {
    there = λ j m a lt e s. elim (below-or j lt) [
      | inl less ↦ later (f.there j m a less e s)
      | inr same ↦ here j (g.there a (subst (λ z. StandsIn (atoms_of (truth_at ts z)) a) (sym (at-count j m same at e)) s)) same
    ];
    only = λ k j h. elim (g.only k j h) [
      | inl before ↦ let was = f.only k j before in (let less : j < count = was.0 in omega (arith, less), was.1)
      | inr it ↦ (let same : j ≡ count = it.0 in omega (arith, same), (n, (ap (slice_get is) it.0 ∙ at, it.1)))
    ];
    long = g.long ∙ f.long;
  }
    where
      below-or : (j : ℕ) → j < count + 1 → (j < count) ⊎ (j ≡ count)
      below-or j lt = elim (cases_lt j count) [ inl less ↦ inl less | inr more ↦ inr (let from : count ≤ j = more in omega (arith, lt, from)) ]

      later : {j : ℕ} {a : FormulaTree} → HasNode ts old j a → HasNode ts new j a
      later {j = j} h = record { node = h.node; truth = h.truth; is = h.is; there = g.keeps h.node j h.there }

      here : {a : FormulaTree} (j : ℕ) → HasNode ts new count a → j ≡ count → HasNode ts new j a
      here j h same = record { node = h.node; truth = h.truth; is = h.is; there = subst (λ z. Has (row new h.node) z) (sym same) h.there }

-- the ground atoms of the instances
stands-ground : (ts : List ValueTree) (is : List ℕ) (j n : ℕ) (a : FormulaTree) → slice_get is j ≡ Some n → StandsIn (atoms_of (truth_at ts n)) a → IsGroundAtom (truths_at ts is) a
stands-ground ts [] j n a e s = absurd (let inside : j < 0 = slice_get_within [] j n e in omega (arith, inside))
stands-ground ts (i ∷ is) zero n a e s = stands-left (atoms_of (truth_at ts i)) (ground_atoms (truths_at ts is)) a (subst (λ z. StandsIn (atoms_of (truth_at ts z)) a) (sym (some-is i n e)) s)
stands-ground ts (i ∷ is) (suc j) n a e s = stands-right (atoms_of (truth_at ts i)) (ground_atoms (truths_at ts is)) a (stands-ground ts is j n a e s)

pub record InInstance (ts : List ValueTree) (is : List ℕ) (a : FormulaTree) : Type 0 where
  pub place : ℕ
  pub node : ℕ
  pub at : slice_get is place ≡ Some node
  pub stands : StandsIn (atoms_of (truth_at ts node)) a

ground-stands : (ts : List ValueTree) (is : List ℕ) (a : FormulaTree) → IsGroundAtom (truths_at ts is) a → InInstance ts is a
ground-stands ts [] a h = absurd h
ground-stands ts (i ∷ is) a h = elim (stands-either (atoms_of (truth_at ts i)) (ground_atoms (truths_at ts is)) a h) [
  | inl here ↦ record { place = zero; node = i; at = refl; stands = here }
  | inr later ↦ let rest = ground-stands ts is a later in record { place = suc rest.place; node = rest.node; at = rest.at; stands = rest.stands }
]

-- the lists of places, without their memory
pub listed-row : (atoms : List ℕ) (rows : Rows) (k : ℕ) → places_in (record { atoms = atoms; rows = lists_in rows }) k ≡ row rows k
listed-row atoms [] k = refl
listed-row atoms (v ∷ rows) zero = refl
listed-row atoms (v ∷ rows) (suc k) = listed-row atoms rows k

pub all-occurrences : (ts : List ValueTree) (is atoms : List ℕ) (rows : Rows) → AreDifferent ts → AreGathered atoms rows → AreBegun ts is (length is) rows → AreOccurrences ts is (record { atoms = atoms; rows = lists_in rows })
all-occurrences ts is atoms rows different g b = record {
  stand = λ k h. let was = g.listed k h in let from = (b.only k was.0 was.1).1 in stands-ground ts is was.0 from.0 (truth_at ts k) from.1.0 from.1.1.stands;
  all = λ a h. let in_one = ground-stands ts is a h in let found = b.there in_one.place in_one.node a (slice_get_within is in_one.place in_one.node in_one.at) in_one.at in_one.stands in (found.node, (g.all found.node in_one.place found.there, found.is));
  truths = λ k h. let was = g.listed k h in (b.only k was.0 was.1).1.1.1.truth;
  once = g.once;
  occur = λ j n k e truth s. let found = b.there j n (truth_at ts k) (slice_get_within is j n e) e s in subst (λ xs. Has xs j) (sym (listed-row atoms rows k)) (subst (λ z. Has (row rows z) j) (one-truth ts different found.node k found.truth truth found.is) found.there);
  inside = λ k j h. (b.only k j (subst (λ xs. Has xs j) (listed-row atoms rows k) h)).0;
}
