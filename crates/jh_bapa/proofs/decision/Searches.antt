-- What the search for sizes that refute a query goes through.
use Rattle.std.proofs.Common.{◌≡◌, refl, ℕ, zero, suc, ◌+◌, ◌*◌, ◌^◌, ◌<◌, ◌≤◌, ◌==◌, Bool, true, false, not, ◌&&◌, ◌||◌, if◌then◌else◌, List, [], ◌∷◌, ◌++◌, length, get_or, Option, Some, None, is_some, IfSome, IfNone, ap, sym, ◌∙◌, arith, ◌⊎◌, inl, inr, subst, slice_set}
use Rattle.std.specs.Prelude.{unsigned_abs}
use Rattle.std.specs.List.{list_all, list_any}
use Rattle.std.proofs.lemmas.Bool.{true≢false, cases_eq, ltb-true, lt-ltb}
use Rattle.jh_query.specs.declared.queries.sizes.Spot.{Spot}
use Rattle.jh_query.specs.queries.Bare.{cond_tree}
use Rattle.jh_query.specs.queries.Tree.{CondTree, QueryTree, SetExprTree}
use Rattle.jh_query.specs.queries.Tree as t
use Rattle.jh_query.specs.queries.Named.{IsWellFormed, Room, cond_named, room_of, set_named}
use Rattle.jh_query.specs.queries.Sizing.{Sizing}
use Rattle.jh_query.specs.queries.Truth.{query_true}
use Rattle.jh_query.specs.declared.partial_truth.casing.Atom.{Atom}
use Rattle.jh_query.specs.declared.partial_truth.casing.Case.{Case}
use Rattle.jh_query.specs.declared.partial_truth.casing.Case.TheVariants.{Open, True, False, Greater, Remainder}
use Rattle.jh_query.specs.partial_truth.Judged.{Agrees, TellsQuery, case_truth, names_below, query_told}
use Rattle.jh_bapa.specs.decision.Cases.{LineMet, Met, case_at, case_count, conds_of, is_hopeless, truth_case}
use Rattle.jh_bapa.specs.decision.Searching.{AllMet, IsCasing, IsLeft, IsPlacement, NoneLeft, is_open, open_count, with_case}
use Rattle.jh_bapa.specs.decision.Standing.{opens_at, stands}
use Rattle.jh_bapa.proofs.decision.Belows.{both, first, none_one, none_two, second, sure}
use Rattle.jh_bapa.proofs.decision.Covers.{covers}
use Rattle.jh_bapa.proofs.decision.Completing.{hopeful}
use Rattle.jh_bapa.proofs.decision.Fitness.{has-divisor}
use Rattle.jh_bapa.proofs.decision.Meeting.{agrees}
use Rattle.jh_bapa.proofs.decision.Systematic.{casing-named, left-spots}

-- giving an atom a case
pub set-case : (atoms : List Atom) (i : ℕ) (a : Atom) (k : Case) → i < length atoms → a ≡ get_or atoms i a → slice_set atoms i (record { cond = a.cond; case = k }) ≡ with_case atoms i k
set-case [] i a k h e = absurd (omega arith)
set-case (b ∷ rest) zero a k h e = λ j. (record { cond = (e j).cond; case = k }) ∷ rest
set-case (b ∷ rest) (suc i) a k h e = ap (λ xs. b ∷ xs) (set-case rest i a k (omega arith) e)

pub case-conds : (atoms : List Atom) (i : ℕ) (k : Case) → conds_of (with_case atoms i k) ≡ conds_of atoms
case-conds [] i k = refl
case-conds (a ∷ rest) zero k = refl
case-conds (a ∷ rest) (suc i) k = ap (λ xs. cond_tree a.cond.now ∷ xs) (case-conds rest i k)

pub case-length : (atoms : List Atom) (i : ℕ) (k : Case) → length (with_case atoms i k) ≡ length atoms
case-length [] i k = refl
case-length (a ∷ rest) zero k = refl
case-length (a ∷ rest) (suc i) k = ap suc (case-length rest i k)

pub case-again : (atoms : List Atom) (i : ℕ) (j k : Case) → with_case (with_case atoms i j) i k ≡ with_case atoms i k
case-again [] i j k = refl
case-again (a ∷ rest) zero j k = refl
case-again (a ∷ rest) (suc i) j k = ap (λ xs. a ∷ xs) (case-again rest i j k)

is_open_case : (k : Case) → is_open k ≡ true → Open ≡ k
is_open_case Open h = refl
is_open_case True h = cc
is_open_case False h = cc
is_open_case Greater h = cc
is_open_case (Remainder j) h = cc

-- an open atom is xs it is with the open case
pub case-open : (atoms : List Atom) (i : ℕ) → opens_at atoms i ≡ true → with_case atoms i Open ≡ atoms
case-open [] i h = refl
case-open (a ∷ rest) zero h = λ j. (record { cond = a.cond; case = is_open_case a.case h j }) ∷ rest
case-open (a ∷ rest) (suc i) h = ap (λ xs. a ∷ xs) (case-open rest i h)

pub opens-inside : (atoms : List Atom) (i : ℕ) → opens_at atoms i ≡ true → i < length atoms
opens-inside [] i h = cc
opens-inside (a ∷ rest) zero h = omega arith
opens-inside (a ∷ rest) (suc i) h = omega (arith, opens-inside rest i h)

count_closed : (b : Bool) (n : ℕ) → b ≡ false → (if b then suc n else n) ≡ n
count_closed b n h = rw h refl

count_open : (b : Bool) (n : ℕ) → b ≡ true → (if b then suc n else n) ≡ suc n
count_open b n h = rw h refl

-- one atom less is open
pub case-count : (atoms : List Atom) (i : ℕ) (k : Case) → opens_at atoms i ≡ true → is_open k ≡ false → suc (open_count (with_case atoms i k)) ≡ open_count atoms
case-count [] i k h e = cc
case-count (a ∷ rest) zero k h e = ap suc (count_closed (is_open k) (open_count rest) e) ∙ sym (count_open (is_open a.case) (open_count rest) h)
case-count (a ∷ rest) (suc i) k h e = by_case (is_open a.case) (open_count (with_case rest i k)) (open_count rest) (case-count rest i k h e)
  where
    by_case : (b : Bool) (m n : ℕ) → suc m ≡ n → suc (if b then suc m else m) ≡ (if b then suc n else n)
    by_case true m n h = ap suc h
    by_case false m n h = h

two_ways : (a b : Bool) → is_open (if a then True else (if b then False else Greater)) ≡ false
two_ways true b = refl
two_ways false true = refl
two_ways false false = refl

truth_closed : (n : ℕ) → is_open (truth_case n) ≡ false
truth_closed n = two_ways (n == 0) (n == 1)

-- no case by number is the open one
pub at-closed : (c : CondTree) (n : ℕ) → is_open (case_at c n) ≡ false
at-closed (t.divides d a) n = refl
at-closed t.yes n = truth_closed n
at-closed t.no n = truth_closed n
at-closed (t.flag f) n = truth_closed n
at-closed (t.same_element i j) n = truth_closed n
at-closed (t.member i s) n = truth_closed n
at-closed (t.equal_set a b) n = truth_closed n
at-closed (t.within a b) n = truth_closed n
at-closed (t.equal_num a b) n = truth_closed n
at-closed (t.less_num a b) n = truth_closed n
at-closed (t.negation a) n = truth_closed n
at-closed (t.and a b) n = truth_closed n
at-closed (t.or a b) n = truth_closed n
at-closed (t.implies a b) n = truth_closed n
at-closed (t.iff a b) n = truth_closed n

-- sizes meet the atoms with another case of one
met_case : (z : Sizing) (atoms : List Atom) (i : ℕ) (a : Atom) (k : Case) → i < length atoms → a ≡ get_or atoms i a → AllMet z atoms → Met z (cond_tree a.cond.now) k → AllMet z (with_case atoms i k)
met_case z [] i a k h e all m = tt
met_case z (b ∷ rest) zero a k h e all m = (subst (λ (x : Atom). Met z (cond_tree x.cond.now) k) e m, all.1)
met_case z (b ∷ rest) (suc i) a k h e all m = (all.0, met_case z rest i a k (omega arith) e all.1 m)

pub left-case : (q : QueryTree) (spots : List Spot) (atoms : List Atom) (z : Sizing) (i : ℕ) (a : Atom) (k : Case) → i < length atoms → a ≡ get_or atoms i a → IsLeft q spots atoms z → Met z (cond_tree a.cond.now) k → IsLeft q spots (with_case atoms i k) z
left-case q spots atoms z i a k h e left m = record { fits = left.fits; placement = left.placement; placed = left.placed; met = met_case z atoms i a k h e left.met m }

all_at : (p : CondTree → Bool) (atoms : List Atom) (i : ℕ) (a : Atom) → i < length atoms → a ≡ get_or atoms i a → list_all p (conds_of atoms) ≡ true → p (cond_tree a.cond.now) ≡ true
all_at p [] i a h e f = absurd (omega arith)
all_at p (b ∷ rest) zero a h e f = ap (λ (x : Atom). p (cond_tree x.cond.now)) e ∙ first _ _ f
all_at p (b ∷ rest) (suc i) a h e f = all_at p rest i a (omega arith) e (second _ _ f)

-- where no sizes are left with any of the cases of an atom, none are left
pub cases-none : (q : QueryTree) (spots : List Spot) (atoms : List Atom) (i : ℕ) (a : Atom) → IsWellFormed q → IsCasing q (conds_of atoms) → i < length atoms → a ≡ get_or atoms i a
    → ((n : ℕ) → n < case_count (cond_tree a.cond.now) → NoneLeft q spots (with_case atoms i (case_at (cond_tree a.cond.now) n))) → NoneLeft q spots atoms
cases-none q spots atoms i a formed casing h e none z left =
    let c : CondTree = cond_tree a.cond.now in
    let named : cond_named (room_of q) c ≡ true = all_at (cond_named (room_of q)) atoms i a h e (casing-named q (conds_of atoms) formed casing) in
    let covered = covers z c (has-divisor q c named) in
    none covered.0 covered.1 z (left-case q spots atoms z i a (case_at c covered.0) h e left covered.2)

met_there : (z : Sizing) (atoms : List Atom) (i : ℕ) (a : Atom) → i < length atoms → a ≡ get_or atoms i a → AllMet z atoms → Met z (cond_tree a.cond.now) a.case
met_there z [] i a h e all = absurd (omega arith)
met_there z (b ∷ rest) zero a h e all = subst (λ (x : Atom). Met z (cond_tree x.cond.now) x.case) (sym e) all.0
met_there z (b ∷ rest) (suc i) a h e all = met_there z rest i a (omega arith) e all.1

-- an atom that is hopeless in its case
pub hopeless-at : (q : QueryTree) (spots : List Spot) (atoms : List Atom) (i : ℕ) (a : Atom) → length spots ≡ q.elements → i < length atoms → a ≡ get_or atoms i a → is_hopeless atoms spots (cond_tree a.cond.now) a.case ≡ true → NoneLeft q spots atoms
hopeless-at q spots atoms i a full h e hope z left =
    let none : is_hopeless atoms spots (cond_tree a.cond.now) a.case ≡ false = hopeful z atoms spots (cond_tree a.cond.now) a.case (left-spots q spots atoms z full left) left.met (met_there z atoms i a h e left.met) in
    absurd (true≢false (sym hope ∙ none))

-- what is told of the query
pub told-none : (q : QueryTree) (spots : List Spot) (atoms : List Atom) → TellsQuery (Some true) spots atoms q → NoneLeft q spots atoms
told-none q spots atoms tells z left = tells z (agrees z spots atoms left.placed left.met)

-- all that is named stands
set_below : (m : Room) (n : ℕ) (s : SetExprTree) → m.elements ≡ n → set_named m s ≡ true → names_below n s ≡ true
set_below m n (t.var k) e h = refl
set_below m n t.empty e h = refl
set_below m n t.all e h = refl
set_below m n (t.one i) e h = lt-ltb i n (omega (arith, e, ltb-true i m.elements h))
set_below m n (t.union a b) e h = both _ _ (set_below m n a e (first _ _ h)) (set_below m n b e (second _ _ h))
set_below m n (t.inter a b) e h = both _ _ (set_below m n a e (first _ _ h)) (set_below m n b e (second _ _ h))
set_below m n (t.diff a b) e h = both _ _ (set_below m n a e (first _ _ h)) (set_below m n b e (second _ _ h))
set_below m n (t.compl a) e h = set_below m n a e h

pub named-stands : (m : Room) (n : ℕ) (c : CondTree) → m.elements ≡ n → cond_named m c ≡ true → stands n c ≡ true
named-stands m n t.yes e h = refl
named-stands m n t.no e h = refl
named-stands m n (t.flag f) e h = refl
named-stands m n (t.same_element i j) e h = both _ _ (lt-ltb i n (omega (arith, e, ltb-true i m.elements (first _ _ h)))) (lt-ltb j n (omega (arith, e, ltb-true j m.elements (second _ _ h))))
named-stands m n (t.member i s) e h = both _ _ (lt-ltb i n (omega (arith, e, ltb-true i m.elements (first _ _ h)))) (set_below m n s e (second _ _ h))
named-stands m n (t.equal_set a b) e h = refl
named-stands m n (t.within a b) e h = refl
named-stands m n (t.equal_num a b) e h = refl
named-stands m n (t.less_num a b) e h = refl
named-stands m n (t.divides d a) e h = refl
named-stands m n (t.negation a) e h = named-stands m n a e h
named-stands m n (t.and a b) e h = both _ _ (named-stands m n a e (first _ _ h)) (named-stands m n b e (second _ _ h))
named-stands m n (t.or a b) e h = both _ _ (named-stands m n a e (first _ _ h)) (named-stands m n b e (second _ _ h))
named-stands m n (t.implies a b) e h = both _ _ (named-stands m n a e (first _ _ h)) (named-stands m n b e (second _ _ h))
named-stands m n (t.iff a b) e h = both _ _ (named-stands m n a e (first _ _ h)) (named-stands m n b e (second _ _ h))

pub hyps-stand : (m : Room) (n : ℕ) (cs : List CondTree) → m.elements ≡ n → list_all (cond_named m) cs ≡ true → list_all (stands n) cs ≡ true
hyps-stand m n [] e h = refl
hyps-stand m n (c ∷ cs) e h = both _ _ (named-stands m n c e (first _ _ h)) (hyps-stand m n cs e (second _ _ h))

-- the query is told, or an atom is open
pub not-untold : (s : List Spot) (atoms : List Atom) (q : QueryTree) (r : Option Bool) → r ≡ query_told s atoms q → r ≡ None → is_some (query_told s atoms q) ≡ true → ⊥
not-untold s atoms q r e f h = true≢false (sym h ∙ ap is_some (sym e ∙ f))

pub none-of : {A : Type 0} (r : Option A) (P : Type 0) → IfNone r P → is_some r ≡ false → P
none-of None P h e = h
none-of (Some x) P h e = absurd (true≢false e)

pub told-case : (q : QueryTree) (spots : List Spot) (there atoms : List Atom) (x : Bool) → ((z : Sizing) → Agrees z spots there → query_true q z ≡ x) → x ≡ true → there ≡ atoms → NoneLeft q spots atoms
told-case q spots there atoms x tells e f z left = tells z (agrees z spots there left.placed (subst (λ (xs : List Atom). AllMet z xs) (sym f) left.met)) ∙ e

pick : (atoms : List Atom) (i : ℕ) → i < length atoms → (a : Atom) × (a ≡ get_or atoms i a)
pick [] i h = absurd (omega arith)
pick (a ∷ rest) zero h = (a, refl)
pick (a ∷ rest) (suc i) h = pick rest i (omega arith)

pub hopeless-case : (q : QueryTree) (spots : List Spot) (there atoms : List Atom) (i : ℕ) (r : Bool) → length spots ≡ q.elements → i < length there → ((a : Atom) → a ≡ get_or there i a → r ≡ is_hopeless there spots (cond_tree a.cond.now) a.case) → r ≡ true → there ≡ atoms → NoneLeft q spots atoms
hopeless-case q spots there atoms i r full h hope e f =
    let found = pick there i h in
    subst (λ (xs : List Atom). NoneLeft q spots xs) f (hopeless-at q spots there i found.0 full h found.1 (sym (hope found.0 found.1) ∙ e))

-- in the loop over the cases of an atom: `now` is `start` but for the case of the atom
pub loop-same : (start now : List Atom) (i : ℕ) (k : Case) → with_case now i Open ≡ start → with_case start i k ≡ with_case now i k
loop-same start now i k e = ap (λ xs. with_case xs i k) (sym e) ∙ case-again now i Open k

pub loop-inside : (start now : List Atom) (i : ℕ) → with_case now i Open ≡ start → opens_at start i ≡ true → i < length now
loop-inside start now i e h = omega (arith, opens-inside start i h, ap length e, case-length now i Open)

pub loop-casing : (q : QueryTree) (start now : List Atom) (i : ℕ) → with_case now i Open ≡ start → IsCasing q (conds_of start) → IsCasing q (conds_of now)
loop-casing q start now i e h = subst (λ (cs : List CondTree). IsCasing q cs) (ap conds_of (sym e) ∙ case-conds now i Open) h

pub loop-falls : (start now : List Atom) (i : ℕ) (k : Case) → with_case now i Open ≡ start → opens_at start i ≡ true → is_open k ≡ false → suc (open_count (with_case now i k)) ≡ open_count start
loop-falls start now i k e h f = ap (λ xs. suc (open_count xs)) (sym (loop-same start now i k e)) ∙ case-count start i k h f

pub loop-kept : (start now next : List Atom) (i : ℕ) (k : Case) → with_case now i Open ≡ start → next ≡ with_case now i k → with_case next i Open ≡ start
loop-kept start now next i k e f = ap (λ xs. with_case xs i Open) f ∙ case-again now i k Open ∙ e

pub loop-none : (q : QueryTree) (spots : List Spot) (start now : List Atom) (i : ℕ) (c : CondTree) (k : Case) (m : ℕ) → with_case now i Open ≡ start → k ≡ case_at c m → NoneLeft q spots (with_case now i k)
    → ((n : ℕ) → n < m → NoneLeft q spots (with_case start i (case_at c n))) → (n : ℕ) → n < m + 1 → NoneLeft q spots (with_case start i (case_at c n))
loop-none q spots start now i c k m e f here before n h = elim (cases_eq n m) [
  | inl g ↦ subst (λ (xs : List Atom). NoneLeft q spots xs) (sym (loop-same start now i k e) ∙ ap (λ j. with_case start i j) (f ∙ ap (case_at c) (sym g))) here
  | inr g ↦ before n (omega (arith, h, g))
]

pub chosen-casing : (q : QueryTree) (atoms next : List Atom) (i : ℕ) (k : Case) → next ≡ with_case atoms i k → IsCasing q (conds_of atoms) → IsCasing q (conds_of next)
chosen-casing q atoms next i k e h = subst (λ (cs : List CondTree). IsCasing q cs) (sym (ap conds_of e ∙ case-conds atoms i k)) h
