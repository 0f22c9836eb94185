-- What is told of a condition whose parts are all known.
use Rattle.std.proofs.Common.{◌≡◌, refl, ℕ, zero, suc, ◌+◌, ◌<◌, ◌≤◌, nat_lt, Bool, true, false, not, ◌&&◌, ◌||◌, if◌then◌else◌, List, [], ◌∷◌, length, map, drop, get_or, Option, Some, None, is_some, IfSome, IfNone, ap, sym, ◌∙◌, arith, ◌⊎◌, inl, inr, add-one, drop-cons}
use Rattle.std.specs.List.{list_all, list_any}
use Rattle.std.specs.declared.alloc.Global.{Global}
use Rattle.std.specs.declared.boxed.Box.{Box}
use Rattle.std.proofs.lemmas.Bool.{or_cases, true≢false}
use Rattle.std.proofs.lemmas.List.{drop_all}
use Rattle.jh_query.specs.declared.queries.query.Cond.{Cond}
use Rattle.jh_query.specs.declared.queries.query.Cond as whole
use Rattle.jh_query.specs.declared.queries.query.SetExpr.{SetExpr}
use Rattle.jh_query.specs.declared.queries.query.Num.{Num}
use Rattle.jh_query.specs.declared.queries.sizes.Spot.{Spot}
use Rattle.jh_query.specs.queries.Bare.{cond_tree}
use Rattle.jh_query.specs.queries.Tree.{CondTree, QueryTree}
use Rattle.jh_query.specs.queries.Tree as t
use Rattle.jh_query.specs.queries.Same.{same_atom}
use Rattle.jh_query.specs.declared.partial_truth.casing.Atom.{Atom}
use Rattle.jh_query.specs.declared.partial_truth.casing.Case.{Case}
use Rattle.jh_query.specs.declared.partial_truth.casing.Case.TheVariants.{Open, True, False, Greater, Remainder}
use Rattle.jh_query.specs.partial_truth.Judged.{agree_told, all_told, both_told, case_truth, chosen, names_below, one_told, other_told, query_told, told}
use Rattle.jh_bapa.specs.decision.Cases.{conds_of}
use Rattle.jh_bapa.specs.decision.Searching.{is_among, is_covered, is_open}
use Rattle.jh_bapa.specs.decision.Standing.{KnownWhole, opens_at, stands}
use Rattle.jh_bapa.proofs.decision.Belows.{both, first, second, sure}

other_known : (a : Option Bool) → is_some a ≡ true → is_some (other_told a) ≡ true
other_known None h = h
other_known (Some x) h = refl

both_known : (a b : Option Bool) → is_some a ≡ true → is_some b ≡ true → is_some (both_told a b) ≡ true
both_known None b h k = cc
both_known (Some true) b h k = k
both_known (Some false) b h k = refl

one_known : (a b : Option Bool) → is_some a ≡ true → is_some b ≡ true → is_some (one_told a b) ≡ true
one_known None b h k = cc
one_known (Some true) b h k = refl
one_known (Some false) b h k = k

agree_known : (a b : Option Bool) → is_some a ≡ true → is_some b ≡ true → is_some (agree_told a b) ≡ true
agree_known None b h k = cc
agree_known (Some x) None h k = cc
agree_known (Some true) (Some y) h k = refl
agree_known (Some false) (Some y) h k = refl

-- a condition of two parts
abbrev pub OfTwo : Cond → Box Cond Global → Box Cond Global → Type 0
OfTwo r a b = (r ≡ whole.And a b) ⊎ ((r ≡ whole.Or a b) ⊎ ((r ≡ whole.Implies a b) ⊎ (r ≡ whole.Iff a b)))

pub two-known : (s : List Spot) (atoms : List Atom) (r : Cond) (a b : Box Cond Global) → OfTwo r a b → is_some (told s atoms (cond_tree a.value)) ≡ true → is_some (told s atoms (cond_tree b.value)) ≡ true → is_some (told s atoms (cond_tree r)) ≡ true
unfolding cond_tree
two-known s atoms r a b (inl e) h k = rw e (both_known (told s atoms (cond_tree a.value)) (told s atoms (cond_tree b.value)) h k)
two-known s atoms r a b (inr (inl e)) h k = rw e (one_known (told s atoms (cond_tree a.value)) (told s atoms (cond_tree b.value)) h k)
two-known s atoms r a b (inr (inr (inl e))) h k = rw e (one_known (other_told (told s atoms (cond_tree a.value))) (told s atoms (cond_tree b.value)) (other_known (told s atoms (cond_tree a.value)) h) k)
two-known s atoms r a b (inr (inr (inr e))) h k = rw e (agree_known (told s atoms (cond_tree a.value)) (told s atoms (cond_tree b.value)) h k)

pub two-covered : (cs : List CondTree) (r : Cond) (a b : Box Cond Global) → OfTwo r a b → is_covered cs (cond_tree r) ≡ true → (is_covered cs (cond_tree a.value) && is_covered cs (cond_tree b.value)) ≡ true
unfolding cond_tree
two-covered cs r a b (inl e) h = rw e at h
two-covered cs r a b (inr (inl e)) h = rw e at h
two-covered cs r a b (inr (inr (inl e))) h = rw e at h
two-covered cs r a b (inr (inr (inr e))) h = rw e at h

pub two-stand : (n : ℕ) (r : Cond) (a b : Box Cond Global) → OfTwo r a b → stands n (cond_tree r) ≡ true → (stands n (cond_tree a.value) && stands n (cond_tree b.value)) ≡ true
unfolding cond_tree
two-stand n r a b (inl e) h = rw e at h
two-stand n r a b (inr (inl e)) h = rw e at h
two-stand n r a b (inr (inr (inl e))) h = rw e at h
two-stand n r a b (inr (inr (inr e))) h = rw e at h

pub other-known : (s : List Spot) (atoms : List Atom) (c : CondTree) → is_some (told s atoms c) ≡ true → is_some (told s atoms (t.negation c)) ≡ true
other-known s atoms c h = other_known (told s atoms c) h

pub same-known : (s : List Spot) (atoms : List Atom) (i j : ℕ) → stands (length s) (t.same_element i j) ≡ true → is_some (told s atoms (t.same_element i j)) ≡ true
same-known s atoms i j h = rw h refl

pub member-known : (s : List Spot) (atoms : List Atom) (i : ℕ) (a : _) → stands (length s) (t.member i a) ≡ true → is_some (told s atoms (t.member i a)) ≡ true
member-known s atoms i a h = rw h refl

-- the atom at a place
pub opens-here : (atoms : List Atom) (p : ℕ) (a : Atom) → p < length atoms → a ≡ get_or atoms p a → is_open a.case ≡ true → opens_at atoms p ≡ true
opens-here [] p a h e f = absurd (omega arith)
opens-here (b ∷ rest) zero a h e f = ap (λ (c : Atom). is_open c.case) (sym e) ∙ f
opens-here (b ∷ rest) (suc p) a h e f = opens-here rest p a (omega arith) e f

case_known : (k : Case) → is_open k ≡ false → is_some (case_truth k) ≡ true
case_known Open h = cc
case_known True h = refl
case_known False h = refl
case_known Greater h = refl
case_known (Remainder j) h = refl

rest_of : (atoms : List Atom) (p : ℕ) (a : Atom) → p < length atoms → a ≡ get_or atoms p a → drop p atoms ≡ a ∷ drop (p + 1) atoms
rest_of atoms p a h e = rw (add-one p) (rw (← e) at (drop-cons atoms p a h))

-- going on behind an atom that is another one
pub chosen-next : (atoms : List Atom) (p : ℕ) (a : Atom) (c : CondTree) → p < length atoms → a ≡ get_or atoms p a → same_atom (cond_tree a.cond.now) c ≡ false → chosen (drop p atoms) c ≡ chosen (drop (p + 1) atoms) c
chosen-next atoms p a c h e f = rw (rest_of atoms p a h e, f) refl

pub among-next : (atoms : List Atom) (p : ℕ) (a : Atom) (c : CondTree) → p < length atoms → a ≡ get_or atoms p a → same_atom (cond_tree a.cond.now) c ≡ false → is_among (conds_of (drop p atoms)) c ≡ is_among (conds_of (drop (p + 1) atoms)) c
among-next atoms p a c h e f = rw (rest_of atoms p a h e, f) refl

pub chosen-known : (atoms : List Atom) (p : ℕ) (a : Atom) (c : CondTree) → p < length atoms → a ≡ get_or atoms p a → same_atom (cond_tree a.cond.now) c ≡ true → chosen (drop p atoms) c ≡ chosen atoms c → is_open a.case ≡ false → is_some (chosen atoms c) ≡ true
chosen-known atoms p a c h e f g k = let there : chosen (drop p atoms) c ≡ case_truth a.case = rw (rest_of atoms p a h e, f) refl in ap is_some (sym g ∙ there) ∙ case_known a.case k

if_open_place : (b : Bool) (p : ℕ) (Q : Type 0) → (b ≡ true → Q) → IfSome (if b then Some p else None) (λ x. Q)
if_open_place true p Q h = h refl
if_open_place false p Q h = tt

-- what is answered at an atom that is found
pub found-place : (r : Option ℕ) (atoms : List Atom) (p : ℕ) (a : Atom) → r ≡ (if is_open a.case then Some p else None) → p < length atoms → a ≡ get_or atoms p a → IfSome r (λ place. opens_at atoms place ≡ true)
found-place r atoms p a e h f = elim (sure (is_open a.case)) [
  | inl g ↦ let there : r ≡ Some p = rw g at e in rw there (opens-here atoms p a h f g)
  | inr g ↦ let there : r ≡ None = rw g at e in rw there tt
]

pub found-none : (r : Option ℕ) (atoms : List Atom) (p : ℕ) (a : Atom) (c : CondTree) → r ≡ (if is_open a.case then Some p else None) → p < length atoms → a ≡ get_or atoms p a → same_atom (cond_tree a.cond.now) c ≡ true → chosen (drop p atoms) c ≡ chosen atoms c → IfNone r (is_among (conds_of atoms) c ≡ true → is_some (chosen atoms c) ≡ true)
found-none r atoms p a c e h f s g = elim (sure (is_open a.case)) [
  | inl k ↦ let there : r ≡ Some p = rw k at e in rw there tt
  | inr k ↦ let there : r ≡ None = rw k at e in rw there (λ x. chosen-known atoms p a c h f s g k)
]

-- several conditions
all_known : (s : List Spot) (atoms : List Atom) (before : Option Bool) (cs : List CondTree) → is_some before ≡ true → list_all (λ c. is_some (told s atoms c)) cs ≡ true → is_some (all_told s atoms before cs) ≡ true
all_known s atoms before [] h k = h
all_known s atoms before (c ∷ cs) h k = all_known s atoms (both_told before (told s atoms c)) cs (both_known before (told s atoms c) h (first _ _ k)) (second _ _ k)

pub query-known : (s : List Spot) (atoms : List Atom) (q : QueryTree) → list_all (λ c. is_some (told s atoms c)) q.hyps ≡ true → is_some (told s atoms q.goal) ≡ true → is_some (query_told s atoms q) ≡ true
query-known s atoms q h k = one_known (other_told (all_told s atoms (Some true) q.hyps)) (told s atoms q.goal) (other_known (all_told s atoms (Some true) q.hyps) (all_known s atoms (Some true) q.hyps refl h)) k

pub ruleset known_steps = (other-known, same-known, member-known)

pub none-then : {A : Type 0} (r : Option A) (P Q : Type 0) → IfNone r P → (P → Q) → IfNone r Q
none-then None P Q h k = k h
none-then (Some x) P Q h k = tt

-- at the end of the hypotheses
pub all-done : (p : CondTree → Bool) (conds : List Cond) (i : ℕ) → length conds ≤ i → list_all p (map cond_tree conds) ≡ list_all p (map cond_tree (drop i conds)) → list_all p (map cond_tree conds) ≡ true
all-done p conds i h e = let end : drop i conds ≡ [] = drop_all i conds h in e ∙ rw end refl

pub not-whole : (s : List Spot) (atoms : List Atom) (r x : Cond) (a : Box Cond Global) → r ≡ whole.Not a → x ≡ a.value → KnownWhole s atoms (cond_tree x) → KnownWhole s atoms (cond_tree r)
unfolding cond_tree
not-whole s atoms r x a e f k = rw e (λ h g. other_known (told s atoms (cond_tree a.value)) ((rw f at k) h g))

pub two-whole : (s : List Spot) (atoms : List Atom) (r x y : Cond) (a b : Box Cond Global) → OfTwo r a b → x ≡ a.value → y ≡ b.value → KnownWhole s atoms (cond_tree x) → KnownWhole s atoms (cond_tree y) → KnownWhole s atoms (cond_tree r)
two-whole s atoms r x y a b e f g k l = λ h i.
    let covered = two-covered (conds_of atoms) r a b e h in
    let stand = two-stand (length s) r a b e i in
    two-known s atoms r a b e ((rw f at k) (first _ _ covered) (first _ _ stand)) ((rw g at l) (second _ _ covered) (second _ _ stand))

pub said-whole : (s : List Spot) (atoms : List Atom) (r : Cond) (j : Option Bool) (b : Bool) → j ≡ told s atoms (cond_tree r) → b ≡ is_some j → b ≡ true → KnownWhole s atoms (cond_tree r)
said-whole s atoms r j b e f g = λ h i. ap is_some (sym e) ∙ sym f ∙ g

pub element-whole : (s : List Spot) (atoms : List Atom) (c : CondTree) → (stands (length s) c ≡ true → is_some (told s atoms c) ≡ true) → KnownWhole s atoms c
element-whole s atoms c k = λ h i. k i
