-- The facts of a sequent one after another.
use Rattle.std.proofs.Common.{◌≡◌, refl, sym, ap, subst, ◌∙◌, ℕ, zero, suc, ◌+◌, ◌≤◌, Bool, true, false, not, ◌&&◌, ◌||◌, if◌then◌else◌, List, [], ◌∷◌, ◌++◌, map, take, drop, length, slice_get, Option, None, Some, nat_eq, add-one, append_assoc, append-nil, arith}
use Rattle.std.specs.Prelude.{filter}
use Rattle.std.specs.List.{list_any, list_all, flat_map}
use Rattle.std.proofs.lemmas.Bool.{true≢false}
use Rattle.std.proofs.lemmas.List.{take_all, drop_all}
use Rattle.std.proofs.lemmas.List.Elements.{filter-append}
use Rattle.indexmap.specs.IndexSet.{insert_key, insert_all}
use Rattle.jh_name.specs.declared.naming.Name.{Name}
use Rattle.jh_form.specs.Tree.{FormulaTree, of_truth}
use Rattle.jh_form.specs.Passing.{name_equal}
use Rattle.jh_form.proofs.ClosedLemmas.{both-left, both-right}
use Rattle.jh_arena.specs.table.Entries.{Listing, is_truth, the_truth}
use Rattle.jh_arena.specs.table.Growth.{AreDifferent}
use Rattle.jh_arena.specs.table.Nodes.{nodes}
use Rattle.jh_seq.specs.sequent.Sequents.{HypTree, SequentTree}
use Rattle.jh_seq.specs.splitting.Local.{has_local_shape, is_local}
use Rattle.jh_reach.specs.Standing.{AreFormulas}
use Rattle.jh_reach.proofs.Standings.{formula-of, formulas-length}
use Rattle.jh_fca.specs.elimination.Constraints.{Constraint, constraint_in}
use Rattle.jh_fca.specs.elimination.Derived.{constrained, derived, fields_of, is_listed, is_listed_in, names_once}
use Rattle.jh_field_constraints.specs.declared.constraints.NodeConstraint.{NodeConstraint}
use Rattle.jh_field_constraints.specs.Standing.{Are, IsFormula, IsNamed, AreNames, AreConstraint, IsSequent}
use Rattle.jh_field_constraints.specs.Reading.{IsLocalAt}
use Rattle.jh_field_constraints.proofs.Standings.{truth-at, truth-there, are-lent, are-push, are-said, inserted, names-tell}

drop-step : {X : Type 0} (xs : List X) (i : ℕ) (x : X) → slice_get xs i ≡ Some x → drop i xs ≡ x ∷ drop (suc i) xs
drop-step [] i x at = absurd (cc)
drop-step (y ∷ xs) zero x at = let one : y ≡ x = cc in ap (λ z. z ∷ xs) one
drop-step (y ∷ xs) (suc i) x at = drop-step xs i x at

pub drop-next : {X : Type 0} (xs : List X) (i : ℕ) (x : X) → slice_get xs i ≡ Some x → drop i xs ≡ x ∷ drop (i + 1) xs
drop-next xs i x at = drop-step xs i x at ∙ ap (λ k. x ∷ drop k xs) (sym (add-one i))

take-step : {X : Type 0} (xs : List X) (i : ℕ) (x : X) → slice_get xs i ≡ Some x → take (suc i) xs ≡ take i xs ++ x ∷ []
take-step [] i x at = absurd (cc)
take-step (y ∷ xs) zero x at = let one : y ≡ x = cc in ap (λ z. z ∷ []) one
take-step (y ∷ xs) (suc i) x at = ap (λ zs. y ∷ zs) (take-step xs i x at)

pub take-next : {X : Type 0} (xs : List X) (i : ℕ) (x : X) → slice_get xs i ≡ Some x → take (i + 1) xs ≡ take i xs ++ x ∷ []
take-next xs i x at = ap (λ k. take k xs) (add-one i) ∙ take-step xs i x at

-- ---- the hypothesis of a fact

fact-of : (hs : List HypTree) (i : ℕ) (a : FormulaTree) → slice_get (map (λ h. h.fact) hs) i ≡ Some a → (h : HypTree) × (slice_get hs i ≡ Some h) × (h.fact ≡ a)
fact-of [] i a at = absurd (cc)
fact-of (h ∷ hs) zero a at = (h, refl, cc)
fact-of (h ∷ hs) (suc i) a at = fact-of hs i a at

-- what stands at a place of the facts
pub record HypAt (t : Listing) (hs : List HypTree) (i n : ℕ) : Type 0 where
  pub h : HypTree
  pub at : slice_get hs i ≡ Some h
  pub there : IsFormula t n h.fact

pub hyp-at : (t : Listing) (ns : List ℕ) (hs : List HypTree) (i n : ℕ) → AreFormulas t ns (map (λ h. h.fact) hs) → slice_get ns i ≡ Some n → HypAt t hs i n
hyp-at t ns hs i n are at =
    let a = formula-of t ns (map (λ h. h.fact) hs) i n are at in
    let h = fact-of hs i a.0 a.1 in
    record { h = h.0; at = h.1; there = a.2 ∙ ap (λ b. Some (of_truth b)) (sym h.2) }

pub fact-there : (t : Listing) (ns : List ℕ) (all : List FormulaTree) (i n : ℕ) → AreFormulas t ns all → slice_get ns i ≡ Some n → is_truth (slice_get (nodes t) n) ≡ true
fact-there t ns all i n are at = let a = formula-of t ns all i n are at in truth-there (slice_get (nodes t) n) a.0 a.2

-- ---- local shape

pub local-there : (t : Listing) (n : ℕ) (a : FormulaTree) → IsFormula t n a → has_local_shape a ≡ true → IsLocalAt (nodes t) n
local-there t n a at h = record { there = truth-there (slice_get (nodes t) n) a at; shaped = ap has_local_shape (truth-at (slice_get (nodes t) n) a at) ∙ h }

local-of : (hs : List HypTree) (i : ℕ) (h : HypTree) → list_all (λ x. has_local_shape x.fact) hs ≡ true → slice_get hs i ≡ Some h → has_local_shape h.fact ≡ true
local-of [] i h k at = absurd (cc)
local-of (x ∷ hs) zero h k at = let one : x ≡ h = cc in ap (λ z. has_local_shape z.fact) (sym one) ∙ both-left (has_local_shape x.fact) (list_all (λ y. has_local_shape y.fact) hs) k
local-of (x ∷ hs) (suc i) h k at = local-of hs i h (both-right (has_local_shape x.fact) (list_all (λ y. has_local_shape y.fact) hs) k) at

pub local-goal : (t : Listing) (facts : List ℕ) (goal : ℕ) (s : SequentTree) → IsSequent t facts goal s → is_local s ≡ true → IsLocalAt (nodes t) goal
local-goal t facts goal s is h = local-there t goal s.goal is.goal (both-right (list_all (λ x. has_local_shape x.fact) s.hyps) (has_local_shape s.goal) h)

pub local-fact : (t : Listing) (facts : List ℕ) (goal : ℕ) (s : SequentTree) (i n : ℕ) → IsSequent t facts goal s → is_local s ≡ true → slice_get facts i ≡ Some n → IsLocalAt (nodes t) n
local-fact t facts goal s i n is h at =
    let x = hyp-at t facts s.hyps i n is.facts at in
    local-there t n x.h.fact x.there (local-of s.hyps i x.h (both-left (list_all (λ y. has_local_shape y.fact) s.hyps) (has_local_shape s.goal) h) x.at)

-- ---- whether a field is listed

in-front : (p q : Bool) → p ≡ true → (p || q) ≡ true
in-front true q h = refl
in-front false q h = absurd (true≢false (sym h))

any-at : {X : Type 0} (p : X → Bool) (xs : List X) (i : ℕ) (x : X) → slice_get xs i ≡ Some x → p x ≡ true → list_any p xs ≡ true
any-at p [] i x at h = absurd (cc)
any-at p (y ∷ xs) zero x at h = let one : y ≡ x = cc in in-front (p y) (list_any p xs) (ap p one ∙ h)
any-at p (y ∷ xs) (suc i) x at h = behind (p y) (list_any p xs) (any-at p xs i x at h)
  where
    behind : (u v : Bool) → v ≡ true → (u || v) ≡ true
    behind true v e = refl
    behind false v e = e

-- one of the facts goes along the field
pub listed-first : (f : Name) (t : Listing) (facts : List ℕ) (goal : ℕ) (s : SequentTree) (i n : ℕ) → IsSequent t facts goal s → slice_get facts i ≡ Some n → is_listed f (the_truth (slice_get (nodes t) n)) ≡ true → true ≡ is_listed_in f s
unfolding is_listed_in
listed-first f t facts goal s i n is at h =
    let x = hyp-at t facts s.hyps i n is.facts at in
    sym (in-front (list_any (λ y. is_listed f y.fact) s.hyps) (is_listed f s.goal) (any-at (λ y. is_listed f y.fact) s.hyps i x.h x.at (ap (is_listed f) (sym (truth-at (slice_get (nodes t) n) x.h.fact x.there)) ∙ h)))

-- none of the first facts does
abbrev pub NoneListed : Name → List HypTree → ℕ → Type 0
NoneListed f hs i = list_any (λ h. is_listed f h.fact) (take i hs) ≡ false

neither : (u v : Bool) → (u || v) ≡ false → (u ≡ false) × (v ≡ false)
neither true v e = absurd (true≢false e)
neither false v e = (refl, e)

any-append : {X : Type 0} (p : X → Bool) (xs : List X) (x : X) → list_any p xs ≡ false → p x ≡ false → list_any p (xs ++ x ∷ []) ≡ false
any-append p [] x h k = λ i. k i || false
any-append p (y ∷ xs) x h k =
    let both = neither (p y) (list_any p xs) h in
    λ i. both.0 i || any-append p xs x both.1 k i

pub no-more : (f : Name) (t : Listing) (facts : List ℕ) (hs : List HypTree) (i n : ℕ) → AreFormulas t facts (map (λ h. h.fact) hs) → slice_get facts i ≡ Some n → NoneListed f hs i → is_listed f (the_truth (slice_get (nodes t) n)) ≡ false → NoneListed f hs (i + 1)
no-more f t facts hs i n are at none h =
    let x = hyp-at t facts hs i n are at in
    ap (list_any (λ y. is_listed f y.fact)) (take-next hs i x.h x.at)
    ∙ any-append (λ y. is_listed f y.fact) (take i hs) x.h none (ap (is_listed f) (sym (truth-at (slice_get (nodes t) n) x.h.fact x.there)) ∙ h)

pub hyps-length : (t : Listing) (facts : List ℕ) (hs : List HypTree) → AreFormulas t facts (map (λ h. h.fact) hs) → length hs ≡ length facts
hyps-length t facts hs are = sym (mapped hs) ∙ formulas-length t facts (map (λ h. h.fact) hs) are
  where
    mapped : (xs : List HypTree) → length (map (λ h. h.fact) xs) ≡ length xs
    mapped [] = refl
    mapped (x ∷ xs) = ap suc (mapped xs)

-- then the goal decides
pub listed-last : (f : Name) (t : Listing) (facts : List ℕ) (goal : ℕ) (s : SequentTree) (i : ℕ) (b : Bool) → IsSequent t facts goal s → length facts ≤ i → NoneListed f s.hyps i → b ≡ is_listed f (the_truth (slice_get (nodes t) goal)) → b ≡ is_listed_in f s
unfolding is_listed_in
listed-last f t facts goal s i b is past none h =
    let long = hyps-length t facts s.hyps is.facts in
    let no : list_any (λ y. is_listed f y.fact) s.hyps ≡ false = ap (list_any (λ y. is_listed f y.fact)) (sym (take_all i s.hyps (omega (arith, long, past)))) ∙ none in
    h ∙ ap (is_listed f) (truth-at (slice_get (nodes t) goal) s.goal is.goal) ∙ ap (λ c. c || is_listed f s.goal) (sym no)

-- ---- the fields that facts constrain

pub none-constrained : (t : Listing) (list : List ℕ) (hs : List HypTree) → list ≡ [] → AreNames t list (insert_all name_equal [] (constrained (take 0 hs)))
unfolding Are
none-constrained t list hs e = subst (λ (ns : List ℕ). AreNames t ns []) (sym e) tt

flat-next : (hs : List HypTree) (h : HypTree) → constrained (hs ++ h ∷ []) ≡ constrained hs ++ fields_of (constraint_in h.fact)
flat-next [] h = append-nil (fields_of (constraint_in h.fact))
flat-next (x ∷ hs) h = ap (λ ys. fields_of (constraint_in x.fact) ++ ys) (flat-next hs h) ∙ sym (append_assoc (fields_of (constraint_in x.fact)) (constrained hs) (fields_of (constraint_in h.fact)))

insert-append : (ks xs ys : List Name) → insert_all name_equal ks (xs ++ ys) ≡ insert_all name_equal (insert_all name_equal ks xs) ys
insert-append ks [] ys = refl
insert-append ks (x ∷ xs) ys = insert-append (insert_key name_equal ks x) xs ys

-- one more fact
pub constrained-next : (hs : List HypTree) (i : ℕ) (h : HypTree) → slice_get hs i ≡ Some h →
    insert_all name_equal (insert_all name_equal [] (constrained (take i hs))) (fields_of (constraint_in h.fact)) ≡ insert_all name_equal [] (constrained (take (i + 1) hs))
constrained-next hs i h at =
    sym (insert-append [] (constrained (take i hs)) (fields_of (constraint_in h.fact)))
    ∙ ap (insert_all name_equal []) (sym (ap constrained (take-next hs i h at) ∙ flat-next (take i hs) h))

-- ---- those along which nothing goes

pub none-derived : (t : Listing) (made : List ℕ) (s : SequentTree) (xs : List Name) → made ≡ [] → AreNames t made (filter (λ f. not (is_listed_in f s)) (take 0 xs))
unfolding Are
none-derived t made s xs e = subst (λ (ns : List ℕ). AreNames t ns []) (sym e) tt

pub added-if : (t : Listing) (made : List ℕ) (field : ℕ) (b : Bool) (xs : List Name) (f : Name) → b ≡ false → AreNames t made xs → IsNamed t field f → AreNames t (made ++ field ∷ []) (if b then xs else xs ++ f ∷ [])
added-if t made field true xs f e h k = absurd (true≢false e)
added-if t made field false xs f e h k = are-push (IsNamed t) made field xs f h k

filter-next : (p : Name → Bool) (b : Bool) (f : Name) (xs : List Name) → p f ≡ b → (if b then xs else xs ++ f ∷ []) ≡ xs ++ (if not b then f ∷ [] else [])
filter-next p true f xs e = sym (append-nil xs)
filter-next p false f xs e = refl

pub derived-next : (s : SequentTree) (xs : List Name) (i : ℕ) (f : Name) → slice_get xs i ≡ Some f →
    (if is_listed_in f s then filter (λ g. not (is_listed_in g s)) (take i xs) else filter (λ g. not (is_listed_in g s)) (take i xs) ++ f ∷ []) ≡ filter (λ g. not (is_listed_in g s)) (take (i + 1) xs)
derived-next s xs i f at =
    filter-next (λ g. is_listed_in g s) (is_listed_in f s) f (filter (λ g. not (is_listed_in g s)) (take i xs)) refl
    ∙ sym (ap (filter (λ g. not (is_listed_in g s))) (take-next xs i f at) ∙ filter-append (λ g. not (is_listed_in g s)) (take i xs) (f ∷ []))

pub derived-all : (t : Listing) (made : List ℕ) (s : SequentTree) (i : ℕ) → length (names_once (constrained s.hyps)) ≤ i → AreNames t made (filter (λ g. not (is_listed_in g s)) (take i (names_once (constrained s.hyps)))) → AreNames t made (derived s)
unfolding derived
derived-all t made s i past h =
    are-said (IsNamed t) made (filter (λ g. not (is_listed_in g s)) (take i (names_once (constrained s.hyps)))) (filter (λ g. not (is_listed_in g s)) (names_once (constrained s.hyps)))
    (ap (filter (λ g. not (is_listed_in g s))) (take_all i (names_once (constrained s.hyps)) past)) h

-- the field of a fact is added, where it constrains one
pub some-added : (t : Listing) → AreDifferent (nodes t) → (old new : List ℕ) (xs : List Name) (o : Option Constraint) (of : NodeConstraint) → AreConstraint t (Some of) o → AreNames t old xs → new ≡ insert_key nat_eq old of.field → AreNames t new (insert_all name_equal xs (fields_of o))
unfolding AreConstraint fields_of
some-added t different old new xs None of h are e = absurd h
some-added t different old new xs (Some c) of h are e =
    are-lent (IsNamed t) (insert_key nat_eq old of.field) new (insert_key name_equal xs c.field) e (inserted (IsNamed t) name_equal (names-tell t different) old xs of.field c.field are h.field)

pub none-added : (t : Listing) (old : List ℕ) (xs : List Name) (o : Option Constraint) → AreConstraint t None o → AreNames t old xs → AreNames t old (insert_all name_equal xs (fields_of o))
unfolding AreConstraint fields_of
none-added t old xs None h are = are
none-added t old xs (Some c) h are = absurd h
