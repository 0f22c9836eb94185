-- Checks that are added to a list: one after another, and while the table grows.
use Rattle.std.proofs.Common.{◌≡◌, refl, sym, ap, ◌∙◌, subst, ℕ, zero, suc, ◌+◌, ◌<◌, ◌≤◌, arith, add-one, true, ◌&&◌, List, [], ◌∷◌, ◌++◌, map, take, drop, length-append, length, slice_index_or, Some, slice_get, append_assoc, append-nil, Result, Ok, Err, IfOk, OnOk}
use Rattle.std.proofs.lemmas.List.{map-append, take_at, drop_at}
use Rattle.jh_name.specs.declared.place.Place.{Place}
use Rattle.jh_form.specs.Tree.{FormulaTree, TermTree, of_truth, of_object}
use Rattle.jh_form.specs.Tree as tree
use Rattle.jh_form.proofs.ClosedLemmas.{both-left, both-right}
use Rattle.jh_arena.proofs.table.Children.{it-is-truth, it-is-object}
use Rattle.jh_arena.specs.table.Entries.{Listing, is_truth, is_object, the_truth, the_object}
use Rattle.jh_arena.specs.table.Growth.{Extends}
use Rattle.jh_arena.specs.table.Nodes.{nodes}
use Rattle.jh_guard.specs.Terms.{Check, guarded}
use Rattle.jh_command_terms.specs.declared.terms.checks.CheckNode.{CheckNode}
use Rattle.jh_command_terms.specs.terms.Checks.{AreChecks, AddsChecks, are_facts}

pub if-ok : {A E : Type 0} {P Q : A → Type 0} (r : Result A E) → ((x : A) → P x → Q x) → IfOk r P → IfOk r Q
if-ok (Ok x) f h = f x h
if-ok (Err e) f h = tt

pub are-grows : (t u : Listing) (ns : List CheckNode) (cs : List Check) → Extends t u → AreChecks t ns cs → AreChecks u ns cs
unfolding AreChecks
are-grows t u [] [] g h = tt
are-grows t u [] (c ∷ cs) g h = h
are-grows t u (n ∷ ns) [] g h = h
are-grows t u (n ∷ ns) (c ∷ cs) g h = (h.0, g.nodes.keeps n.fact (of_truth c.fact) h.1, are-grows t u ns cs g h.2)

pub are-append : (t : Listing) (ns ms : List CheckNode) (cs ds : List Check) → AreChecks t ns cs → AreChecks t ms ds → AreChecks t (ns ++ ms) (cs ++ ds)
unfolding AreChecks
are-append t [] ms [] ds h k = k
are-append t [] ms (c ∷ cs) ds h k = absurd h
are-append t (n ∷ ns) ms [] ds h k = absurd h
are-append t (n ∷ ns) ms (c ∷ cs) ds h k = (h.0, h.1, are-append t ns ms cs ds h.2 k)

pub adds-none : (t : Listing) (ns : List CheckNode) → AddsChecks t ns ns []
unfolding AreChecks
adds-none t ns = record { added = []; list = sym (append-nil ns); are = tt }

pub adds-grown : (t u : Listing) (ns ms : List CheckNode) (cs : List Check) → AddsChecks t ns ms cs → Extends t u → AddsChecks u ns ms cs
adds-grown t u ns ms cs h g = record { added = h.added; list = h.list; are = are-grows t u h.added cs g h.are }

pub adds-two : (t u : Listing) (ns ms os : List CheckNode) (cs ds : List Check) → AddsChecks t ns ms cs → Extends t u → AddsChecks u ms os ds → AddsChecks u ns os (cs ++ ds)
adds-two t u ns ms os cs ds h g k = record {
  added = h.added ++ k.added;
  list = k.list ∙ ap (λ xs. xs ++ k.added) h.list ∙ append_assoc ns h.added k.added;
  are = are-append u h.added k.added cs ds (are-grows t u h.added cs g h.are) k.are;
}

-- one check is added
pub adds-one : (t : Listing) (ns ms : List CheckNode) (p : Place) (fact : ℕ) (f : FormulaTree) →
    ms ≡ ns ++ record { place = p; fact = fact } ∷ [] → slice_get (nodes t) fact ≡ Some (of_truth f) → AddsChecks t ns ms (record { place = p; fact = f } ∷ [])
unfolding AreChecks
adds-one t ns ms p fact f e h = record { added = record { place = p; fact = fact } ∷ []; list = e; are = (refl, h, tt) }

-- what was added to an empty list is all of it
pub added-to-none : (t : Listing) (ms : List CheckNode) (cs : List Check) → AddsChecks t [] ms cs → AreChecks t ms cs
added-to-none t ms cs h = subst (λ (xs : List CheckNode). AreChecks t xs cs) (sym h.list) h.are

pub truth-there : (t : Listing) (n : ℕ) (f : FormulaTree) → slice_get (nodes t) n ≡ Some (of_truth f) → is_truth (slice_get (nodes t) n) ≡ true
unfolding is_truth
truth-there t n f h = ap is_truth h

pub are-facts : (t : Listing) (ns : List CheckNode) (cs : List Check) → AreChecks t ns cs → are_facts t ns ≡ true
unfolding AreChecks are_facts
are-facts t [] cs h = refl
are-facts t (n ∷ ns) [] h = absurd h
are-facts t (n ∷ ns) (c ∷ cs) h = λ i. truth-there t n.fact c.fact h.1 i && are-facts t ns cs h.2 i

-- a formula and an object that are listed
pub truth-listed : (t : Listing) (n : ℕ) → is_truth (slice_get (nodes t) n) ≡ true → slice_get (nodes t) n ≡ Some (of_truth (the_truth (slice_get (nodes t) n)))
truth-listed t n h = it-is-truth (slice_get (nodes t) n) h

pub object-listed : (t : Listing) (n : ℕ) → is_object (slice_get (nodes t) n) ≡ true → slice_get (nodes t) n ≡ Some (of_object (the_object (slice_get (nodes t) n)))
object-listed t n h = it-is-object (slice_get (nodes t) n) h

pub object-there : (t : Listing) (n : ℕ) (a : TermTree) → slice_get (nodes t) n ≡ Some (of_object a) → is_object (slice_get (nodes t) n) ≡ true
unfolding is_object
object-there t n a h = ap is_object h

-- A check of the list is the one that stands at a place.
record StandsAt (t : Listing) (n : CheckNode) (i : ℕ) (cs : List Check) : Type 0 where
  check : Check
  are : AreChecks t (n ∷ []) (check ∷ [])
  taken : take (suc i) cs ≡ take i cs ++ check ∷ []

check-at : (t : Listing) (ns : List CheckNode) (n d : CheckNode) (i : ℕ) (cs : List Check) → AreChecks t ns cs → i < length ns → n ≡ slice_index_or ns i d → StandsAt t n i cs
unfolding AreChecks
check-at t [] n d i cs are lt e = absurd (omega arith)
check-at t (m ∷ ns) n d i [] are lt e = absurd are
check-at t (m ∷ ns) n d zero (c ∷ cs) are lt e = record { check = c; are = (ap (λ (k : CheckNode). k.place) e ∙ are.0, subst (λ (k : CheckNode). slice_get (nodes t) k.fact ≡ Some (of_truth c.fact)) (sym e) are.1, tt); taken = refl }
check-at t (m ∷ ns) n d (suc i) (c ∷ cs) are lt e =
    let rest = check-at t ns n d i cs are.2 (omega arith) e in
    record { check = rest.check; are = rest.are; taken = ap (λ ds. c ∷ ds) rest.taken }

add-one-taken : (i : ℕ) (cs : List Check) (c : Check) → take (suc i) cs ≡ take i cs ++ c ∷ [] → take (i + 1) cs ≡ take i cs ++ c ∷ []
add-one-taken i cs c h = ap (λ k. take k cs) (add-one i) ∙ h

all-taken : (t : Listing) (ns : List CheckNode) (i : ℕ) (cs : List Check) → AreChecks t ns cs → length ns ≤ i → take i cs ≡ cs
unfolding AreChecks
all-taken t [] zero [] are le = refl
all-taken t [] (suc i) [] are le = refl
all-taken t [] i (c ∷ cs) are le = absurd are
all-taken t (n ∷ ns) i [] are le = absurd are
all-taken t (n ∷ ns) zero (c ∷ cs) are le = absurd (omega arith)
all-taken t (n ∷ ns) (suc i) (c ∷ cs) are le = ap (λ ds. c ∷ ds) (all-taken t ns i cs are.2 (omega arith))

-- the fact at a place is a formula, also where the table has grown
pub fact-at : (t u : Listing) (ns : List CheckNode) (n d : CheckNode) (i : ℕ) → are_facts t ns ≡ true → i < length ns → n ≡ slice_index_or ns i d → Extends t u → is_truth (slice_get (nodes u) n.fact) ≡ true
unfolding are_facts
fact-at t u [] n d i h lt e g = absurd (omega arith)
fact-at t u (m ∷ ns) n d zero h lt e g =
    let here = truth-listed t m.fact (both-left (is_truth (slice_get (nodes t) m.fact)) (are_facts t ns) h) in
    subst (λ (k : CheckNode). is_truth (slice_get (nodes u) k.fact) ≡ true) (sym e) (truth-there u m.fact (the_truth (slice_get (nodes t) m.fact)) (g.nodes.keeps m.fact (of_truth (the_truth (slice_get (nodes t) m.fact))) here))
fact-at t u (m ∷ ns) n d (suc i) h lt e g = fact-at t u ns n d i (both-right (is_truth (slice_get (nodes t) m.fact)) (are_facts t ns) h) (omega arith) e g

-- one check is added under a guard
pub adds-guarded : (t u : Listing) (old new : List CheckNode) (n : CheckNode) (c : Check) (fact : ℕ) (f : FormulaTree) →
    new ≡ old ++ record { place = n.place; fact = fact } ∷ [] →
    AreChecks t (n ∷ []) (c ∷ []) →
    (slice_get (nodes t) n.fact ≡ Some (of_truth c.fact) → slice_get (nodes u) fact ≡ Some (of_truth (tree.implies f c.fact))) →
    AddsChecks u old new (guarded f c ∷ [])
unfolding AreChecks
adds-guarded t u old new n c fact f e are made = record { added = record { place = n.place; fact = fact } ∷ []; list = e; are = (are.0, made are.1, tt) }

-- the checks up to a place, and one more
pub adds-next : (t u v : Listing) (old mid new ns : List CheckNode) (n d : CheckNode) (i : ℕ) (f : FormulaTree) (cs : List Check) →
    AreChecks t ns cs → i < length ns → n ≡ slice_index_or ns i d → Extends u v →
    AddsChecks u old mid (map (guarded f) (take i cs)) →
    ((c : Check) → AreChecks t (n ∷ []) (c ∷ []) → AddsChecks v mid new (guarded f c ∷ [])) →
    AddsChecks v old new (map (guarded f) (take (i + 1) cs))
adds-next t u v old mid new ns n d i f cs are lt e g before one =
    let told = check-at t ns n d i cs are lt e in
    let c = told.check in
    subst (λ (ds : List Check). AddsChecks v old new ds) (sym (ap (map (guarded f)) (add-one-taken i cs c told.taken) ∙ map-append (guarded f) (take i cs) (c ∷ [])))
    (adds-two u v old mid new (map (guarded f) (take i cs)) (guarded f c ∷ []) before g (one c told.are))

-- all of them
pub adds-all : (t u : Listing) (old new ns : List CheckNode) (i : ℕ) (f : FormulaTree) (cs : List Check) →
    AreChecks t ns cs → length ns ≤ i → AddsChecks u old new (map (guarded f) (take i cs)) → AddsChecks u old new (map (guarded f) cs)
adds-all t u old new ns i f cs are le h = subst (λ (ds : List Check). AddsChecks u old new (map (guarded f) ds)) (all-taken t ns i cs are le) h

-- the checks that were added behind a place
pub start-within : (u : Listing) (mid new : List CheckNode) (start : ℕ) (cs : List Check) → start ≡ length mid → AddsChecks u mid new cs → start ≤ length new
start-within u mid new start cs e h = let whole : length new ≡ length mid + length h.added = ap length h.list ∙ length-append mid h.added in omega (arith, whole, e)

behind : (u : Listing) (mid new : List CheckNode) (start : ℕ) (cs : List Check) → start ≡ length mid → (h : AddsChecks u mid new cs) → drop start new ≡ h.added
behind u mid new start cs e h = ap (drop start) h.list ∙ drop_at mid h.added start (sym e)

pub checks-behind : (u : Listing) (mid new : List CheckNode) (start : ℕ) (cs : List Check) → start ≡ length mid → AddsChecks u mid new cs → AreChecks u (drop start new) cs
checks-behind u mid new start cs e h = subst (λ (xs : List CheckNode). AreChecks u xs cs) (sym (behind u mid new start cs e h)) h.are

pub facts-behind : (u : Listing) (mid new : List CheckNode) (start : ℕ) (cs : List Check) → start ≡ length mid → AddsChecks u mid new cs → are_facts u (drop start new) ≡ true
facts-behind u mid new start cs e h = are-facts u (drop start new) cs (checks-behind u mid new start cs e h)

pub before-start : (u : Listing) (mid new : List CheckNode) (start : ℕ) (cs : List Check) → start ≡ length mid → AddsChecks u mid new cs → take start new ≡ mid
before-start u mid new start cs e h = ap (take start) h.list ∙ take_at mid h.added start (sym e)

-- Checks, and others behind them under a guard; the table of each, and the one in which all stand.
pub guarded-behind : (t u v w : Listing) (old mid new last : List CheckNode) (start : ℕ) (f : FormulaTree) (cs ds : List Check) →
    start ≡ length mid → AddsChecks t old mid cs → Extends t w → AddsChecks u mid new ds → Extends v w →
    (AreChecks u (drop start new) ds → AddsChecks v (take start new) last (map (guarded f) ds)) →
    AddsChecks w old last (cs ++ map (guarded f) ds)
guarded-behind t u v w old mid new last start f cs ds e first g second k told =
    adds-two t w old mid last cs (map (guarded f) ds) first g
    (adds-grown v w mid last (map (guarded f) ds)
    (subst (λ (xs : List CheckNode). AddsChecks v xs last (map (guarded f) ds)) (before-start u mid new start ds e second) (told (checks-behind u mid new start ds e second))) k)

pub on-ok : {A E : Type 0} {P Q : Type 0} (r : Result A E) → (P → Q) → OnOk r P → OnOk r Q
on-ok (Ok x) f h = f h
on-ok (Err e) f h = tt

pub whatever : {A E : Type 0} {P : Type 0} (r : Result A E) → P → OnOk r P
whatever (Ok x) h = h
whatever (Err e) h = tt

pub ruleset check_steps = (adds-none, adds-grown, adds-two, adds-one, truth-there, object-there)
