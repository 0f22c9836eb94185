-- Formulas that are added to a list: one after another, and while the table grows.
use Rattle.std.proofs.Common.{◌≡◌, sym, ap, ◌∙◌, subst, ℕ, zero, suc, ◌+◌, ◌<◌, ◌≤◌, arith, add-one, List, [], ◌∷◌, ◌++◌, map, take, length, get_or, Some, slice_get, append_assoc, append-nil, Result, Ok, Err, IfOk, OnOk}
use Rattle.std.proofs.lemmas.Grind.{flat_map-append}
use Rattle.std.proofs.lemmas.List.{take_all, map-append}
use Rattle.std.specs.List.{flat_map}
use Rattle.jh_form.specs.Tree.{FormulaTree, of_truth}
use Rattle.jh_arena.specs.table.Entries.{Listing}
use Rattle.jh_arena.specs.table.Growth.{Extends}
use Rattle.jh_arena.specs.table.Nodes.{nodes}
use Rattle.jh_state_facts.specs.well_formedness.Facts.{AreFacts, AddsFacts}

pub if-ok : {A E : Type 0} {P Q : A → Type 0} (r : Result A E) → ((x : A) → P x → Q x) → IfOk r P → IfOk r Q
if-ok (Ok x) f h = f x h
if-ok (Err e) f h = tt

pub on-ok : {A E : Type 0} {P Q : Type 0} (r : Result A E) → (P → Q) → OnOk r P → OnOk r Q
on-ok (Ok x) f h = f h
on-ok (Err e) f h = tt

pub facts-grow : (t u : Listing) (ns : List ℕ) (fs : List FormulaTree) → Extends t u → AreFacts t ns fs → AreFacts u ns fs
unfolding AreFacts
facts-grow t u [] [] g h = tt
facts-grow t u [] (f ∷ fs) g h = h
facts-grow t u (n ∷ ns) [] g h = h
facts-grow t u (n ∷ ns) (f ∷ fs) g h = (g.nodes.keeps n (of_truth f) h.0, facts-grow t u ns fs g h.1)

pub facts-append : (t : Listing) (ns ms : List ℕ) (fs gs : List FormulaTree) → AreFacts t ns fs → AreFacts t ms gs → AreFacts t (ns ++ ms) (fs ++ gs)
unfolding AreFacts
facts-append t [] ms [] gs h k = k
facts-append t [] ms (f ∷ fs) gs h k = absurd h
facts-append t (n ∷ ns) ms [] gs h k = absurd h
facts-append t (n ∷ ns) ms (f ∷ fs) gs h k = (h.0, facts-append t ns ms fs gs h.1 k)

pub adds-none : (t : Listing) (ns : List ℕ) → AddsFacts t ns ns []
unfolding AreFacts
adds-none t ns = record { added = []; list = sym (append-nil ns); are = tt }

pub adds-grown : (t u : Listing) (ns ms : List ℕ) (fs : List FormulaTree) → AddsFacts t ns ms fs → Extends t u → AddsFacts u ns ms fs
adds-grown t u ns ms fs h g = record { added = h.added; list = h.list; are = facts-grow t u h.added fs g h.are }

pub adds-two : (t u : Listing) (ns ms os : List ℕ) (fs gs : List FormulaTree) → AddsFacts t ns ms fs → Extends t u → AddsFacts u ms os gs → AddsFacts u ns os (fs ++ gs)
adds-two t u ns ms os fs gs h g k = record {
  added = h.added ++ k.added;
  list = k.list ∙ ap (λ xs. xs ++ k.added) h.list ∙ append_assoc ns h.added k.added;
  are = facts-append u h.added k.added fs gs (facts-grow t u h.added fs g h.are) k.are;
}

pub adds-one : (t : Listing) (ns ms : List ℕ) (n : ℕ) (f : FormulaTree) → ms ≡ ns ++ n ∷ [] → slice_get (nodes t) n ≡ Some (of_truth f) → AddsFacts t ns ms (f ∷ [])
unfolding AreFacts
adds-one t ns ms n f e h = record { added = n ∷ []; list = e; are = (h, tt) }

taken-more : {X : Type 0} (xs : List X) (x : X) (i : ℕ) → slice_get xs i ≡ Some x → take (suc i) xs ≡ take i xs ++ x ∷ []
taken-more [] x i h = absurd (cc)
taken-more (y ∷ ys) x zero h = let same : y ≡ x = cc in ap (λ z. z ∷ []) same
taken-more (y ∷ ys) x (suc i) h = ap (λ zs. y ∷ zs) (taken-more ys x i h)

pub at-place : {X : Type 0} (xs : List X) (x : X) (i : ℕ) → i < length xs → x ≡ get_or xs i x → slice_get xs i ≡ Some x
at-place [] x i lt e = absurd (omega arith)
at-place (y ∷ ys) x zero lt e = ap Some (sym e)
at-place (y ∷ ys) x (suc i) lt e = at-place ys x i (omega arith) e

-- What is added for the things before a place, and for one more. The things are looked at by a view.
pub adds-next : {X Y : Type 0} (f : Y → List FormulaTree) (view : X → Y) (xs : List X) (x : X) (i : ℕ) (t u : Listing) (old mid new : List ℕ) →
    slice_get xs i ≡ Some x → Extends t u → AddsFacts t old mid (flat_map f (map view (take i xs))) → AddsFacts u mid new (f (view x)) →
    AddsFacts u old new (flat_map f (map view (take (i + 1) xs)))
adds-next f view xs x i t u old mid new at g before one =
    let more : take (i + 1) xs ≡ take i xs ++ x ∷ [] = ap (λ k. take k xs) (add-one i) ∙ taken-more xs x i at in
    let told : flat_map f (map view (take (i + 1) xs)) ≡ flat_map f (map view (take i xs)) ++ f (view x) =
    ap (λ ys. flat_map f (map view ys)) more ∙ ap (flat_map f) (map-append view (take i xs) (x ∷ [])) ∙ flat_map-append f (map view (take i xs)) (view x ∷ [])
    ∙ ap (λ ys. flat_map f (map view (take i xs)) ++ ys) (append-nil (f (view x))) in
    subst (λ fs. AddsFacts u old new fs) (sym told) (adds-two t u old mid new (flat_map f (map view (take i xs))) (f (view x)) before g one)

pub adds-all : {X Y : Type 0} (f : Y → List FormulaTree) (view : X → Y) (xs : List X) (i : ℕ) (u : Listing) (old new : List ℕ) →
    length xs ≤ i → AddsFacts u old new (flat_map f (map view (take i xs))) → AddsFacts u old new (flat_map f (map view xs))
adds-all f view xs i u old new le h = subst (λ ys. AddsFacts u old new (flat_map f (map view ys))) (take_all i xs le) h

pub ruleset fact_steps = (adds-none, adds-one)
