-- The union of the sets of classes, and that no two have a common object, as loops gather them.
use Rattle.std.proofs.Common.{◌≡◌, refl, sym, ap, ◌∙◌, subst, ℕ, zero, suc, ◌+◌, true, ◌≤◌, add-one, List, [], ◌∷◌, map, drop, length, Some, slice_get}
use Rattle.std.proofs.lemmas.List.{drop_all}
use Rattle.std.specs.List.{flat_map}
use Rattle.std.specs.Borrow.{Bor}
use Rattle.jh_form.specs.Tree.{SetTree, FormulaTree, of_set}
use Rattle.jh_form.specs.Tree as tree
use Rattle.jh_arena.specs.table.Entries.{Listing, the_set, is_set}
use Rattle.jh_arena.specs.table.Growth.{Extends}
use Rattle.jh_arena.specs.table.Nodes.{nodes}
use Rattle.jh_semantics.specs.Code.{Text}
use Rattle.jh_semantics.specs.WellFormed.{set_of, union_of, union_with, apart}
use Rattle.jh_state_facts.specs.well_formedness.Facts.{AddsFacts}
use Rattle.jh_state_facts.specs.well_formedness.States.{texts_in}
use Rattle.jh_state_facts.proofs.well_formedness.FactSteps.{adds-two, adds-none}

-- The union of the sets so far, with those that are left, is that of all.
pub record Joins (t : Listing) (made : ℕ) (rest all : List Text) : Type 0 where
  pub set : SetTree
  pub node : slice_get (nodes t) made ≡ Some (of_set set)
  pub is : union_with set rest ≡ union_of all

drop-there : {X : Type 0} (xs : List X) (x : X) (i : ℕ) → slice_get xs i ≡ Some x → drop i xs ≡ x ∷ drop (suc i) xs
drop-there [] x i h = absurd (cc)
drop-there (y ∷ ys) x zero h = let same : y ≡ x = cc in ap (λ z. z ∷ ys) same
drop-there (y ∷ ys) x (suc i) h = drop-there ys x i h

pub drop-some : {X : Type 0} (xs : List X) (x : X) (i : ℕ) → slice_get xs i ≡ Some x → drop i xs ≡ x ∷ drop (i + 1) xs
drop-some xs x i h = drop-there xs x i h ∙ ap (λ k. x ∷ drop k xs) (sym (add-one i))

pub joins-first : (t : Listing) (made : ℕ) (x : Text) (all : List Text) → slice_get (nodes t) made ≡ Some (of_set (set_of x)) → slice_get all 0 ≡ Some x → Joins t made (drop 1 all) all
joins-first t made x [] h e = absurd (cc)
joins-first t made x (y ∷ ys) h e = let same : y ≡ x = cc in record { set = set_of x; node = h; is = ap (λ z. union_with (set_of z) ys) (sym same) }

pub set-there : (t : Listing) (n : ℕ) (a : SetTree) → slice_get (nodes t) n ≡ Some (of_set a) → is_set (slice_get (nodes t) n) ≡ true
unfolding is_set
set-there t n a h = ap is_set h

pub the-set : (t : Listing) (n : ℕ) (a : SetTree) → slice_get (nodes t) n ≡ Some (of_set a) → the_set (slice_get (nodes t) n) ≡ a
unfolding the_set
the-set t n a h = ap the_set h

pub joins-next : (t u v : Listing) (made set new i : ℕ) (x : Text) (all : List Text) → Joins t made (drop i all) all → slice_get all i ≡ Some x → Extends t u →
    slice_get (nodes u) set ≡ Some (of_set (set_of x)) →
    slice_get (nodes v) new ≡ Some (of_set (tree.union (the_set (slice_get (nodes u) made)) (the_set (slice_get (nodes u) set)))) →
    Joins v new (drop (i + 1) all) all
joins-next t u v made set new i x all h at g there made_is =
    let first = the-set u made h.set (g.nodes.keeps made (of_set h.set) h.node) in
    record {
      set = tree.union h.set (set_of x);
      node = made_is ∙ (λ k. Some (of_set (tree.union (first k) (the-set u set (set_of x) there k))));
      is = sym (ap (union_with h.set) (drop-some all x i at)) ∙ h.is;
    }

pub joins-all : (t : Listing) (made i : ℕ) (all : List Text) → Joins t made (drop i all) all → length all ≤ i → slice_get (nodes t) made ≡ Some (of_set (union_of all))
joins-all t made i all h le = h.node ∙ ap (λ a. Some (of_set a)) (sym (ap (union_with h.set) (drop_all i all le)) ∙ h.is)

map-behind : {X Y : Type 0} (f : X → Y) (xs : List X) (k : ℕ) → map f (drop k xs) ≡ drop k (map f xs)
map-behind f xs zero = refl
map-behind f [] (suc k) = refl
map-behind f (x ∷ xs) (suc k) = map-behind f xs k

-- the texts from a place on
pub texts-behind : (texts rest : List (Bor (List ℕ))) (k : ℕ) → rest ≡ drop k texts → texts_in rest ≡ drop k (texts_in texts)
texts-behind texts rest k e = ap texts_in e ∙ map-behind (λ x. x.now) texts k

-- one class and those behind it, before those that are left
pub apart-more : (v u : Listing) (mid next new : List ℕ) (i : ℕ) (x : Text) (all : List Text) → slice_get all i ≡ Some x →
    AddsFacts v mid next (map (λ d. tree.eq_set (tree.inter (set_of x) (set_of d)) tree.empty) (drop (i + 1) all)) → Extends v u →
    AddsFacts u next new (apart (drop (i + 1) all)) → AddsFacts u mid new (apart (drop i all))
apart-more v u mid next new i x all at one g rest =
    subst (λ fs. AddsFacts u mid new fs) (sym (ap apart (drop-some all x i at)))
    (adds-two v u mid next new (map (λ d. tree.eq_set (tree.inter (set_of x) (set_of d)) tree.empty) (drop (i + 1) all)) (apart (drop (i + 1) all)) one g rest)

pub apart-end : (t : Listing) (ns : List ℕ) (i : ℕ) (all : List Text) → length all ≤ i → AddsFacts t ns ns (apart (drop i all))
apart-end t ns i all le = subst (λ fs. AddsFacts t ns ns fs) (sym (ap apart (drop_all i all le))) (adds-none t ns)

-- one fact for each
pub singles : {X : Type 0} (f : X → FormulaTree) (xs : List X) → flat_map (λ x. f x ∷ []) (map (λ x. x) xs) ≡ map f xs
singles f [] = refl
singles f (x ∷ xs) = ap (λ ys. f x ∷ ys) (singles f xs)

pub ruleset class_steps = (set-there)
