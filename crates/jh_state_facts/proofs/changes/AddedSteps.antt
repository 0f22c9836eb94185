-- Commands that are added to a list: one after another, and while the table grows.
use Rattle.std.proofs.Common.{◌≡◌, refl, sym, ap, ◌∙◌, subst, ℕ, zero, suc, ◌+◌, ◌<◌, ◌≤◌, arith, add-one, true, ◌&&◌, List, [], ◌∷◌, ◌++◌, map, take, drop, length, Some, None, slice_get, slice_index_or, is_some, append_assoc, append-nil, Result, Ok, Err, OnOk}
use Rattle.std.proofs.lemmas.List.{map-append, take_all, drop_all}
use Rattle.std.specs.List.{flat_map}
use Rattle.jh_name.specs.declared.naming.Name.{Name}
use Rattle.jh_form.specs.Tree.{ValueTree, FormulaTree, of_truth}
use Rattle.jh_form.specs.Tree as tree
use Rattle.jh_form.proofs.ClosedLemmas.{both-left, both-right}
use Rattle.jh_arena.specs.table.Entries.{Listing, the_value, the_truth, is_truth}
use Rattle.jh_arena.specs.table.Growth.{Extends}
use Rattle.jh_arena.specs.table.Nodes.{nodes}
use Rattle.jh_command_terms.specs.jh_wp.Command.{CommandTree}
use Rattle.jh_command_terms.specs.jh_wp.Command as w
use Rattle.jh_command_terms.specs.declared.command.command.Command.{Command}
use Rattle.jh_command_terms.specs.declared.command.command.Command.TheVariants as c
use Rattle.jh_command_terms.specs.command.Code.{command_in, command_fits, list_fits}
use Rattle.jh_command_terms.proofs.command.CodeSteps.{command-grows, list-fits-grows}
use Rattle.jh_semantics.specs.State.{named}
use Rattle.jh_command_terms.specs.jh_guard.Items.{Item, sorted_item, item_text}
use Rattle.jh_command_terms.specs.jh_guard.Steps.{fresh, havocs}
use Rattle.jh_state_facts.specs.declared.changes.names.SortedName.{SortedName}
use Rattle.jh_state_facts.specs.changes.Added.{AddsCommands, sorted_in, grew}

list-grows : (t u : Listing) (cs : List Command) → Extends t u → list_fits t cs ≡ true → map (command_in u) cs ≡ map (command_in t) cs
list-grows t u [] g h = refl
list-grows t u (a ∷ cs) g h =
    λ i. command-grows t u g a (both-left (command_fits t a) (list_fits t cs) h) i ∷ list-grows t u cs g (both-right (command_fits t a) (list_fits t cs) h) i

list-fits-append : (t : Listing) (cs ds : List Command) → list_fits t cs ≡ true → list_fits t ds ≡ true → list_fits t (cs ++ ds) ≡ true
list-fits-append t [] ds h k = k
list-fits-append t (a ∷ cs) ds h k =
    λ i. both-left (command_fits t a) (list_fits t cs) h i && list-fits-append t cs ds (both-right (command_fits t a) (list_fits t cs) h) k i

pub adds-none : (t : Listing) (cs : List Command) → AddsCommands t cs cs []
adds-none t cs = record { added = []; list = sym (append-nil cs); are = refl; fits = refl }

pub adds-two : (t u : Listing) (old mid new : List Command) (fs gs : List CommandTree) → AddsCommands t old mid fs → Extends t u → AddsCommands u mid new gs → AddsCommands u old new (fs ++ gs)
adds-two t u old mid new fs gs h g k = record {
  added = h.added ++ k.added;
  list = k.list ∙ ap (λ xs. xs ++ k.added) h.list ∙ append_assoc old h.added k.added;
  are = map-append (command_in u) h.added k.added ∙ (λ i. (list-grows t u h.added g h.fits ∙ h.are) i ++ k.are i);
  fits = list-fits-append u h.added k.added (list-fits-grows t u g h.added h.fits) k.fits;
}

pub adds-grown : (t u : Listing) (old new : List Command) (fs : List CommandTree) → AddsCommands t old new fs → Extends t u → AddsCommands u old new fs
adds-grown t u old new fs h g = record { added = h.added; list = h.list; are = list-grows t u h.added g h.fits ∙ h.are; fits = list-fits-grows t u g h.added h.fits }

pub adds-assign : (t : Listing) (old new : List Command) (x : Name) (n : ℕ) (v : ValueTree) → new ≡ old ++ c.Assign x n ∷ [] → slice_get (nodes t) n ≡ Some v → AddsCommands t old new (w.assign x v ∷ [])
unfolding command_in command_fits the_value
adds-assign t old new x n v e h = record {
  added = c.Assign x n ∷ [];
  list = e;
  are = λ i. w.assign x (the_value (h i)) ∷ [];
  fits = λ i. is_some (h i) && true;
}

pub adds-havoc : (t : Listing) (old new : List Command) (x y : Name) → new ≡ old ++ c.Havoc x y ∷ [] → AddsCommands t old new (w.havoc x y ∷ [])
unfolding command_in command_fits
adds-havoc t old new x y e = record { added = c.Havoc x y ∷ []; list = e; are = refl; fits = refl }

pub adds-assume : (t : Listing) (old new : List Command) (n : ℕ) (f : FormulaTree) → new ≡ old ++ c.Assume n ∷ [] → slice_get (nodes t) n ≡ Some (of_truth f) → AddsCommands t old new (w.assume f ∷ [])
unfolding command_in command_fits the_truth is_truth
adds-assume t old new n f e h = record {
  added = c.Assume n ∷ [];
  list = e;
  are = λ i. w.assume (the_truth (h i)) ∷ [];
  fits = λ i. is_truth (h i) && true;
}

taken-more : {X : Type 0} (xs : List X) (x : X) (i : ℕ) → slice_get xs i ≡ Some x → take (suc i) xs ≡ take i xs ++ x ∷ []
taken-more [] x i h = absurd (cc)
taken-more (y ∷ ys) x zero h = let same : y ≡ x = cc in ap (λ z. z ∷ []) same
taken-more (y ∷ ys) x (suc i) h = ap (λ zs. y ∷ zs) (taken-more ys x i h)

-- What is added for the things before a place, and for one more; each is one command. The things are looked at by a view.
pub adds-next : {X Y : Type 0} (f : Y → CommandTree) (view : X → Y) (xs : List X) (x : X) (i : ℕ) (t u : Listing) (old mid new : List Command) →
    slice_get xs i ≡ Some x → Extends t u → AddsCommands t old mid (map f (map view (take i xs))) → AddsCommands u mid new (f (view x) ∷ []) →
    AddsCommands u old new (map f (map view (take (i + 1) xs)))
adds-next f view xs x i t u old mid new at g before one =
    let more : take (i + 1) xs ≡ take i xs ++ x ∷ [] = ap (λ k. take k xs) (add-one i) ∙ taken-more xs x i at in
    let told : map f (map view (take (i + 1) xs)) ≡ map f (map view (take i xs)) ++ f (view x) ∷ [] =
    ap (λ ys. map f (map view ys)) more ∙ ap (map f) (map-append view (take i xs) (x ∷ [])) ∙ map-append f (map view (take i xs)) (view x ∷ []) in
    subst (λ fs. AddsCommands u old new fs) (sym told) (adds-two t u old mid new (map f (map view (take i xs))) (f (view x) ∷ []) before g one)

pub adds-all : {X Y : Type 0} (f : Y → CommandTree) (view : X → Y) (xs : List X) (i : ℕ) (u : Listing) (old new : List Command) →
    length xs ≤ i → AddsCommands u old new (map f (map view (take i xs))) → AddsCommands u old new (map f (map view xs))
adds-all f view xs i u old new le h = subst (λ ys. AddsCommands u old new (map f (map view ys))) (take_all i xs le) h

drop-there : {X : Type 0} (xs : List X) (x : X) (i : ℕ) → slice_get xs i ≡ Some x → drop i xs ≡ x ∷ drop (suc i) xs
drop-there [] x i h = absurd (cc)
drop-there (y ∷ ys) x zero h = let same : y ≡ x = cc in ap (λ z. z ∷ ys) same
drop-there (y ∷ ys) x (suc i) h = drop-there ys x i h

-- the havoc of one name, before those that are left
pub havoc-more : (t : Listing) (old mid new : List Command) (names : List SortedName) (x : SortedName) (i k : ℕ) → slice_get names i ≡ Some x →
    AddsCommands t old mid (w.havoc (named x.text.now) (fresh x.text.now k) ∷ []) → Extends t t →
    AddsCommands t mid new (havocs (sorted_in (drop (i + 1) names)) (suc k)) → AddsCommands t old new (havocs (sorted_in (drop i names)) k)
havoc-more t old mid new names x i k at one g rest =
    subst (λ xs. AddsCommands t old new (havocs (sorted_in xs) k)) (sym (drop-there names x i at ∙ ap (λ j. x ∷ drop j names) (sym (add-one i))))
    (adds-two t t old mid new (w.havoc (named x.text.now) (fresh x.text.now k) ∷ []) (havocs (sorted_in (drop (i + 1) names)) (suc k)) one g rest)

pub havocs-end : (t : Listing) (cs : List Command) (names : List SortedName) (i k : ℕ) → length names ≤ i → AddsCommands t cs cs (havocs (sorted_in (drop i names)) k)
havocs-end t cs names i k le = subst (λ xs. AddsCommands t cs cs (havocs (sorted_in xs) k)) (sym (drop_all i names le)) (adds-none t cs)

-- that sets only grew, over pieces of the state
pub grew-items : (k : ℕ) (xs : List Item) → map (grew k) (map sorted_item xs) ≡ map (λ (x : Item). w.assume (tree.subset (tree.free_set (fresh (item_text x) k)) (tree.free_set (named (item_text x))))) xs
grew-items k [] = refl
grew-items k (x ∷ xs) = ap (λ cs. grew k (sorted_item x) ∷ cs) (grew-items k xs)

pub at-index : (ns : List ℕ) (i d : ℕ) → i < length ns → slice_get ns i ≡ Some (slice_index_or ns i d)
at-index [] i d lt = absurd (omega arith)
at-index (n ∷ ns) zero d lt = refl
at-index (n ∷ ns) (suc i) d lt = at-index ns i d (omega arith)

pub nothing-at : {X : Type 0} (xs : List X) (i : ℕ) → length xs ≤ i → slice_get xs i ≡ None
nothing-at [] i le = refl
nothing-at (x ∷ xs) zero le = absurd (omega arith)
nothing-at (x ∷ xs) (suc i) le = nothing-at xs i (omega arith)

-- a map of what several things give
pub map-each : {X Y Z : Type 0} (f : Y → Z) (g : X → List Y) (xs : List X) → flat_map (λ x. map f (g x)) (map (λ x. x) xs) ≡ map f (flat_map g xs)
map-each f g [] = refl
map-each f g (x ∷ xs) = ap (λ ys. map f (g x) ++ ys) (map-each f g xs) ∙ sym (map-append f (g x) (flat_map g xs))

pub on-ok : {A E : Type 0} {P Q : Type 0} (r : Result A E) → (P → Q) → OnOk r P → OnOk r Q
on-ok (Ok x) f h = f h
on-ok (Err e) f h = tt

pub ruleset added_steps = (adds-none, adds-grown, adds-assign, adds-havoc, adds-assume)
