-- The state that a heap lists is whole.
use Rattle.std.proofs.Common.{◌≡◌, refl, sym, ℕ, zero, suc, ◌<◌, ◌==◌, ◌||◌, nat_lt, arith, Bool, true, false, List, [], ◌∷◌, Some, slice_get}
use Rattle.std.specs.List.{list_any, list_all}
use Rattle.std.proofs.lemmas.Bool.{true≢false}
use Rattle.std.proofs.lemmas.Bool.Decides.{nat_tests}
use Rattle.jh_name.specs.declared.place.Kind.{Kind}
use Rattle.jh_name.specs.declared.place.Kind.TheVariants as k
use Rattle.jh_form.specs.Meaning.{a_set, a_field}
use Rattle.jh_form.specs.Assigned.{assigned}
use Rattle.jh_form.proofs.ClosedLemmas.{both-left, both-right}
use Rattle.jh_semantics.specs.Code.{Text}
use Rattle.jh_semantics.specs.Program.{Program, Member}
use Rattle.jh_semantics.specs.State.{State, IsWhole, named, alloc_name}
use Rattle.jh_semantics.specs.WellFormed.{all_classes}
use Rattle.jh_semantics.specs.Laws.{IsInside}
use Rattle.jh_semantics.specs.Heaps.{Cell, object, number, truth_value, set, Heap, IsHeap, AreStatics, AreFields, is_in, is_listing, is_ascending, is_cell, cell_value, object_in, set_in, field_value, empty_state, with_classes, with_statics, with_fields, statics_of, fields_of, state_of}
use Rattle.jh_semantics.proofs.Inside.{SetLies, FieldLies, Lies, lies-whole, assigned-lies, stored-lies}

-- a member of a list of objects is one of them
same-lies : (n a b : ℕ) → nat_lt b (suc n) ≡ true → (b == a) ≡ true → a < suc n
same-lies n a b l e = grind (arith, nat_tests)

one-lies : (n a b : ℕ) (t u : Bool) → nat_lt b (suc n) ≡ true → (b == a) ≡ t → (u ≡ true → a < suc n) → (t || u) ≡ true → a < suc n
one-lies n a b true u l e f h = same-lies n a b l e
one-lies n a b false u l e f h = f h

list-lies : (n : ℕ) (xs : List ℕ) → list_all (λ a. nat_lt a (suc n)) xs ≡ true → SetLies n (λ a. is_in a xs)
list-lies n [] h a i = absurd (true≢false (sym i))
list-lies n (b ∷ xs) h a i =
    one-lies n a b (b == a) (is_in a xs) (both-left (nat_lt b (suc n)) (list_all (λ c. nat_lt c (suc n)) xs) h) refl
    (λ g. list-lies n xs (both-right (nat_lt b (suc n)) (list_all (λ c. nat_lt c (suc n)) xs) h) a g) i

listing-lies : (n : ℕ) (xs : List ℕ) → is_listing n xs ≡ true → SetLies n (λ a. is_in a xs)
listing-lies n xs h = list-lies n xs (both-left (list_all (λ a. nat_lt a (suc n)) xs) (is_ascending xs) h)

either-lies : (n a : ℕ) (t u : Bool) → (t ≡ true → a < suc n) → (u ≡ true → a < suc n) → (t || u) ≡ true → a < suc n
either-lies n a true u f g h = f refl
either-lies n a false u f g h = g h

listings-lie : (n : ℕ) (classes : List (List ℕ)) → list_all (is_listing n) classes ≡ true → SetLies n (λ a. list_any (is_in a) classes)
listings-lie n [] h a i = absurd (true≢false (sym i))
listings-lie n (xs ∷ rest) h a i =
    either-lies n a (is_in a xs) (list_any (is_in a) rest) (λ g. listing-lies n xs (both-left (is_listing n xs) (list_all (is_listing n) rest) h) a g)
    (λ g. listings-lie n rest (both-right (is_listing n xs) (list_all (is_listing n) rest) h) a g) i

-- cells
no-such-cell : {A : Type 0} → false ≡ true → A
no-such-cell h = absurd (true≢false (sym h))

object-cell : (n a : ℕ) → nat_lt a (suc n) ≡ true → a < suc n
object-cell n a h = grind (arith, nat_tests)

cell-object : (n : ℕ) (kind : Kind) (cell : Cell) → is_cell n kind cell ≡ true → object_in (Some cell) < suc n
cell-object n k.Obj (object a) h = object-cell n a h
cell-object n k.Int (object a) h = no-such-cell h
cell-object n k.Bool (object a) h = no-such-cell h
cell-object n k.Set (object a) h = no-such-cell h
cell-object n kind (number z) h = omega arith
cell-object n kind (truth_value b) h = omega arith
cell-object n kind (set xs) h = omega arith

empty-lies : (n : ℕ) → SetLies n (λ a. false)
empty-lies n a h = no-such-cell h

cell-set : (n : ℕ) (kind : Kind) (cell : Cell) → is_cell n kind cell ≡ true → SetLies n (set_in (Some cell))
cell-set n k.Set (set xs) h = listing-lies n xs h
cell-set n k.Obj (set xs) h = no-such-cell h
cell-set n k.Int (set xs) h = no-such-cell h
cell-set n k.Bool (set xs) h = no-such-cell h
cell-set n kind (object a) h = empty-lies n
cell-set n kind (number z) h = empty-lies n
cell-set n kind (truth_value b) h = empty-lies n

cell-inside : (n : ℕ) (kind : Kind) (cell : Cell) → is_cell n kind cell ≡ true → IsInside n (cell_value cell)
cell-inside n k.Obj (object a) h = object-cell n a h
cell-inside n k.Int (object a) h = no-such-cell h
cell-inside n k.Bool (object a) h = no-such-cell h
cell-inside n k.Set (object a) h = no-such-cell h
cell-inside n kind (number z) h = tt
cell-inside n kind (truth_value b) h = tt
cell-inside n kind (set xs) h = tt

-- fields
cells-object : (n : ℕ) (kind : Kind) (cells : List Cell) → list_all (is_cell n kind) cells ≡ true → (a : ℕ) → object_in (slice_get cells a) < suc n
cells-object n kind [] h a = omega arith
cells-object n kind (cell ∷ cells) h zero = cell-object n kind cell (both-left (is_cell n kind cell) (list_all (is_cell n kind) cells) h)
cells-object n kind (cell ∷ cells) h (suc a) = cells-object n kind cells (both-right (is_cell n kind cell) (list_all (is_cell n kind) cells) h) a

cells-set : (n : ℕ) (kind : Kind) (cells : List Cell) → list_all (is_cell n kind) cells ≡ true → (a : ℕ) → SetLies n (set_in (slice_get cells a))
cells-set n kind [] h a = empty-lies n
cells-set n kind (cell ∷ cells) h zero = cell-set n kind cell (both-left (is_cell n kind cell) (list_all (is_cell n kind) cells) h)
cells-set n kind (cell ∷ cells) h (suc a) = cells-set n kind cells (both-right (is_cell n kind cell) (list_all (is_cell n kind) cells) h) a

cells-lie : (n : ℕ) (kind : Kind) (cells : List Cell) → list_all (is_cell n kind) cells ≡ true → FieldLies n (field_value cells)
cells-lie n kind cells h = record { objects = λ a i. cells-object n kind cells h a; sets = λ a i. cells-set n kind cells h a }

-- states
empty-state-lies : (n : ℕ) → Lies n (empty_state n)
empty-state-lies n = record { last = refl; object = λ x. omega arith; set = λ x. empty-lies n; field = λ x. cells-lie n k.Obj [] refl }

classes-lie : (n : ℕ) (cs : List Text) (classes : List (List ℕ)) (s : State) → list_all (is_listing n) classes ≡ true → Lies n s → Lies n (with_classes cs classes s)
classes-lie n (c ∷ cs) (xs ∷ rest) s h l =
    assigned-lies n (with_classes cs rest s) (named c) (a_set (λ a. is_in a xs)) (classes-lie n cs rest s (both-right (is_listing n xs) (list_all (is_listing n) rest) h) l)
    (listing-lies n xs (both-left (is_listing n xs) (list_all (is_listing n) rest) h))
classes-lie n [] classes s h l = l
classes-lie n (c ∷ cs) [] s h l = l

statics-lie : (n : ℕ) (xs : List Member) (cells : List Cell) (s : State) → AreStatics n xs cells → Lies n s → Lies n (with_statics xs cells s)
statics-lie n (x ∷ xs) (cell ∷ cells) s h l = stored-lies n (with_statics xs cells s) x.text (cell_value cell) (statics-lie n xs cells s h.1 l) (cell-inside n x.kind cell h.0)
statics-lie n [] cells s h l = l
statics-lie n (x ∷ xs) [] s h l = l

fields-lie : (n : ℕ) (xs : List Member) (fields : List (List Cell)) (s : State) → AreFields n xs fields → Lies n s → Lies n (with_fields xs fields s)
fields-lie n (x ∷ xs) (cells ∷ rest) s h l =
    assigned-lies n (with_fields xs rest s) (named x.text) (a_field (field_value cells)) (fields-lie n xs rest s h.1 l) (cells-lie n x.kind cells (h.0).cells_fit)
fields-lie n [] fields s h l = l
fields-lie n (x ∷ xs) [] s h l = l

heap-lies : (p : Program) (h : Heap) → IsHeap p h → Lies h.greatest (state_of p h)
heap-lies p h i =
    let n : ℕ = h.greatest in
    let alloc : State = assigned (empty_state n) alloc_name (a_set (λ a. list_any (is_in a) h.classes)) in
    let classes : State = with_classes (all_classes p.classes) h.classes alloc in
    let statics : State = with_statics (statics_of p) h.statics classes in
    fields-lie n (fields_of p) h.fields statics i.fields_fit (
    statics-lie n (statics_of p) h.statics classes i.statics_fit (
    classes-lie n (all_classes p.classes) h.classes alloc i.objects (
    assigned-lies n (empty_state n) alloc_name (a_set (λ a. list_any (is_in a) h.classes)) (empty-state-lies n) (listings-lie n h.classes i.objects))))

pub heaps-are-whole : (p : Program) (h : Heap) → IsHeap p h → IsWhole (state_of p h)
heaps-are-whole p h i = lies-whole h.greatest (state_of p h) (heap-lies p h i)
