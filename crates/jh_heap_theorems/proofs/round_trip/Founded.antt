-- The heap of a draft is one of the program, and its arguments are the method's.
use Rattle.std.proofs.Common.{◌≡◌, refl, sym, ap, subst, ◌∙◌, ◌⊎◌, inl, inr, arith, ℕ, zero, suc, ◌+◌, ◌<◌, ◌==◌, ◌&&◌, ◌||◌, not, nat_lt, Bool, true, false, true≢false, List, [], ◌∷◌, length, map, codes, Option, Some, None, is_some, is_none, slice_get, eqb-true, lt-ltb, ltb-false}
use Rattle.std.specs.List.{Contains, AllByRecursion, list_any, list_all}
use Rattle.std.specs.Option.{option_map_or}
use Rattle.std.proofs.lemmas.Bool.{and_from, or_parts, false_from_ne_true}
use Rattle.std.proofs.lemmas.List.{length-map}
use Rattle.std.proofs.lemmas.List.Elements.{Contains-append_left}
use Rattle.jh_name.specs.declared.place.Kind.{Kind}
use Rattle.jh_name.specs.declared.place.Kind.TheVariants as k
use Rattle.jh_rules.specs.declared.types.Ty.{Ty}
use Rattle.jh_rules.specs.declared.types.Ty.TheVariants as ty
use Rattle.jh_rules.specs.Kinds.{kind_of}
use Rattle.jh_semantics.specs.Code.{Text, Local}
use Rattle.jh_semantics.specs.Program.{Program, Method, Member, class_at}
use Rattle.jh_semantics.specs.State.{State, named, alloc_name}
use Rattle.jh_semantics.specs.Entry.{LiesIn, AllLieIn, ThisLiesIn}
use Rattle.jh_semantics.specs.WellFormed.{all_classes}
use Rattle.jh_semantics.specs.Typed.{IsType, NamesFit}
use Rattle.jh_semantics.specs.Heaps.{Cell, object, number, truth_value, set, Heap, Args, IsHeap, AreArgs, HasThis, AreStatics, AreFields, is_in, is_listing, is_ascending, is_cell, cell_value, field_value, object_in, number_in, truth_in, set_in, statics_of, fields_of, state_of}
use Rattle.jh_semantics.proofs.Formed.{IsDefault, IsClass, ObjectLies, Formed}
use Rattle.jh_semantics.proofs.Facts.{formed-facts}
use Rattle.jh_heap.specs.lines.Lines.{is_plain}
use Rattle.jh_heap.specs.text.Outlines.{Holder, member_holder, parameter_holder, outline_of}
use Rattle.jh_heap.specs.text.Drafts.{Draft, place_of, default_cell}
use Rattle.jh_heap.specs.text.Rules.{has_object, is_of, is_of_some, is_no_object}
use Rattle.jh_heap.specs.text.Reading.{cell_or, cells_or, rows_or, objects_or, heap_of, args_of, is_lacking}
use Rattle.jh_heap_theorems.specs.round_trip.Names.{TextsFit, HasValues, SignatureFits}
use Rattle.jh_heap_theorems.proofs.round_trip.Shown.{contains-here, contains-behind, each-of, ClassesShown, IsShown, StaticsShown, FieldsShown, HeapShown, heap-shown}
use Rattle.jh_heap_theorems.proofs.round_trip.Distinct.{contains-cases, in-kept, kept-apart, kept-there, place-there}
use Rattle.jh_heap_theorems.proofs.round_trip.Formings.{front-there}
use Rattle.jh_heap_theorems.proofs.round_trip.Drafted.{ObjectIs, TypeIs, GivenIs, GivenFit, PlaceIs, RowFit, RowsFit, ListIs, ListsFit, DraftFits, none-in, some-of}

-- cells
default-cell-is : (n : ℕ) (kind : Kind) → is_cell n kind (default_cell kind) ≡ true
default-cell-is n k.Obj = lt-ltb 0 (suc n) (omega arith)
default-cell-is n k.Int = refl
default-cell-is n k.Bool = refl
default-cell-is n k.Set = refl

cell-or-is : (n : ℕ) (cl : List (Option (List ℕ))) (x : Holder) (g : Option Cell) → GivenIs n cl x g → is_cell n x.kind (cell_or x g) ≡ true
cell-or-is n cl x None h = default-cell-is n x.kind
cell-or-is n cl x (Some cell) h = h.0

null-is : (cl : List (Option (List ℕ))) (t : Ty) → ObjectIs cl t 0
null-is cl (ty.Class i) = refl
null-is cl ty.Object = refl
null-is cl ty.Null = tt
null-is cl ty.Int = tt
null-is cl ty.Boolean = tt
null-is cl ty.Void = tt

type-default : (cl : List (Option (List ℕ))) (t : Ty) (kind : Kind) → TypeIs cl (Some t) (default_cell kind)
type-default cl t k.Obj = null-is cl t
type-default cl t k.Int = tt
type-default cl t k.Bool = tt
type-default cl t k.Set = tt

type-or : (n : ℕ) (cl : List (Option (List ℕ))) (x : Holder) (g : Option Cell) (t : Ty) → x.type ≡ Some t → GivenIs n cl x g → TypeIs cl (Some t) (cell_or x g)
type-or n cl x None t e h = type-default cl t x.kind
type-or n cl x (Some cell) t e h = subst (λ y. TypeIs cl y cell) e h.1

place-given : (n : ℕ) (cl : List (Option (List ℕ))) (cs : List Text) (x : Holder) (a : ℕ) (g : Option Cell) → PlaceIs n cl cs x a g → GivenIs n cl x g
place-given n cl cs x a None h = tt
place-given n cl cs x a (Some cell) h = h.0

statics-are : (n : ℕ) (cl : List (Option (List ℕ))) (xs : List Member) (gs : List (Option Cell)) → GivenFit n cl (map member_holder xs) gs → AreStatics n xs (cells_or (map member_holder xs) gs)
statics-are n cl [] [] h = tt
statics-are n cl [] (g ∷ gs) h = absurd h
statics-are n cl (x ∷ xs) [] h = absurd h
statics-are n cl (x ∷ xs) (g ∷ gs) h = (cell-or-is n cl (member_holder x) g h.0, statics-are n cl xs gs h.1)

row-are : (n : ℕ) (cl : List (Option (List ℕ))) (cs : List Text) (x : Holder) (a : ℕ) (row : List (Option Cell)) → RowFit n cl cs x a row → list_all (is_cell n x.kind) (map (cell_or x) row) ≡ true
row-are n cl cs x a [] h = refl
row-are n cl cs x a (g ∷ row) h =
    and_from (is_cell n x.kind (cell_or x g)) (list_all (is_cell n x.kind) (map (cell_or x) row)) (cell-or-is n cl x g (place-given n cl cs x a g h.0)) (row-are n cl cs x (suc a) row h.1)

fields-are : (n : ℕ) (cl : List (Option (List ℕ))) (cs : List Text) (xs : List Member) (rows : List (List (Option Cell))) → RowsFit n cl cs (map member_holder xs) rows → AreFields n xs (rows_or (map member_holder xs) rows)
fields-are n cl cs [] [] h = tt
fields-are n cl cs [] (row ∷ rows) h = absurd h
fields-are n cl cs (x ∷ xs) [] h = absurd h
fields-are n cl cs (x ∷ xs) (row ∷ rows) h =
    (record { size = length-map row (cell_or (member_holder x)) ∙ h.0; cells_fit = row-are n cl cs (member_holder x) 0 row h.1 }, fields-are n cl cs xs rows h.2)

-- classes
within-of : (n : ℕ) (xs : List ℕ) → list_any (is_no_object n) xs ≡ false → list_all (λ a. nat_lt a (suc n)) xs ≡ true
within-of n [] h = refl
within-of n (a ∷ xs) h =
    let parts = or_parts (is_no_object n a) (list_any (is_no_object n) xs) h in
    let le = ltb-false n a (or_parts (a == 0) (nat_lt n a) parts.0).1 in
    and_from (nat_lt a (suc n)) (list_all (λ b. nat_lt b (suc n)) xs) (lt-ltb a (suc n) (omega (arith, le))) (within-of n xs parts.1)

list-is : (n : ℕ) (y : Option (List ℕ)) → ListIs n y → is_listing n (objects_or y) ≡ true
list-is n None h = refl
list-is n (Some xs) h = and_from (list_all (λ a. nat_lt a (suc n)) xs) (is_ascending xs) (within-of n xs h.0) h.1

lists-are : (n : ℕ) (cl : List (Option (List ℕ))) → ListsFit n cl → list_all (is_listing n) (map objects_or cl) ≡ true
lists-are n [] h = refl
lists-are n (y ∷ cl) h = and_from (is_listing n (objects_or y)) (list_all (is_listing n) (map objects_or cl)) (list-is n y h.0) (lists-are n cl h.1)

has-shown : (y : Option (List ℕ)) (a : ℕ) → has_object a y ≡ is_in a (objects_or y)
has-shown None a = refl
has-shown (Some xs) a = refl

some-shown : (cl : List (Option (List ℕ))) (a : ℕ) → is_of_some cl a ≡ list_any (is_in a) (map objects_or cl)
some-shown [] a = refl
some-shown (y ∷ cl) a = λ i. has-shown y a i || some-shown cl a i

no-null : (n : ℕ) (cl : List (Option (List ℕ))) → ListsFit n cl → list_any (is_in 0) (map objects_or cl) ≡ false
no-null n [] h = refl
no-null n (None ∷ cl) h = no-null n cl h.1
no-null n (Some xs ∷ cl) h = ap (λ t. t || list_any (is_in 0) (map objects_or cl)) (false_from_ne_true (is_in 0 xs) (λ e. (let l = h.0 in true≢false (none-in (is_no_object n) xs 0 l.0 e)))) ∙ no-null n cl h.1

of-shown : (s : State) (cs : List Text) (cl : List (Option (List ℕ))) (i a : ℕ) (c : Text) → length cl ≡ length cs → ClassesShown s cs (map objects_or cl) → slice_get cs i ≡ Some c → is_of cl i a ≡ s.set (named c) a
of-shown s [] cl i a c size sh e = cc
of-shown s (d ∷ cs) [] i a c size sh e = absurd (omega (arith, size))
of-shown s (d ∷ cs) (y ∷ cl) zero a c size sh e = let same : d ≡ c = cc in has-shown y a ∙ sym (sh.0 a) ∙ ap (λ z. s.set (named z) a) same
of-shown s (d ∷ cs) (y ∷ cl) (suc i) a c size sh e = of-shown s cs cl i a c (omega (arith, size)) sh.1 e

find-class : (s : State) (cs : List Text) (cl : List (Option (List ℕ))) (a : ℕ) → length cl ≡ length cs → ClassesShown s cs (map objects_or cl) → list_any (is_in a) (map objects_or cl) ≡ true → (c : Text) × (Contains cs c) × (s.set (named c) a ≡ true)
find-class s [] [] a size sh e = absurd (true≢false (sym e))
find-class s [] (y ∷ cl) a size sh e = absurd (omega (arith, size))
find-class s (d ∷ cs) [] a size sh e = absurd (true≢false (sym e))
find-class s (d ∷ cs) (y ∷ cl) a size sh e = by (is_in a (objects_or y)) refl (λ g. find-class s cs cl a (omega (arith, size)) sh.1 g) e
  where
    by : (t : Bool) → is_in a (objects_or y) ≡ t → (list_any (is_in a) (map objects_or cl) ≡ true → (c : Text) × (Contains cs c) × (s.set (named c) a ≡ true)) → (t || list_any (is_in a) (map objects_or cl)) ≡ true →
        (c : Text) × (Contains (d ∷ cs) c) × (s.set (named c) a ≡ true)
    by true here more g = (d, contains-here d cs, sh.0 a ∙ here)
    by false here more g = let r = more g in (r.0, contains-behind d cs r.0 r.1, r.2)

-- what a value is of which the number of an object is asked
abbrev At : Cell → ℕ → Type 0
At (object b) v = b ≡ v
At cell v = Unit {0}

shown-at : (s : State) (x : Text) (cell : Cell) → IsShown s x cell → At cell (s.object (named x))
shown-at s x (object b) h = sym h
shown-at s x (number z) h = tt
shown-at s x (truth_value b) h = tt
shown-at s x (set xs) h = tt

cell-at : (cell : Cell) (o : Option Cell) → o ≡ Some cell → At cell (object_in o)
cell-at (object b) o e = sym (ap object_in e)
cell-at (number z) o e = tt
cell-at (truth_value b) o e = tt
cell-at (set xs) o e = tt

-- rows
row-there : (row : List (Option Cell)) (a : ℕ) → a < length row → (g : Option Cell) × (slice_get row a ≡ Some g)
row-there [] a lt = absurd (omega (arith, lt))
row-there (g ∷ row) zero lt = (g, refl)
row-there (g ∷ row) (suc a) lt = row-there row a (omega (arith, lt))

row-place : (n : ℕ) (cl : List (Option (List ℕ))) (cs : List Text) (x : Holder) (b : ℕ) (row : List (Option Cell)) (i a : ℕ) (g : Option Cell) → b + i ≡ a → slice_get row i ≡ Some g → RowFit n cl cs x b row → PlaceIs n cl cs x a g
row-place n cl cs x b [] i a g e at h = cc
row-place n cl cs x b (y ∷ row) zero a g e at h =
    let same : y ≡ g = cc in
    let here : b ≡ a = omega (arith, e) in
    subst (λ z. PlaceIs n cl cs x z g) here (subst (λ z. PlaceIs n cl cs x b z) same h.0)
row-place n cl cs x b (y ∷ row) (suc i) a g e at h = row-place n cl cs x (suc b) row i a g (omega (arith, e)) at h.1

mapped-at : (x : Holder) (row : List (Option Cell)) (a : ℕ) (g : Option Cell) → slice_get row a ≡ Some g → slice_get (map (cell_or x) row) a ≡ Some (cell_or x g)
mapped-at x [] a g e = cc
mapped-at x (y ∷ row) zero g e = let same : y ≡ g = cc in ap (λ z. Some (cell_or x z)) same
mapped-at x (y ∷ row) (suc a) g e = mapped-at x row a g e

default-there : (n : ℕ) (kind : Kind) (cells : List Cell) (a : ℕ) → slice_get cells a ≡ Some (default_cell kind) → IsDefault n kind (field_value cells) a
default-there n k.Obj cells a e = ap object_in e
default-there n k.Int cells a e = ap number_in e
default-there n k.Bool cells a e = ap truth_in e
default-there n k.Set cells a e = λ b lt. ap (λ o. set_in o b) e

-- what a static has, and a field at an object
record StaticAt (n : ℕ) (cl : List (Option (List ℕ))) (s : State) (x : Member) : Type 0 where
  value : Option Cell
  given : GivenIs n cl (member_holder x) value
  there : IsShown s x.text (cell_or (member_holder x) value)

record FieldAt (n : ℕ) (cl : List (Option (List ℕ))) (cs : List Text) (s : State) (a : ℕ) (x : Member) : Type 0 where
  value : Option Cell
  placed : PlaceIs n cl cs (member_holder x) a value
  cells : List Cell
  there : s.field (named x.text) ≡ field_value cells
  at : slice_get cells a ≡ Some (cell_or (member_holder x) value)

static-at : (n : ℕ) (cl : List (Option (List ℕ))) (s : State) (xs : List Member) (gs : List (Option Cell)) → GivenFit n cl (map member_holder xs) gs → StaticsShown s xs (cells_or (map member_holder xs) gs) → (x : Member) → Contains xs x → StaticAt n cl s x
static-at n cl s [] [] h sh x i = (let lt = i.1 in absurd (omega (arith, lt)))
static-at n cl s [] (g ∷ gs) h sh x i = absurd h
static-at n cl s (z ∷ xs) [] h sh x i = absurd h
static-at n cl s (z ∷ xs) (g ∷ gs) h sh x i = by (contains-cases z xs x i) (λ j. static-at n cl s xs gs h.1 sh.1 x j)
  where
    by : (z ≡ x) ⊎ Contains xs x → (Contains xs x → StaticAt n cl s x) → StaticAt n cl s x
    by (inl same) more = subst (StaticAt n cl s) same (record { value = g; given = h.0; there = sh.0 })
    by (inr j) more = more j

field-at : (n : ℕ) (cl : List (Option (List ℕ))) (cs : List Text) (s : State) (a : ℕ) (xs : List Member) (rows : List (List (Option Cell))) → a < suc n → RowsFit n cl cs (map member_holder xs) rows → FieldsShown s xs (rows_or (map member_holder xs) rows) → (x : Member) → Contains xs x → FieldAt n cl cs s a x
field-at n cl cs s a [] [] lt h sh x i = (let within = i.1 in absurd (omega (arith, within)))
field-at n cl cs s a [] (row ∷ rows) lt h sh x i = absurd h
field-at n cl cs s a (z ∷ xs) [] lt h sh x i = absurd h
field-at n cl cs s a (z ∷ xs) (row ∷ rows) lt h sh x i = by (contains-cases z xs x i) (λ j. field-at n cl cs s a xs rows lt h.2 sh.1 x j)
  where
    by : (z ≡ x) ⊎ Contains xs x → (Contains xs x → FieldAt n cl cs s a x) → FieldAt n cl cs s a x
    by (inl same) more =
        let size = h.0 in
        let found = row-there row a (omega (arith, lt, size)) in
        subst (FieldAt n cl cs s a) same (record {
          value = found.0;
          placed = row-place n cl cs (member_holder z) 0 row a a found.0 (omega arith) found.1 h.1;
          cells = map (cell_or (member_holder z)) row;
          there = sh.0;
          at = mapped-at (member_holder z) row a found.0 found.1;
        })
    by (inr j) more = more j

module _ (p : Program) (m : Method) (names : NamesFit p) (words : TextsFit p) (signature : SignatureFits p m) (d : Draft) (fits : DraftFits (outline_of p m) d) (whole : is_lacking (outline_of p m) d ≡ false) where
  abbrev the_heap : Heap
  the_heap = heap_of (outline_of p m) d

  abbrev the_args : Args
  the_args = args_of (outline_of p m) d

  abbrev the_state : State
  the_state = state_of p the_heap

  abbrev is_static : Member → Bool
  is_static x = x.is_static

  abbrev is_field : Member → Bool
  is_field x = not x.is_static

  shown : HeapShown p the_heap
  shown = heap-shown p the_heap names.classes names.dotless names.not_alloc
      (each-of (λ (x : Member). list_any (λ c. c == 46) x.text ≡ true) (statics_of p) (λ x i. names.dots x (kept-there is_static p.members x i)))
      (kept-apart is_static p.members words.once) (kept-apart is_field p.members words.once)

  class-is : (i a : ℕ) (c : Text) → slice_get (all_classes p.classes) i ≡ Some c → is_of d.classes i a ≡ (the_state).set (named c) a
  class-is i a c e = let s = shown in of-shown the_state (all_classes p.classes) d.classes i a c fits.size s.classes e

  in-class : (i a : ℕ) → Contains p.classes (class_at p.classes i) → is_of d.classes i a ≡ (the_state).set (named (class_at p.classes i)) a
  in-class i a there = by (slice_get p.classes i) refl
    where
      by : (o : Option Text) → slice_get p.classes i ≡ o → is_of d.classes i a ≡ (the_state).set (named (class_at p.classes i)) a
      by None e = absurd (true≢false (sym (words.plain (class_at p.classes i) (Contains-append_left p.classes (codes "Object" ∷ []) (class_at p.classes i) there)) ∙ ap (λ (o : Option Text). is_plain (option_map_or (λ x. x) o [])) e))
      by (Some c) e = class-is i a c (front-there p.classes (codes "Object" ∷ []) i c e) ∙ ap (λ (o : Option Text). (the_state).set (named (option_map_or (λ x. x) o [])) a) (sym e)

  alloc-is : (a : ℕ) → (the_state).set alloc_name a ≡ is_of_some d.classes a
  alloc-is a = let s = shown in s.alloc a ∙ sym (some-shown d.classes a)

  either : (a : ℕ) (t : Bool) (u : Bool) → (a == 0) ≡ t → (t || u) ≡ true → (a ≡ 0) ⊎ (u ≡ true)
  either a true u e h = inl (eqb-true a 0 e)
  either a false u e h = inr h

  class-lies : (i a : ℕ) → Contains p.classes (class_at p.classes i) → (a == 0 || is_of d.classes i a) ≡ true → (a ≡ 0) ⊎ ((the_state).set (named (class_at p.classes i)) a ≡ true)
  class-lies i a is h = by (either a (a == 0) (is_of d.classes i a) refl h)
    where
      by : (a ≡ 0) ⊎ (is_of d.classes i a ≡ true) → (a ≡ 0) ⊎ ((the_state).set (named (class_at p.classes i)) a ≡ true)
      by (inl e) = inl e
      by (inr e) = inr (sym (in-class i a is) ∙ e)

  some-lies : (a : ℕ) → (a == 0 || is_of_some d.classes a) ≡ true → (a ≡ 0) ⊎ ((the_state).set alloc_name a ≡ true)
  some-lies a h = by (either a (a == 0) (is_of_some d.classes a) refl h)
    where
      by : (a ≡ 0) ⊎ (is_of_some d.classes a ≡ true) → (a ≡ 0) ⊎ ((the_state).set alloc_name a ≡ true)
      by (inl e) = inl e
      by (inr e) = inr (alloc-is a ∙ e)

  no-cell : {X : Type 0} (kind : Kind) (t : Ty) (cell : Cell) → is_cell d.greatest (kind_of t) cell ≡ false → kind_of t ≡ kind → is_cell d.greatest kind cell ≡ true → X
  no-cell kind t cell lacking e c = absurd (true≢false (sym (ap (λ z. is_cell d.greatest z cell) e ∙ c) ∙ lacking))

  given-lies : (t : Ty) (kind : Kind) (cell : Cell) (v : ℕ) → is_cell d.greatest kind cell ≡ true → kind_of t ≡ kind → TypeIs d.classes (Some t) cell → IsType p t → (t ≡ ty.Null → ⊥) → At cell v → ObjectLies p t the_state v
  given-lies ty.Int kind cell v c e of is lacking at = tt
  given-lies ty.Boolean kind cell v c e of is lacking at = tt
  given-lies ty.Void kind cell v c e of is lacking at = tt
  given-lies ty.Null kind cell v c e of is lacking at = absurd (lacking refl)
  given-lies (ty.Class i) kind (object b) v c e of is lacking at = subst (ObjectLies p (ty.Class i) the_state) at (class-lies i b is of)
  given-lies (ty.Class i) kind (number z) v c e of is lacking at = no-cell kind (ty.Class i) (number z) refl e c
  given-lies (ty.Class i) kind (truth_value b) v c e of is lacking at = no-cell kind (ty.Class i) (truth_value b) refl e c
  given-lies (ty.Class i) kind (set xs) v c e of is lacking at = no-cell kind (ty.Class i) (set xs) refl e c
  given-lies ty.Object kind (object b) v c e of is lacking at = subst (ObjectLies p ty.Object the_state) at (some-lies b of)
  given-lies ty.Object kind (number z) v c e of is lacking at = no-cell kind ty.Object (number z) refl e c
  given-lies ty.Object kind (truth_value b) v c e of is lacking at = no-cell kind ty.Object (truth_value b) refl e c
  given-lies ty.Object kind (set xs) v c e of is lacking at = no-cell kind ty.Object (set xs) refl e c

  not-null : (x : Member) (t : Ty) → Contains p.members x → x.type ≡ Some t → t ≡ ty.Null → ⊥
  not-null x t i e q = names.not_null x i (e ∙ ap (λ (z : Ty). Some z) q)

  static-there : (x : Member) → Contains (statics_of p) x → StaticAt d.greatest d.classes the_state x
  static-there x i = let s = shown in static-at d.greatest d.classes the_state (statics_of p) d.statics fits.statics s.statics x i

  field-there : (x : Member) (a : ℕ) → a < suc d.greatest → Contains (fields_of p) x → FieldAt d.greatest d.classes (all_classes p.classes) the_state a x
  field-there x a lt i = let s = shown in field-at d.greatest d.classes (all_classes p.classes) the_state a (fields_of p) d.fields lt fits.fields s.fields x i

  static-lies : (x : Member) (t : Ty) → Contains p.members x → Contains (statics_of p) x → x.type ≡ Some t → ObjectLies p t the_state ((the_state).object (named x.text))
  static-lies x t i j e =
      let f = static-there x j in
      given-lies t x.kind (cell_or (member_holder x) f.value) ((the_state).object (named x.text)) (cell-or-is d.greatest d.classes (member_holder x) f.value f.given) (names.kinds x t i e)
      (type-or d.greatest d.classes (member_holder x) f.value t e f.given) (names.types x t i e) (not-null x t i e) (shown-at the_state x.text (cell_or (member_holder x) f.value) f.there)

  field-lies : (x : Member) (t : Ty) (a : ℕ) → a < suc d.greatest → Contains p.members x → Contains (fields_of p) x → x.type ≡ Some t → ObjectLies p t the_state (((the_state).field (named x.text)).objects a)
  field-lies x t a lt i j e =
      let f = field-there x a lt j in
      let given = place-given d.greatest d.classes (all_classes p.classes) (member_holder x) a f.value f.placed in
      given-lies t x.kind (cell_or (member_holder x) f.value) (((the_state).field (named x.text)).objects a) (cell-or-is d.greatest d.classes (member_holder x) f.value given) (names.kinds x t i e)
      (type-or d.greatest d.classes (member_holder x) f.value t e given) (names.types x t i e) (not-null x t i e)
      (subst (λ v. At (cell_or (member_holder x) f.value) (v.objects a)) (sym f.there) (cell-at (cell_or (member_holder x) f.value) (slice_get f.cells a) f.at))

  place-class : (x : Member) (a : ℕ) → Contains p.members x → is_of d.classes (place_of (all_classes p.classes) x.class) a ≡ (the_state).set (named x.class) a
  place-class x a i =
      class-is (place_of (all_classes p.classes) x.class) a x.class (place-there (all_classes p.classes) x.class (Contains-append_left p.classes (codes "Object" ∷ []) x.class (names.of_class x i)))

  outside : (x : Member) (a : ℕ) (g : Option Cell) (cells : List Cell) → Contains p.members x → (the_state).set (named x.class) a ≡ false → PlaceIs d.greatest d.classes (all_classes p.classes) (member_holder x) a g →
      slice_get cells a ≡ Some (cell_or (member_holder x) g) → IsDefault d.greatest x.kind (field_value cells) a
  outside x a None cells i lacking h at = default-there d.greatest x.kind cells a at
  outside x a (Some cell) cells i lacking h at = absurd (true≢false (sym h.1 ∙ place-class x a i ∙ lacking))

  has-default : (x : Member) (a : ℕ) → a < suc d.greatest → Contains p.members x → Contains (fields_of p) x → (the_state).set (named x.class) a ≡ false → IsDefault d.greatest x.kind ((the_state).field (named x.text)) a
  has-default x a lt i j lacking =
      let f = field-there x a lt j in
      subst (λ v. IsDefault d.greatest x.kind v a) (sym f.there) (outside x a f.value f.cells i lacking f.placed f.at)

  within : (a : ℕ) → a < suc (the_state).last → a < suc d.greatest
  within a lt = let s = shown in let e = s.last in omega (arith, lt, e)

  same-class : (c e : Text) (a : ℕ) → IsClass p c → IsClass p e → (the_state).set (named c) a ≡ true → (the_state).set (named e) a ≡ true → c ≡ e
  same-class c e a ic ie x y =
      let i = place-there (all_classes p.classes) c ic in
      let j = place-there (all_classes p.classes) e ie in
      let same = fits.apart (place_of (all_classes p.classes) c) (place_of (all_classes p.classes) e) a (class-is (place_of (all_classes p.classes) c) a c i ∙ x) (class-is (place_of (all_classes p.classes) e) a e j ∙ y) in
      let there : Some c ≡ Some e = sym i ∙ ap (λ z. slice_get (all_classes p.classes) z) same ∙ j in
      cc

  formed : Formed p the_state
  formed =
      let s = shown in
      record {
        of_class = λ a lt e. find-class the_state (all_classes p.classes) d.classes a fits.size s.classes (sym (s.alloc a) ∙ e);
        in_alloc = λ c i a lt e. alloc-is a ∙ some-of d.classes (place_of (all_classes p.classes) c) a (class-is (place_of (all_classes p.classes) c) a c (place-there (all_classes p.classes) c i) ∙ e);
        apart = λ c e i j a lt x y. same-class c e a i j x y;
        no_null = s.alloc 0 ∙ no-null d.greatest d.classes fits.lists;
        statics = λ x t i st e. static-lies x t i (in-kept is_static p.members x i st) e;
        fields = λ x t i st e a lt of. field-lies x t a (within a lt) i (in-kept is_field p.members x i (ap not st)) e;
        defaults = λ x i st a lt lacking. subst (λ n. IsDefault n x.kind ((the_state).field (named x.text)) a) (sym s.last) (has-default x a (within a lt) i (in-kept is_field p.members x i (ap not st)) lacking);
      }

  pub is-heap : IsHeap p the_heap
  is-heap = record {
    class_count = length-map d.classes objects_or ∙ fits.size;
    objects = lists-are d.greatest d.classes fits.lists;
    statics_fit = statics-are d.greatest d.classes (statics_of p) d.statics fits.statics;
    fields_fit = fields-are d.greatest d.classes (all_classes p.classes) (fields_of p) d.fields fits.fields;
    is_well_formed = formed-facts the_state p names formed;
  }

  -- `this` and the arguments
  this-has : (want got : Option ℕ) → (is_some want && is_none got) ≡ false → ((a : ℕ) → got ≡ Some a → option_map_or (λ n. is_of d.classes n a) want false ≡ true) → HasThis want got
  this-has None None lacking of = tt
  this-has None (Some a) lacking of = absurd (true≢false (sym (of a refl)))
  this-has (Some n) None lacking of = absurd (true≢false lacking)
  this-has (Some n) (Some a) lacking of = tt

  this-lies : (want got : Option ℕ) → (is_some want && is_none got) ≡ false → ((a : ℕ) → got ≡ Some a → option_map_or (λ n. is_of d.classes n a) want false ≡ true) → ((n : ℕ) → want ≡ Some n → Contains p.classes (class_at p.classes n)) →
      ThisLiesIn p want the_state (option_map_or (λ a. a) got 0)
  this-lies None None lacking of is = refl
  this-lies None (Some a) lacking of is = absurd (true≢false (sym (of a refl)))
  this-lies (Some n) None lacking of is = absurd (true≢false lacking)
  this-lies (Some n) (Some a) lacking of is = sym (in-class n a (is n refl)) ∙ of a refl

  value-lies : (t : Ty) (cell : Cell) → is_cell d.greatest (kind_of t) cell ≡ true → TypeIs d.classes (Some t) cell → IsType p t → HasValues t → LiesIn p t the_state (cell_value cell)
  value-lies ty.Int (number z) c of is v = tt
  value-lies ty.Boolean (truth_value b) c of is v = tt
  value-lies ty.Object (object a) c of is v = some-lies a of
  value-lies (ty.Class i) (object a) c of is v = class-lies i a is of
  value-lies ty.Null cell c of is v = absurd v
  value-lies ty.Void cell c of is v = absurd v
  value-lies t cell c of is v = absurd (true≢false (sym c))

  values-lie : (xs : List Local) (gs : List (Option Cell)) → GivenFit d.greatest d.classes (map parameter_holder xs) gs → list_any is_none gs ≡ false → AllByRecursion (λ (x : Local). IsType p x.type × HasValues x.type) xs →
      AllLieIn p xs the_state (map cell_value (cells_or (map parameter_holder xs) gs))
  values-lie [] [] h all fit = tt
  values-lie [] (g ∷ gs) h all fit = absurd h
  values-lie (x ∷ xs) [] h all fit = absurd h
  values-lie (x ∷ xs) (None ∷ gs) h all fit = absurd (true≢false all)
  values-lie (x ∷ xs) (Some cell ∷ gs) h all fit = (let g = h.0 in let t = fit.0 in (value-lies x.type cell g.0 g.1 t.0 t.1, values-lie xs gs h.1 all fit.1))

  pub are-args : AreArgs p m the_heap the_args
  are-args =
      let lacks = or_parts (is_some m.this && is_none d.this) (list_any is_none d.arguments) whole in
      record {
        has_this = this-has m.this d.this lacks.0 fits.this;
        this_lies = this-lies m.this d.this lacks.0 fits.this signature.of_class;
        values_lie = values-lie m.params d.arguments fits.arguments lacks.1 signature.params;
      }
