-- What lines give that break no rule: values of their kinds and types, ascending classes with no common object, each where it belongs.
use Rattle.std.proofs.Common.{◌≡◌, refl, sym, ap, subst, ◌∙◌, ◌⊎◌, inl, inr, arith, ℕ, zero, suc, pos, ◌+◌, ◌<◌, ◌≤◌, ◌==◌, ◌||◌, not, nat_lt, nat_le, Bool, true, false, true≢false, if◌then◌else◌, List, [], ◌∷◌, length, take, drop, set, replicate, Option, Some, None, is_some, slice_get, length-set, eq-eqb, eqb-true, ne_eqb, lt-ltb, ltb-false, leb-true}
use Rattle.std.specs.List.{list_any, list_all}
use Rattle.std.specs.Option.{option_map_or}
use Rattle.std.proofs.lemmas.Bool.{and_from, or_parts, or_left}
use Rattle.std.proofs.lemmas.Bool.Decides.{nat_tests}
use Rattle.jh_name.specs.declared.place.Kind.{Kind}
use Rattle.jh_name.specs.declared.place.Kind.TheVariants as k
use Rattle.jh_rules.specs.declared.types.Ty.{Ty}
use Rattle.jh_rules.specs.declared.types.Ty.TheVariants as ty
use Rattle.jh_semantics.specs.Code.{Text}
use Rattle.jh_semantics.specs.Heaps.{Cell, object, is_in, is_cell, is_ascending}
use Rattle.jh_heap.specs.lines.Lines.{Value, Line}
use Rattle.jh_heap.specs.lines.Lines as l
use Rattle.jh_heap.specs.text.Outlines.{Holder, Outline}
use Rattle.jh_heap.specs.text.Drafts.{Draft, place_of, texts_of, cell_of, nothing}
use Rattle.jh_heap.specs.text.Rules.{is_given, has_object, is_of, is_of_some, is_elsewhere, lies_in, fits, is_beyond, strays, value_rule, least, broken, is_no_object, is_field_given, has_field, field_place_rule, may_be_this, rule_of}
use Rattle.jh_heap.specs.text.Reading.{in_order, put_cell, put_field, taken, first_draft}
use Rattle.jh_heap_theorems.proofs.round_trip.Listings.{IsListed, IsLine}

-- tests and rules
not-not : (t : Bool) → not t ≡ false → t ≡ true
not-not true h = refl
not-not false h = absurd (true≢false h)

least-left : (a b : ℕ) → least a b ≡ 0 → a ≡ 0
least-left a b h = by (a == 0) refl
  where
    by : (t : Bool) → (a == 0) ≡ t → a ≡ 0
    by true e = grind (arith, nat_tests)
    by false e = other (b == 0) refl (ap (λ t. if t then b else (if b == 0 then a else (if nat_lt a b then a else b))) (sym e) ∙ h)
      where
        last : (t : Bool) → (b == 0) ≡ false → (if t then a else b) ≡ 0 → a ≡ 0
        last true f g = g
        last false f g = absurd (true≢false (sym (ap (λ z. z == 0) g) ∙ f))

        other : (t : Bool) → (b == 0) ≡ t → (if b == 0 then a else (if nat_lt a b then a else b)) ≡ 0 → a ≡ 0
        other true f g = ap (λ t. if t then a else (if nat_lt a b then a else b)) (sym f) ∙ g
        other false f g = last (nat_lt a b) f (ap (λ t. if t then a else (if nat_lt a b then a else b)) (sym f) ∙ g)

least-right : (a b : ℕ) → least a b ≡ 0 → b ≡ 0
least-right a b h = ap (λ t. if t then b else (if b == 0 then a else (if nat_lt a b then a else b))) (sym zero-left) ∙ h
  where
    zero-left : (a == 0) ≡ true
    zero-left = ap (λ z. z == 0) (least-left a b h)

unbroken : (test : Bool) (rule : ℕ) → broken test (suc rule) ≡ 0 → test ≡ false
unbroken true rule h = absurd (omega (arith, h))
unbroken false rule h = refl

value-parts : (b f s : Bool) → ◌≡◌ {A = ℕ} (if b then 1 else (if not f then 4 else (if s then 5 else 0))) 0 → (b ≡ false) × (f ≡ true) × (s ≡ false)
value-parts true f s h = absurd (omega (arith, h))
value-parts false false s h = absurd (omega (arith, h))
value-parts false true true h = absurd (omega (arith, h))
value-parts false true false h = (refl, refl, refl)

class-parts : (a b c d : Bool) → ◌≡◌ {A = ℕ} (if a then 1 else (if b then 2 else (if c then 3 else broken d 7))) 0 → (a ≡ false) × (b ≡ false)
class-parts true b c d h = absurd (omega (arith, h))
class-parts false true c d h = absurd (omega (arith, h))
class-parts false false c d h = (refl, refl)

-- a stage that isn't the first one
later : (s q : ℕ) → (q == 0) ≡ false → (if s == 0 then q == 0 else nat_le s q) ≡ true → (0 < s) × (s ≤ q)
later zero q f h = absurd (true≢false (sym h ∙ f))
later (suc s) q f h = (omega arith, leb-true (suc s) q (sym (ap (λ t. if t then q == 0 else nat_le (suc s) q) (ne_eqb (suc s) 0 (λ e. omega (arith, e)))) ∙ h))

-- values
abbrev pub ObjectIs : List (Option (List ℕ)) → Ty → ℕ → Type 0
ObjectIs cl (ty.Class i) a = (a == 0 || is_of cl i a) ≡ true
ObjectIs cl ty.Object a = (a == 0 || is_of_some cl a) ≡ true
ObjectIs cl t a = Unit {0}

abbrev pub TypeIs : List (Option (List ℕ)) → Option Ty → Cell → Type 0
TypeIs cl (Some t) (object a) = ObjectIs cl t a
TypeIs cl type cell = Unit {0}

abbrev pub GivenIs : ℕ → List (Option (List ℕ)) → Holder → Option Cell → Type 0
GivenIs n cl x None = Unit {0}
GivenIs n cl x (Some cell) = (is_cell n x.kind cell ≡ true) × TypeIs cl x.type cell

all-within : (n : ℕ) (xs : List ℕ) → list_any (nat_lt n) xs ≡ false → list_all (λ a. nat_lt a (suc n)) xs ≡ true
all-within n [] h = refl
all-within n (a ∷ xs) h =
    let parts = or_parts (nat_lt n a) (list_any (nat_lt n) xs) h in
    let le = ltb-false n a parts.0 in
    and_from (nat_lt a (suc n)) (list_all (λ b. nat_lt b (suc n)) xs) (lt-ltb a (suc n) (omega (arith, le))) (all-within n xs parts.1)

cell-given : (n : ℕ) (kind : Kind) (v : Value) → is_beyond n kind v ≡ false → fits kind v ≡ true → IsListed v → is_cell n kind (cell_of kind v) ≡ true
cell-given n k.Obj (l.number (pos a)) b f s = let le = ltb-false n a b in lt-ltb a (suc n) (omega (arith, le))
cell-given n k.Int (l.number z) b f s = refl
cell-given n k.Bool (l.truth_value t) b f s = refl
cell-given n k.Set (l.objects xs) b f s = and_from (list_all (λ a. nat_lt a (suc n)) xs) (is_ascending xs) (all-within n xs b) s
cell-given n kind v b f s = absurd (true≢false (sym f))

object-is : (d : Draft) (t : Ty) (a : ℕ) → lies_in d t a ≡ true → ObjectIs d.classes t a
object-is d (ty.Class i) a h = h
object-is d ty.Object a h = h
object-is d ty.Null a h = tt
object-is d ty.Int a h = tt
object-is d ty.Boolean a h = tt
object-is d ty.Void a h = tt

type-given : (d : Draft) (kind : Kind) (type : Option Ty) (v : Value) → fits kind v ≡ true → strays d type v ≡ false → TypeIs d.classes type (cell_of kind v)
type-given d kind None v f s = tt
type-given d k.Obj (Some t) (l.number (pos a)) f s = object-is d t a (not-not (lies_in d t a) s)
type-given d k.Int (Some t) (l.number z) f s = tt
type-given d k.Bool (Some t) (l.truth_value b) f s = tt
type-given d k.Set (Some t) (l.objects xs) f s = tt
type-given d kind type v f s = absurd (true≢false (sym f))

value-given : (d : Draft) (x : Holder) (v : Value) → value_rule d (Some x) v ≡ 0 → IsListed v → GivenIs d.greatest d.classes x (Some (cell_of x.kind v))
value-given d x v rule listed =
    let parts = value-parts (is_beyond d.greatest x.kind v) (fits x.kind v) (strays d x.type v) rule in
    (cell-given d.greatest x.kind v parts.0 parts.1 listed, type-given d x.kind x.type v parts.1 parts.2)

-- values of statics and parameters
abbrev pub GivenFit : ℕ → List (Option (List ℕ)) → List Holder → List (Option Cell) → Type 0
GivenFit n cl [] [] = Unit {0}
GivenFit n cl (x ∷ xs) (g ∷ gs) = GivenIs n cl x g × GivenFit n cl xs gs
GivenFit n cl _ _ = ⊥

size-nothing : (X : Type 0) (m : ℕ) → length (nothing {X = X} m) ≡ m
size-nothing X zero = refl
size-nothing X (suc m) = ap suc (size-nothing X m)

given-nothing : (n : ℕ) (cl : List (Option (List ℕ))) (xs : List Holder) → GivenFit n cl xs (nothing (length xs))
given-nothing n cl [] = tt
given-nothing n cl (x ∷ xs) = (tt, given-nothing n cl xs)

put-behind : (o : Option Holder) (g : Option Cell) (gs : List (Option Cell)) (i : ℕ) (v : Value) → put_cell o (g ∷ gs) (suc i) v ≡ g ∷ put_cell o gs i v
put-behind None g gs i v = refl
put-behind (Some x) g gs i v = refl

given-put : (d : Draft) (xs : List Holder) (gs : List (Option Cell)) (i : ℕ) (v : Value) → value_rule d (slice_get xs i) v ≡ 0 → IsListed v → GivenFit d.greatest d.classes xs gs → GivenFit d.greatest d.classes xs (put_cell (slice_get xs i) gs i v)
given-put d [] [] i v rule listed h = h
given-put d [] (g ∷ gs) i v rule listed h = absurd h
given-put d (x ∷ xs) [] i v rule listed h = absurd h
given-put d (x ∷ xs) (g ∷ gs) zero v rule listed h = (value-given d x v rule listed, h.1)
given-put d (x ∷ xs) (g ∷ gs) (suc i) v rule listed h = subst (GivenFit d.greatest d.classes (x ∷ xs)) (sym (put-behind (slice_get xs i) g gs i v)) (h.0, given-put d xs gs i v rule listed h.1)

-- values of fields
abbrev pub PlaceIs : ℕ → List (Option (List ℕ)) → List Text → Holder → ℕ → Option Cell → Type 0
PlaceIs n cl cs x a None = Unit {0}
PlaceIs n cl cs x a (Some cell) = GivenIs n cl x (Some cell) × (is_of cl (place_of cs x.class) a ≡ true)

abbrev pub RowFit : ℕ → List (Option (List ℕ)) → List Text → Holder → ℕ → List (Option Cell) → Type 0
RowFit n cl cs x a [] = Unit {0}
RowFit n cl cs x a (g ∷ row) = PlaceIs n cl cs x a g × RowFit n cl cs x (suc a) row

abbrev pub RowsFit : ℕ → List (Option (List ℕ)) → List Text → List Holder → List (List (Option Cell)) → Type 0
RowsFit n cl cs [] [] = Unit {0}
RowsFit n cl cs (x ∷ xs) (row ∷ rows) = (length row ≡ suc n) × RowFit n cl cs x 0 row × RowsFit n cl cs xs rows
RowsFit n cl cs _ _ = ⊥

row-nothing : (n : ℕ) (cl : List (Option (List ℕ))) (cs : List Text) (x : Holder) (a m : ℕ) → RowFit n cl cs x a (nothing m)
row-nothing n cl cs x a zero = tt
row-nothing n cl cs x a (suc m) = (tt, row-nothing n cl cs x (suc a) m)

rows-nothing : (n : ℕ) (cl : List (Option (List ℕ))) (cs : List Text) (xs : List Holder) → RowsFit n cl cs xs (replicate (length xs) (nothing (suc n)))
rows-nothing n cl cs [] = tt
rows-nothing n cl cs (x ∷ xs) = (size-nothing Cell (suc n), row-nothing n cl cs x 0 (suc n), rows-nothing n cl cs xs)

row-put : (n : ℕ) (cl : List (Option (List ℕ))) (cs : List Text) (x : Holder) (b : ℕ) (row : List (Option Cell)) (i a : ℕ) (cell : Cell) → b + i ≡ a → PlaceIs n cl cs x a (Some cell) → RowFit n cl cs x b row → RowFit n cl cs x b (set row i (Some cell))
row-put n cl cs x b [] i a cell e p h = tt
row-put n cl cs x b (g ∷ row) zero a cell e p h = let here : a ≡ b = omega (arith, e) in (subst (λ z. PlaceIs n cl cs x z (Some cell)) here p, h.1)
row-put n cl cs x b (g ∷ row) (suc i) a cell e p h = (h.0, row-put n cl cs x (suc b) row i a cell (omega (arith, e)) p h.1)

field-behind : (o : Option Holder) (row : List (Option Cell)) (rows : List (List (Option Cell))) (i a : ℕ) (v : Value) → put_field o (row ∷ rows) (suc i) a v ≡ row ∷ put_field o rows i a v
field-behind o row rows i a v = by (slice_get rows i)
  where
    by : (q : Option (List (Option Cell))) → option_map_or (λ r. row ∷ set rows i (put_cell o r a v)) q (row ∷ rows) ≡ row ∷ option_map_or (λ r. set rows i (put_cell o r a v)) q rows
    by None = refl
    by (Some r) = refl

-- classes
abbrev pub ListIs : ℕ → Option (List ℕ) → Type 0
ListIs n None = Unit {0}
ListIs n (Some xs) = (list_any (is_no_object n) xs ≡ false) × (is_ascending xs ≡ true)

abbrev pub ListsFit : ℕ → List (Option (List ℕ)) → Type 0
ListsFit n [] = Unit {0}
ListsFit n (y ∷ cl) = ListIs n y × ListsFit n cl

lists-nothing : (n m : ℕ) → ListsFit n (nothing m)
lists-nothing n zero = tt
lists-nothing n (suc m) = (tt, lists-nothing n m)

lists-set : (n : ℕ) (cl : List (Option (List ℕ))) (i : ℕ) (xs : List ℕ) → ListIs n (Some xs) → ListsFit n cl → ListsFit n (set cl i (Some xs))
lists-set n [] i xs new h = tt
lists-set n (y ∷ cl) zero xs new h = (new, h.1)
lists-set n (y ∷ cl) (suc i) xs new h = (h.0, lists-set n cl i xs new h.1)

of-none : (m j a : ℕ) → is_of (nothing m) j a ≡ true → ⊥
of-none zero j a h = true≢false (sym h)
of-none (suc m) zero a h = true≢false (sym h)
of-none (suc m) (suc j) a h = of-none m j a h

of-set : (cl : List (Option (List ℕ))) (i : ℕ) (xs : List ℕ) (j a : ℕ) → is_of (set cl i (Some xs)) j a ≡ true → (is_of cl j a ≡ true) ⊎ ((j ≡ i) × (is_in a xs ≡ true))
of-set [] i xs j a h = inl h
of-set (y ∷ cl) zero xs zero a h = inr (refl, h)
of-set (y ∷ cl) zero xs (suc j) a h = inl h
of-set (y ∷ cl) (suc i) xs zero a h = inl h
of-set (y ∷ cl) (suc i) xs (suc j) a h = by (of-set cl i xs j a h)
  where
    by : (is_of cl j a ≡ true) ⊎ ((j ≡ i) × (is_in a xs ≡ true)) → (is_of cl j a ≡ true) ⊎ ((suc j ≡ suc i) × (is_in a xs ≡ true))
    by (inl p) = inl p
    by (inr q) = inr (ap suc q.0, q.1)

pub some-of : (cl : List (Option (List ℕ))) (j a : ℕ) → is_of cl j a ≡ true → is_of_some cl a ≡ true
some-of [] j a h = absurd (true≢false (sym h))
some-of (y ∷ cl) zero a h = or_left (has_object a y) (is_of_some cl a) h
some-of (y ∷ cl) (suc j) a h = by (has_object a y) (some-of cl j a h)
  where
    by : (t : Bool) → is_of_some cl a ≡ true → (t || is_of_some cl a) ≡ true
    by true e = refl
    by false e = e

or-more : (y t u : Bool) → (t || u) ≡ true → ((y || t) || u) ≡ true
or-more true t u h = refl
or-more false t u h = h

elsewhere-is : (cl : List (Option (List ℕ))) (i j a : ℕ) → is_of cl j a ≡ true → (j ≡ i → ⊥) → is_elsewhere cl i a ≡ true
elsewhere-is [] i j a h n = absurd (true≢false (sym h))
elsewhere-is (y ∷ cl) zero zero a h n = absurd (n refl)
elsewhere-is (y ∷ cl) zero (suc j) a h n = some-of cl j a h
elsewhere-is (y ∷ cl) (suc i) zero a h n = or_left (has_object a y || is_of_some (take i cl) a) (is_of_some (drop (suc i) cl) a) (or_left (has_object a y) (is_of_some (take i cl) a) h)
elsewhere-is (y ∷ cl) (suc i) (suc j) a h n = or-more (has_object a y) (is_of_some (take i cl) a) (is_of_some (drop (suc i) cl) a) (elsewhere-is cl i j a h (λ e. n (ap suc e)))

pub none-in : (test : ℕ → Bool) (xs : List ℕ) (a : ℕ) → list_any test xs ≡ false → is_in a xs ≡ true → test a ≡ false
none-in test [] a h i = absurd (true≢false (sym i))
none-in test (b ∷ xs) a h i = let parts = or_parts (test b) (list_any test xs) h in step (b == a) refl parts.0 (λ j. none-in test xs a parts.1 j) i
  where
    step : (t : Bool) → (b == a) ≡ t → test b ≡ false → (is_in a xs ≡ true → test a ≡ false) → (b == a || is_in a xs) ≡ true → test a ≡ false
    step true e p more i = subst (λ c. test c ≡ false) (eqb-true b a e) p
    step false e p more i = more (sym (ap (λ t. t || is_in a xs) e) ∙ i)

abbrev pub AreDisjoint : List (Option (List ℕ)) → Type 0
AreDisjoint cl = (i j a : ℕ) → is_of cl i a ≡ true → is_of cl j a ≡ true → i ≡ j

same-or : (cl : List (Option (List ℕ))) (i : ℕ) (xs : List ℕ) (j a : ℕ) → list_any (is_elsewhere cl i) xs ≡ false → is_of cl j a ≡ true → is_in a xs ≡ true → j ≡ i
same-or cl i xs j a other of there = by (j == i) refl
  where
    by : (t : Bool) → (j == i) ≡ t → j ≡ i
    by true e = eqb-true j i e
    by false e = absurd (true≢false (sym (elsewhere-is cl i j a of (λ q. true≢false (sym (eq-eqb j i q) ∙ e))) ∙ none-in (is_elsewhere cl i) xs a other there))

disjoint-set : (cl : List (Option (List ℕ))) (i : ℕ) (xs : List ℕ) → list_any (is_elsewhere cl i) xs ≡ false → AreDisjoint cl → AreDisjoint (set cl i (Some xs))
disjoint-set cl i xs other apart j m a p q = by (of-set cl i xs j a p) (of-set cl i xs m a q)
  where
    by : (is_of cl j a ≡ true) ⊎ ((j ≡ i) × (is_in a xs ≡ true)) → (is_of cl m a ≡ true) ⊎ ((m ≡ i) × (is_in a xs ≡ true)) → j ≡ m
    by (inl e) (inl f) = apart j m a e f
    by (inl e) (inr f) = same-or cl i xs j a other e f.1 ∙ sym f.0
    by (inr e) (inl f) = e.0 ∙ sym (same-or cl i xs m a other f e.1)
    by (inr e) (inr f) = e.0 ∙ sym f.0

module _ (o : Outline) where
  rows-put : (d : Draft) (xs : List Holder) (rows : List (List (Option Cell))) (i a : ℕ) (v : Value) → value_rule d (slice_get xs i) v ≡ 0 → has_field o d (slice_get xs i) a ≡ true → IsListed v →
      RowsFit d.greatest d.classes o.classes xs rows → RowsFit d.greatest d.classes o.classes xs (put_field (slice_get xs i) rows i a v)
  rows-put d [] [] i a v rule of listed h = h
  rows-put d [] (row ∷ rows) i a v rule of listed h = absurd h
  rows-put d (x ∷ xs) [] i a v rule of listed h = absurd h
  rows-put d (x ∷ xs) (row ∷ rows) zero a v rule of listed h = (
    length-set row a (Some (cell_of x.kind v)) ∙ h.0,
    row-put d.greatest d.classes o.classes x 0 row a a (cell_of x.kind v) (omega arith) (value-given d x v rule listed, of) h.1,
    h.2,
  )
  rows-put d (x ∷ xs) (row ∷ rows) (suc i) a v rule of listed h =
      subst (RowsFit d.greatest d.classes o.classes (x ∷ xs)) (sym (field-behind (slice_get xs i) row rows i a v)) (h.0, h.1, rows-put d xs rows i a v rule of listed h.2)

  -- nothing but classes was given
  pub record IsEarly (d : Draft) : Type 0 where
    pub statics : d.statics ≡ nothing (length o.statics)
    pub fields : d.fields ≡ replicate (length o.fields) (nothing (suc d.greatest))
    pub this : d.this ≡ None
    pub arguments : d.arguments ≡ nothing (length o.params)

  pub record DraftFits (d : Draft) : Type 0 where
    pub size : length d.classes ≡ length o.classes
    pub lists : ListsFit d.greatest d.classes
    pub apart : AreDisjoint d.classes
    pub statics : GivenFit d.greatest d.classes o.statics d.statics
    pub fields : RowsFit d.greatest d.classes o.classes o.fields d.fields
    pub this : (a : ℕ) → d.this ≡ Some a → may_be_this o d a ≡ true
    pub arguments : GivenFit d.greatest d.classes o.params d.arguments
    pub early : d.stage ≤ 1 → IsEarly d

  first-fits : (n : ℕ) → DraftFits (first_draft o n)
  first-fits n = record {
    size = size-nothing (List ℕ) (length o.classes);
    lists = lists-nothing n (length o.classes);
    apart = λ i j a p q. absurd (of-none (length o.classes) i a p);
    statics = given-nothing n (nothing (length o.classes)) o.statics;
    fields = rows-nothing n (nothing (length o.classes)) o.classes o.fields;
    this = λ a h. cc;
    arguments = given-nothing n (nothing (length o.classes)) o.params;
    early = λ le. record { statics = refl; fields = refl; this = refl; arguments = refl };
  }

  -- before the first line, or behind lines
  abbrev pub Begins : Draft → Type 0
  Begins d = (d.stage ≡ 0) ⊎ DraftFits d

  begun : (d : Draft) → Begins d → 0 < d.stage → DraftFits d
  begun d (inl e) some = absurd (omega (arith, e, some))
  begun d (inr f) some = f

  class-taken : (d : Draft) (i : ℕ) (xs : List ℕ) → DraftFits d → IsEarly d → is_ascending xs ≡ true → list_any (is_no_object d.greatest) xs ≡ false → list_any (is_elsewhere d.classes i) xs ≡ false →
      DraftFits (record d { stage = 1; classes = set d.classes i (Some xs) })
  class-taken d i xs f e listed objects other =
      let cl : List (Option (List ℕ)) = set d.classes i (Some xs) in
      record {
        size = length-set d.classes i (Some xs) ∙ f.size;
        lists = lists-set d.greatest d.classes i xs (objects, listed) f.lists;
        apart = disjoint-set d.classes i xs other f.apart;
        statics = subst (GivenFit d.greatest cl o.statics) (sym e.statics) (given-nothing d.greatest cl o.statics);
        fields = subst (RowsFit d.greatest cl o.classes o.fields) (sym e.fields) (rows-nothing d.greatest cl o.classes o.fields);
        this = λ a h. (let lost : None ≡ Some a = sym e.this ∙ h in cc);
        arguments = subst (GivenFit d.greatest cl o.params) (sym e.arguments) (given-nothing d.greatest cl o.params);
        early = λ le. record { statics = e.statics; fields = e.fields; this = e.this; arguments = e.arguments };
      }

  pub taken-fits : (d : Draft) (line : Line) → Begins d → IsLine line → in_order d.stage line ≡ true → rule_of o d line ≡ 0 → DraftFits (taken o d line)
  taken-fits d (l.universe n) b listed order rule = first-fits n
  taken-fits d (l.class c xs) b listed order rule =
      let at = later d.stage 1 refl order in
      let f = begun d b at.0 in
      let parts = class-parts (list_any (is_no_object d.greatest) xs) (list_any (is_elsewhere d.classes (place_of o.classes c)) xs) (place_of o.classes c == length o.classes) (is_given d.classes (place_of o.classes c)) rule in
      class-taken d (place_of o.classes c) xs f (f.early at.1) listed parts.0 parts.1
  taken-fits d (l.static_value x v) b listed order rule =
      let at = later d.stage 2 refl order in
      let f = begun d b at.0 in
      let i = place_of (texts_of o.statics) x in
      record {
        size = f.size;
        lists = f.lists;
        apart = f.apart;
        statics = given-put d o.statics d.statics i v (least-left _ (broken (is_given d.statics i) 7) rule) listed f.statics;
        fields = f.fields;
        this = f.this;
        arguments = f.arguments;
        early = λ le. absurd (omega (arith, le));
      }
  taken-fits d (l.field_value x a v) b listed order rule =
      let at = later d.stage 3 refl order in
      let f = begun d b at.0 in
      let i = place_of (texts_of o.fields) x in
      let rest = least-right (broken (nat_lt d.greatest a) 1) _ rule in
      let place = least-right (value_rule d (slice_get o.fields i) v) (field_place_rule o d i a) rest in
      let of = not-not (has_field o d (slice_get o.fields i) a) (unbroken (not (has_field o d (slice_get o.fields i) a)) 5 (least-left _ (broken (is_field_given d.fields i a) 7) place)) in
      record {
        size = f.size;
        lists = f.lists;
        apart = f.apart;
        statics = f.statics;
        fields = rows-put d o.fields d.fields i a v (least-left _ (field_place_rule o d i a) rest) of listed f.fields;
        this = f.this;
        arguments = f.arguments;
        early = λ le. absurd (omega (arith, le));
      }
  taken-fits d (l.this a) b listed order rule =
      let at = later d.stage 4 refl order in
      let f = begun d b at.0 in
      let rest = least-right (broken (nat_lt d.greatest a) 1) _ rule in
      let may = not-not (may_be_this o d a) (unbroken (not (may_be_this o d a)) 7 (least-right (broken (is_some d.this) 7) (broken (not (may_be_this o d a)) 8) rest)) in
      record {
        size = f.size;
        lists = f.lists;
        apart = f.apart;
        statics = f.statics;
        fields = f.fields;
        this = λ c h. (let same : a ≡ c = cc in subst (λ z. may_be_this o d z ≡ true) same may);
        arguments = f.arguments;
        early = λ le. absurd (omega (arith, le));
      }
  taken-fits d (l.argument x v) b listed order rule =
      let at = later d.stage 5 refl order in
      let f = begun d b at.0 in
      let i = place_of (texts_of o.params) x in
      record {
        size = f.size;
        lists = f.lists;
        apart = f.apart;
        statics = f.statics;
        fields = f.fields;
        this = f.this;
        arguments = given-put d o.params d.arguments i v (least-left _ (broken (is_given d.arguments i) 7) rule) listed f.arguments;
        early = λ le. absurd (omega (arith, le));
      }
