-- What lines give that break no rule is of the objects from 0 to the greatest.
use Rattle.std.proofs.Common.{◌≡◌, refl, sym, ap, subst, ◌∙◌, ◌⊎◌, inl, inr, ℕ, zero, suc, ◌<◌, nat_lt, List, [], ◌∷◌, map, length, replicate, Option, Some, None, slice_get}
use Rattle.std.specs.Prelude.{set}
use Rattle.jh_semantics.specs.Heaps.{Cell}
use Rattle.jh_heap.specs.lines.Lines.{Value, Line}
use Rattle.jh_heap.specs.lines.Lines as l
use Rattle.jh_heap.specs.text.Outlines.{Holder, Outline}
use Rattle.jh_heap.specs.text.Drafts.{Draft, empty_draft, nothing, place_of, texts_of, cell_of}
use Rattle.jh_heap.specs.text.Rules.{rule_of, value_rule, broken, is_given, field_place_rule}
use Rattle.jh_heap.specs.text.Reading.{put_cell, put_field, taken, first_draft, heap_of, args_of, cells_or, rows_or, cell_or}
use Rattle.jh_store.specs.heaps.Inside.{IsInside, AreInside, HeapIsInside, ArgsAreInside}
use Rattle.jh_heap.proofs.object_bounds.Values.{value-inside, default-inside, least-left, least-right, unbroken, rule-beyond, not-beyond}

-- what was given is inside
abbrev pub GivenInside : ℕ → List (Option Cell) → Type 0
GivenInside n given = (i : ℕ) (cell : Cell) → slice_get given i ≡ Some (Some cell) → IsInside n cell

pub record DraftInside (d : Draft) : Type 0 where
  pub statics : GivenInside d.greatest d.statics
  pub fields : (i : ℕ) (row : List (Option Cell)) → slice_get d.fields i ≡ Some row → GivenInside d.greatest row
  pub this : (a : ℕ) → d.this ≡ Some a → a < suc d.greatest
  pub arguments : GivenInside d.greatest d.arguments

-- lists with another item at a place
changed : {X : Type 0} (xs : List X) (i k : ℕ) (x y : X) → slice_get (set xs i x) k ≡ Some y → (slice_get xs k ≡ Some y) ⊎ (y ≡ x)
changed [] i k x y h = inl h
changed (z ∷ xs) zero zero x y h = inr cc
changed (z ∷ xs) zero (suc k) x y h = inl h
changed (z ∷ xs) (suc i) zero x y h = inl h
changed (z ∷ xs) (suc i) (suc k) x y h = changed xs i k x y h

nothing-there : {X : Type 0} (n i : ℕ) (x : X) → slice_get (nothing n) i ≡ Some (Some x) → ⊥
nothing-there zero i x h = cc
nothing-there (suc n) zero x h = cc
nothing-there (suc n) (suc i) x h = nothing-there n i x h

same-there : {X : Type 0} (n i : ℕ) (x y : X) → slice_get (replicate n x) i ≡ Some y → y ≡ x
same-there zero i x y h = cc
same-there (suc n) zero x y h = cc
same-there (suc n) (suc i) x y h = same-there n i x y h

-- a value of what is there, which breaks no rule, is put
put-inside : (d : Draft) (holder : Option Holder) (given : List (Option Cell)) (i : ℕ) (v : Value) → GivenInside d.greatest given → value_rule d holder v ≡ 0 → GivenInside d.greatest (put_cell holder given i v)
put-inside d None given i v inside rule k cell at = inside k cell at
put-inside d (Some x) given i v inside rule k cell at = by (changed given i k (Some (cell_of x.kind v)) (Some cell) at)
  where
    by : (slice_get given k ≡ Some (Some cell)) ⊎ (Some cell ≡ Some (cell_of x.kind v)) → IsInside d.greatest cell
    by (inl there) = inside k cell there
    by (inr e) = let same : cell_of x.kind v ≡ cell = cc in subst (IsInside d.greatest) same (value-inside d.greatest x.kind v (rule-beyond d x v rule))

put-row : (d : Draft) (holder : Option Holder) (rows : List (List (Option Cell))) (i a : ℕ) (v : Value) → ((k : ℕ) (row : List (Option Cell)) → slice_get rows k ≡ Some row → GivenInside d.greatest row) → value_rule d holder v ≡ 0 →
    (k : ℕ) (row : List (Option Cell)) → slice_get (put_field holder rows i a v) k ≡ Some row → GivenInside d.greatest row
put-row d holder rows i a v inside rule k row at = by (slice_get rows i) refl
  where
    by : (o : Option (List (Option Cell))) → slice_get rows i ≡ o → GivenInside d.greatest row
    by None e = inside k row (there ∙ at)
      where
        there : slice_get rows k ≡ slice_get (put_field holder rows i a v) k
        there = rw e refl
    by (Some old) e = either (changed rows i k (put_cell holder old a v) row (there ∙ at))
      where
        there : slice_get (set rows i (put_cell holder old a v)) k ≡ slice_get (put_field holder rows i a v) k
        there = rw e refl

        either : (slice_get rows k ≡ Some row) ⊎ (row ≡ put_cell holder old a v) → GivenInside d.greatest row
        either (inl same) = inside k row same
        either (inr same) = subst (GivenInside d.greatest) (sym same) (put-inside d holder old a v (inside i old e) rule)

pub empty-inside : DraftInside empty_draft
empty-inside = record { statics = λ i cell h. cc; fields = λ i row h. cc; this = λ a h. cc; arguments = λ i cell h. cc }

module _ (o : Outline) where
  first-inside : (n : ℕ) → DraftInside (first_draft o n)
  first-inside n = record {
    statics = λ i cell h. absurd (nothing-there (length o.statics) i cell h);
    fields = λ i row h k cell at. absurd (nothing-there (suc n) k cell (ap (λ r. slice_get r k) (sym (same-there (length o.fields) i (nothing (suc n)) row h)) ∙ at));
    this = λ a h. cc;
    arguments = λ i cell h. absurd (nothing-there (length o.params) i cell h);
  }

  -- what a line gives that breaks no rule
  pub taken-inside : (d : Draft) (line : Line) → DraftInside d → rule_of o d line ≡ 0 → DraftInside (taken o d line)
  taken-inside d (l.universe n) inside rule = first-inside n
  taken-inside d (l.class c xs) inside rule = record { statics = inside.statics; fields = inside.fields; this = inside.this; arguments = inside.arguments }
  taken-inside d (l.static_value x v) inside rule =
      let i = place_of (texts_of o.statics) x in
      record { statics = put-inside d (slice_get o.statics i) d.statics i v inside.statics (least-left _ (broken (is_given d.statics i) 7) rule); fields = inside.fields; this = inside.this; arguments = inside.arguments }
  taken-inside d (l.field_value x a v) inside rule =
      let i = place_of (texts_of o.fields) x in
      let rest = least-right (broken (nat_lt d.greatest a) 1) _ rule in
      record { statics = inside.statics; fields = put-row d (slice_get o.fields i) d.fields i a v inside.fields (least-left _ (field_place_rule o d i a) rest); this = inside.this; arguments = inside.arguments }
  taken-inside d (l.this a) inside rule =
      let within = not-beyond d.greatest a (unbroken (nat_lt d.greatest a) 0 (least-left (broken (nat_lt d.greatest a) 1) _ rule)) in
      record { statics = inside.statics; fields = inside.fields; this = λ b h. (let same : a ≡ b = cc in subst (λ z. z < suc d.greatest) same within); arguments = inside.arguments }
  taken-inside d (l.argument x v) inside rule =
      let i = place_of (texts_of o.params) x in
      record { statics = inside.statics; fields = inside.fields; this = inside.this; arguments = put-inside d (slice_get o.params i) d.arguments i v inside.arguments (least-left _ (broken (is_given d.arguments i) 7) rule) }

  one-or : (n : ℕ) (x : Holder) (given : Option Cell) → ((cell : Cell) → given ≡ Some cell → IsInside n cell) → IsInside n (cell_or x given)
  one-or n x None inside = default-inside n x.kind
  one-or n x (Some cell) inside = inside cell refl

  given-or : (n : ℕ) (hs : List Holder) (given : List (Option Cell)) → GivenInside n given → AreInside n (cells_or hs given)
  given-or n [] given inside i cell h = cc
  given-or n (x ∷ hs) [] inside i cell h = cc
  given-or n (x ∷ hs) (g ∷ given) inside zero cell h = let same : cell_or x g ≡ cell = cc in subst (IsInside n) same (one-or n x g (λ c e. inside 0 c (ap (λ z. Some z) e)))
  given-or n (x ∷ hs) (g ∷ given) inside (suc i) cell h = given-or n hs given (λ k. inside (suc k)) i cell h

  row-or : (n : ℕ) (x : Holder) (given : List (Option Cell)) → GivenInside n given → AreInside n (map (cell_or x) given)
  row-or n x [] inside i cell h = cc
  row-or n x (g ∷ given) inside zero cell h = let same : cell_or x g ≡ cell = cc in subst (IsInside n) same (one-or n x g (λ c e. inside 0 c (ap (λ z. Some z) e)))
  row-or n x (g ∷ given) inside (suc i) cell h = row-or n x given (λ k. inside (suc k)) i cell h

  rows-inside : (n : ℕ) (hs : List Holder) (rows : List (List (Option Cell))) → ((k : ℕ) (row : List (Option Cell)) → slice_get rows k ≡ Some row → GivenInside n row) → (i : ℕ) (cells : List Cell) → slice_get (rows_or hs rows) i ≡ Some cells → AreInside n cells
  rows-inside n [] rows inside i cells h = cc
  rows-inside n (x ∷ hs) [] inside i cells h = cc
  rows-inside n (x ∷ hs) (r ∷ rows) inside zero cells h = let same : map (cell_or x) r ≡ cells = cc in subst (AreInside n) same (row-or n x r (inside 0 r refl))
  rows-inside n (x ∷ hs) (r ∷ rows) inside (suc i) cells h = rows-inside n hs rows (λ k. inside (suc k)) i cells h

  -- and so is what is read in the end
  pub heap-inside : (d : Draft) → DraftInside d → HeapIsInside (heap_of o d)
  heap-inside d inside = record { statics = given-or d.greatest o.statics d.statics inside.statics; fields = rows-inside d.greatest o.fields d.fields inside.fields }

  pub args-inside : (d : Draft) → DraftInside d → ArgsAreInside d.greatest (args_of o d)
  args-inside d inside = record { this = inside.this; values = given-or d.greatest o.params d.arguments inside.arguments }
