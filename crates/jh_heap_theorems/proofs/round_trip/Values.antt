-- The lines of the statics are read.
use Rattle.std.proofs.Common.{◌≡◌, refl, sym, ap, subst, ◌∙◌, arith, ℕ, suc, ◌<◌, ◌≤◌, ◌==◌, not, nat_lt, nat_le, ℤ, pos, negsuc, Bool, true, false, true≢false, if◌then◌else◌, List, [], ◌∷◌, ◌++◌, length, map, set, Option, Some, None, slice_get, is_some, append_assoc, append-nil, ne_eqb, le-ltb, le-leb, ltb-true, eqb-true}
use Rattle.std.specs.Prelude.{codes}
use Rattle.std.specs.List.{list_any, list_all}
use Rattle.std.specs.Option.{option_map_or}
use Rattle.std.proofs.lemmas.Bool.{and_parts, or_from}
use Rattle.std.proofs.lemmas.List.{set_at, length-map, map-append}
use Rattle.jh_name.specs.declared.place.Kind.{Kind}
use Rattle.jh_name.specs.declared.place.Kind.TheVariants as k
use Rattle.jh_semantics.specs.Code.{Text}
use Rattle.jh_semantics.specs.Heaps.{Cell, object, number, truth_value, is_cell, is_ascending}
use Rattle.jh_semantics.specs.Heaps as h
use Rattle.jh_heap.specs.lines.Lines.{Value, Line, is_dotted, value_of}
use Rattle.jh_heap.specs.lines.Lines as l
use Rattle.jh_heap.specs.text.Outlines.{Holder, Outline}
use Rattle.jh_heap.specs.text.Drafts.{Draft, place_of, texts_of, default_cell, cell_of, nothing}
use Rattle.jh_heap.specs.text.Rules.{is_given, is_beyond, fits, strays, value_rule, least, broken, static_rule, rule_of}
use Rattle.jh_heap.specs.text.Reading.{Reading, put_cell, cell_or, cells_or, taken}
use Rattle.jh_heap.specs.text.Writing.{cell_text, is_zero, is_default, static_text, statics_text}
use Rattle.jh_heap_theorems.specs.round_trip.Names.{IsWord, FitsWord, are_distinct}
use Rattle.jh_heap_theorems.proofs.round_trip.Words.{ends-here, ends-behind, ends-append, get-here, shift, one-longer, place-here, not-is}
use Rattle.jh_heap_theorems.proofs.round_trip.Numbers.{written_value, read-cell, clean-cell}
use Rattle.jh_heap_theorems.proofs.round_trip.Spelled.{static_line, static-is, clean-static}
use Rattle.jh_heap_theorems.proofs.round_trip.Turns.{outline, draft, Reads, reads-text, reads-draft, read-line}

-- what is given of a value: nothing where it is a default
abbrev pub given_cell : Cell → Option Cell
given_cell cell = if is_default cell then None else Some cell

pub default-given : (cell : Cell) → is_default cell ≡ true → given_cell cell ≡ None
default-given cell e = ap (λ t. if t then None else Some cell) e

pub other-given : (cell : Cell) → is_default cell ≡ false → given_cell cell ≡ Some cell
other-given cell e = ap (λ t. if t then None else Some cell) e

-- a value of a kind, within the objects, which is in the type of what has it
pub record ValueFits (n : ℕ) (cl : List (Option (List ℕ))) (x : Holder) (cell : Cell) : Type 0 where
  pub kind : is_cell n x.kind cell ≡ true
  pub word : FitsWord cell
  pub type : (d : Draft) → d.classes ≡ cl → strays d x.type (written_value cell) ≡ false

pub record NameFits (x : Holder) : Type 0 where
  pub word : IsWord x.text
  pub dotted : is_dotted x.text ≡ true

-- values of a kind
record IsKept (n : ℕ) (kind : Kind) (cell : Cell) : Type 0 where
  within : is_beyond n kind (written_value cell) ≡ false
  fit : fits kind (written_value cell) ≡ true
  same : cell_of kind (written_value cell) ≡ cell
  default : is_default cell ≡ true → default_cell kind ≡ cell

none-above : (n : ℕ) (xs : List ℕ) → list_all (λ a. nat_lt a (suc n)) xs ≡ true → list_any (nat_lt n) xs ≡ false
none-above n [] e = refl
none-above n (a ∷ xs) e =
    let parts = and_parts (nat_lt a (suc n)) (list_all (λ b. nat_lt b (suc n)) xs) e in
    let lt = ltb-true a (suc n) parts.0 in
    or_from (nat_lt n a) (list_any (nat_lt n) xs) (le-ltb n a (omega (arith, lt))) (none-above n xs parts.1)

zero-default : (z : ℤ) → is_zero z ≡ true → number (pos 0) ≡ number z
zero-default (pos a) e = ap (λ b. number (pos b)) (sym (eqb-true a 0 e))
zero-default (negsuc a) e = absurd (true≢false (sym e))

empty-default : (xs : List ℕ) → (length xs == 0) ≡ true → h.set [] ≡ h.set xs
empty-default [] e = refl
empty-default (a ∷ xs) e = absurd (omega (arith, eqb-true (length (a ∷ xs)) 0 e))

kept : (n : ℕ) (kind : Kind) (cell : Cell) → is_cell n kind cell ≡ true → IsKept n kind cell
kept n k.Obj (object a) e =
    let lt = ltb-true a (suc n) e in
    record { within = le-ltb n a (omega (arith, lt)); fit = refl; same = refl; default = λ z. ap object (sym (eqb-true a 0 z)) }
kept n k.Int (number z) e = record { within = refl; fit = refl; same = refl; default = zero-default z }
kept n k.Bool (truth_value b) e = record { within = refl; fit = refl; same = refl; default = λ z. ap truth_value (sym (not-is b z)) }
kept n k.Set (h.set xs) e =
    let parts = and_parts (list_all (λ a. nat_lt a (suc n)) xs) (is_ascending xs) e in
    record { within = none-above n xs parts.0; fit = refl; same = refl; default = empty-default xs }
kept n kind cell e = absurd (true≢false (sym e))

-- such a value breaks no rule, and is the one that is put
pub value-rule : (n : ℕ) (cl : List (Option (List ℕ))) (x : Holder) (cell : Cell) (d : Draft) → d.greatest ≡ n → d.classes ≡ cl → ValueFits n cl x cell → value_rule d (Some x) (written_value cell) ≡ 0
value-rule n cl x cell d greatest classes v =
    let known = kept n x.kind cell v.kind in
    let within = known.within in
    let fit = known.fit in
    let type = v.type d classes in
    ap (λ m. if is_beyond m x.kind (written_value cell) then 1 else (if not (fits x.kind (written_value cell)) then 4 else (if strays d x.type (written_value cell) then 5 else 0))) greatest
    ∙ (λ i. if within i then 1 else (if not (fit i) then 4 else (if type i then 5 else 0)))

pub put-same : (n : ℕ) (cl : List (Option (List ℕ))) (x : Holder) (cell : Cell) → ValueFits n cl x cell → cell_of x.kind (written_value cell) ≡ cell
put-same n cl x cell v = let known = kept n x.kind cell v.kind in known.same

-- what is given gives the value back
pub cell-back : (n : ℕ) (cl : List (Option (List ℕ))) (x : Holder) (cell : Cell) → ValueFits n cl x cell → cell_or x (given_cell cell) ≡ cell
cell-back n cl x cell v = by (is_default cell) refl
  where
    by : (t : Bool) → is_default cell ≡ t → cell_or x (given_cell cell) ≡ cell
    by true e = let known = kept n x.kind cell v.kind in ap (cell_or x) (default-given cell e) ∙ known.default e
    by false e = ap (cell_or x) (other-given cell e)

-- places
pub holder-place : (hs done rest : List Holder) (x : Holder) (m : ℕ) → are_distinct (texts_of hs) ≡ true → hs ≡ done ++ (x ∷ rest) → length done ≡ m → place_of (texts_of hs) x.text ≡ m
holder-place hs done rest x m distinct split same =
    let texts : texts_of hs ≡ texts_of done ++ (x.text ∷ texts_of rest) = ap texts_of split ∙ map-append (λ (y : Holder). y.text) done (x ∷ rest) in
    ap (λ z. place_of z x.text) texts
    ∙ place-here (texts_of done) (texts_of rest) x.text (subst (λ z. are_distinct z ≡ true) texts distinct)
    ∙ length-map done (λ (y : Holder). y.text) ∙ same

pub holder-there : (hs done rest : List Holder) (x : Holder) (m : ℕ) → hs ≡ done ++ (x ∷ rest) → length done ≡ m → slice_get hs m ≡ Some x
holder-there hs done rest x m split same = ap (λ z. slice_get z m) split ∙ get-here done x rest m same

-- the values before a place, and what is to come
abbrev pub cells_before : List Cell → ℕ → List (Option Cell)
cells_before before m = map given_cell before ++ (None ∷ nothing m)

abbrev pub cells_behind : List Cell → Cell → ℕ → List (Option Cell)
cells_behind before cell m = map given_cell (before ++ (cell ∷ [])) ++ nothing m

module _ (before : List Cell) (m i : ℕ) (same : length before ≡ i) where
  pub cell-new : is_given (cells_before before m) i ≡ false
  cell-new = ap (λ (g : Option (Option Cell)). option_map_or is_some g false) (get-here (map given_cell before) None (nothing m) i (length-map before given_cell ∙ same))

  pub cell-put : (cell : Cell) → is_default cell ≡ false → set (cells_before before m) i (Some cell) ≡ cells_behind before cell m
  cell-put cell e =
      set_at (map given_cell before) None (nothing m) (Some cell) i (length-map before given_cell ∙ same)
      ∙ ap (λ g. map given_cell before ++ (g ∷ nothing m)) (sym (other-given cell e))
      ∙ sym (shift given_cell before cell (nothing m))

pub cell-left : (before : List Cell) (m : ℕ) (cell : Cell) → is_default cell ≡ true → cells_before before m ≡ cells_behind before cell m
cell-left before m cell e = ap (λ g. map given_cell before ++ (g ∷ nothing m)) (sym (default-given cell e)) ∙ sym (shift given_cell before cell (nothing m))

pub in-order : (s : ℕ) (line : Line) (q : ℕ) → 0 < s → nat_le s q ≡ true → (if s == 0 then q == 0 else nat_le s q) ≡ true
in-order s line q some le = ap (λ t. if t then q == 0 else nat_le s q) (ne_eqb s 0 (λ e. omega (arith, e, some))) ∙ le

abbrev pub ValuesFit : ℕ → List (Option (List ℕ)) → List Holder → List Cell → Type 0
ValuesFit n cl [] [] = Unit {0}
ValuesFit n cl (x ∷ xs) (cell ∷ cells) = NameFits x × ValueFits n cl x cell × ValuesFit n cl xs cells
ValuesFit n cl _ _ = ⊥

pub cells-back : (n : ℕ) (cl : List (Option (List ℕ))) (xs : List Holder) (cells : List Cell) → ValuesFit n cl xs cells → cells_or xs (map given_cell cells) ≡ cells
cells-back n cl [] [] v = refl
cells-back n cl [] (cell ∷ cells) v = absurd v
cells-back n cl (x ∷ xs) [] v = absurd v
cells-back n cl (x ∷ xs) (cell ∷ cells) v = λ i. cell-back n cl x cell v.1 i ∷ cells-back n cl xs cells v.2 i

module _ (cs : List Text) (ss fs : List Holder) (n : ℕ) (small : n < 256) (distinct : are_distinct (texts_of ss) ≡ true) (cl : List (Option (List ℕ))) (fi : List (List (Option Cell))) (r : Reading) where
  abbrev the_outline : Outline
  the_outline = outline cs ss fs

  abbrev the_draft : ℕ → List (Option Cell) → Draft
  the_draft s st = draft n s cl st fi

  static-rule : (done rest : List Holder) (x : Holder) (before : List Cell) (m : ℕ) (cell : Cell) (s : ℕ) → ss ≡ done ++ (x ∷ rest) → length done ≡ length before → ValueFits n cl x cell →
      rule_of the_outline (the_draft s (cells_before before m)) (l.static_value x.text (written_value cell)) ≡ 0
  static-rule done rest x before m cell s split same v =
      let there = holder-there ss done rest x (length before) split same in
      let new = cell-new before m (length before) refl in
      ap (λ i. static_rule the_outline (the_draft s (cells_before before m)) i (written_value cell)) (holder-place ss done rest x (length before) distinct split same)
      ∙ (λ i. least (value_rule (the_draft s (cells_before before m)) (there i) (written_value cell)) (broken (new i) 7))
      ∙ ap (λ q. least q 0) (value-rule n cl x cell (the_draft s (cells_before before m)) refl refl v)

  static-put : (done rest : List Holder) (x : Holder) (before : List Cell) (m : ℕ) (cell : Cell) → ss ≡ done ++ (x ∷ rest) → length done ≡ length before → ValueFits n cl x cell → is_default cell ≡ false →
      put_cell (slice_get ss (place_of (texts_of ss) x.text)) (cells_before before m) (place_of (texts_of ss) x.text) (written_value cell) ≡ cells_behind before cell m
  static-put done rest x before m cell split same v e =
      ap (λ i. put_cell (slice_get ss i) (cells_before before m) i (written_value cell)) (holder-place ss done rest x (length before) distinct split same)
      ∙ ap (λ g. put_cell g (cells_before before m) (length before) (written_value cell)) (holder-there ss done rest x (length before) split same)
      ∙ ap (λ c. set (cells_before before m) (length before) (Some c)) (put-same n cl x cell v)
      ∙ cell-put before m (length before) refl cell e

  static-ends : (x : Holder) (cell : Cell) (more : List ℕ) → is_default cell ≡ false → static_text x cell ++ more ≡ static_line x.text (cell_text cell) ++ (10 ∷ more)
  static-ends x cell more e =
      ap (λ t. (if t then [] else codes "static " ++ (x.text ++ (32 ∷ (cell_text cell ++ (10 ∷ []))))) ++ more) e
      ∙ ends-append (codes "static ") (x.text ++ (32 ∷ (cell_text cell ++ (10 ∷ [])))) (x.text ++ (32 ∷ cell_text cell))
      (ends-append x.text (32 ∷ (cell_text cell ++ (10 ∷ []))) (32 ∷ cell_text cell) (ends-behind 32 (cell_text cell ++ (10 ∷ [])) (cell_text cell) (ends-here (cell_text cell)))) more

  abbrev Later : List ℕ → List (Option Cell) → Type 0
  Later more st = (e : ℕ) → 0 < e → e ≤ 2 → Reads the_outline more (the_draft e st) r

  static-step : (done rest : List Holder) (x : Holder) (before : List Cell) (m : ℕ) (cell : Cell) (more : List ℕ) (s : ℕ) → ss ≡ done ++ (x ∷ rest) → length done ≡ length before → NameFits x → ValueFits n cl x cell →
      0 < s → s ≤ 2 → Later more (cells_behind before cell m) → Reads the_outline (static_text x cell ++ more) (the_draft s (cells_before before m)) r
  static-step done rest x before m cell more s split same name v some le next = by (is_default cell) refl
    where
      by : (t : Bool) → is_default cell ≡ t → Reads the_outline (static_text x cell ++ more) (the_draft s (cells_before before m)) r
      by true e =
          reads-text the_outline (static_text x cell ++ more) more (the_draft s (cells_before before m)) r
          (ap (λ t. (if t then [] else codes "static " ++ (x.text ++ (32 ∷ (cell_text cell ++ (10 ∷ []))))) ++ more) e)
          (reads-draft the_outline more (the_draft s (cells_before before m)) (the_draft s (cells_behind before cell m)) r (ap (the_draft s) (cell-left before m cell e)) (next s some le))
      by false e =
          let clean = clean-cell n x.kind cell small v.kind v.word in
          let line = clean-static x.text (cell_text cell) name.word clean in
          reads-text the_outline (static_text x cell ++ more) (static_line x.text (cell_text cell) ++ (10 ∷ more)) (the_draft s (cells_before before m)) r (static-ends x cell more e)
          (read-line the_outline (static_line x.text (cell_text cell)) more (l.static_value x.text (written_value cell)) (the_draft s (cells_before before m)) r line.feed
          (static-is x.text (cell_text cell) (written_value cell) name.word name.dotted clean (read-cell n x.kind cell small v.kind v.word e))
          (in-order s (l.static_value x.text (written_value cell)) 2 some (le-leb s 2 le))
          (static-rule done rest x before m cell s split same v)
          (reads-draft the_outline more (taken the_outline (the_draft s (cells_before before m)) (l.static_value x.text (written_value cell))) (the_draft 2 (cells_behind before cell m)) r
          (ap (the_draft 2) (static-put done rest x before m cell split same v e)) (next 2 (omega arith) (omega arith))))

  pub read-statics : (done rest : List Holder) (before after : List Cell) (more : List ℕ) (s : ℕ) → ss ≡ done ++ rest → length done ≡ length before → ValuesFit n cl rest after → 0 < s → s ≤ 2 →
      Later more (map given_cell (before ++ after)) → Reads the_outline (statics_text rest after ++ more) (the_draft s (map given_cell before ++ nothing (length rest))) r
  read-statics done [] before [] more s split same v some le next =
      reads-draft the_outline more (the_draft s (map given_cell before ++ [])) (the_draft s (map given_cell (before ++ []))) r
      (ap (the_draft s) (append-nil (map given_cell before) ∙ ap (map given_cell) (sym (append-nil before)))) (next s some le)
  read-statics done [] before (cell ∷ after) more s split same v some le next = absurd v
  read-statics done (x ∷ rest) before [] more s split same v some le next = absurd v
  read-statics done (x ∷ rest) before (cell ∷ after) more s split same v some le next =
      reads-text the_outline ((static_text x cell ++ statics_text rest after) ++ more) (static_text x cell ++ (statics_text rest after ++ more)) (the_draft s (cells_before before (length rest))) r
      (append_assoc (static_text x cell) (statics_text rest after) more)
      (static-step done rest x before (length rest) cell (statics_text rest after ++ more) s split same v.0 v.1 some le
      (λ e p q. read-statics (done ++ (x ∷ [])) rest (before ++ (cell ∷ [])) after more e (split ∙ sym (append_assoc done (x ∷ []) rest)) (one-longer done x (length before) same ∙ sym (one-longer before cell (length before) refl)) v.2 p q
      (λ f a b. subst (λ z. Reads the_outline more (the_draft f (map given_cell z)) r) (sym (append_assoc before (cell ∷ []) after)) (next f a b))))
