-- The lines of the fields are read.
use Rattle.std.proofs.Common.{◌≡◌, refl, sym, ap, subst, ◌∙◌, arith, ℕ, suc, ◌+◌, ◌<◌, ◌≤◌, not, Bool, true, false, if◌then◌else◌, List, [], ◌∷◌, ◌++◌, length, map, set, replicate, Option, Some, slice_get, append_assoc, append-nil, le-ltb, le-leb}
use Rattle.std.specs.Prelude.{codes}
use Rattle.std.specs.Fmt.{decimal}
use Rattle.std.specs.Option.{option_map_or}
use Rattle.std.proofs.lemmas.List.{set_at, length-map}
use Rattle.jh_semantics.specs.Code.{Text}
use Rattle.jh_semantics.specs.Heaps.{Cell}
use Rattle.jh_heap.specs.lines.Lines.{Line}
use Rattle.jh_heap.specs.lines.Lines as l
use Rattle.jh_heap.specs.text.Outlines.{Holder, Outline}
use Rattle.jh_heap.specs.text.Drafts.{Draft, place_of, texts_of, nothing}
use Rattle.jh_heap.specs.text.Rules.{is_of, is_given, is_field_given, has_field, value_rule, least, broken, field_rule, rule_of}
use Rattle.jh_heap.specs.text.Reading.{Reading, put_cell, put_field, cell_or, rows_or, taken}
use Rattle.jh_heap.specs.text.Writing.{cell_text, is_default, value_text, values_text, fields_text}
use Rattle.jh_heap_theorems.specs.round_trip.Names.{are_distinct}
use Rattle.jh_heap_theorems.proofs.round_trip.Words.{ends-here, ends-behind, ends-append, get-here, shift, one-longer}
use Rattle.jh_heap_theorems.proofs.round_trip.Numbers.{written_value, read-cell, clean-cell}
use Rattle.jh_heap_theorems.proofs.round_trip.Spelled.{field_line, field-is, clean-field}
use Rattle.jh_heap_theorems.proofs.round_trip.Turns.{outline, draft, Reads, reads-text, reads-draft, read-line}
use Rattle.jh_heap_theorems.proofs.round_trip.Values.{given_cell, ValueFits, NameFits, value-rule, put-same, cell-back, holder-place, holder-there, cells_before, cells_behind, cell-new, cell-put, cell-left, in-order}

-- The values of a field from an object on. What isn't a default stands at an object of its class.
abbrev pub CellsFit : ℕ → List (Option (List ℕ)) → List Text → Holder → ℕ → List Cell → Type 0
CellsFit n cl cs x a [] = Unit {0}
CellsFit n cl cs x a (cell ∷ cells) = ValueFits n cl x cell × (is_default cell ≡ false → is_of cl (place_of cs x.class) a ≡ true) × CellsFit n cl cs x (suc a) cells

abbrev pub FieldsFit : ℕ → List (Option (List ℕ)) → List Text → List Holder → List (List Cell) → Type 0
FieldsFit n cl cs [] [] = Unit {0}
FieldsFit n cl cs (x ∷ xs) (cells ∷ rest) = NameFits x × (length cells ≡ suc n) × CellsFit n cl cs x 0 cells × FieldsFit n cl cs xs rest
FieldsFit n cl cs _ _ = ⊥

row-back : (n : ℕ) (cl : List (Option (List ℕ))) (cs : List Text) (x : Holder) (a : ℕ) (cells : List Cell) → CellsFit n cl cs x a cells → map (cell_or x) (map given_cell cells) ≡ cells
row-back n cl cs x a [] v = refl
row-back n cl cs x a (cell ∷ cells) v = λ i. cell-back n cl x cell v.0 i ∷ row-back n cl cs x (suc a) cells v.2 i

pub rows-back : (n : ℕ) (cl : List (Option (List ℕ))) (cs : List Text) (xs : List Holder) (rows : List (List Cell)) → FieldsFit n cl cs xs rows → rows_or xs (map (map given_cell) rows) ≡ rows
rows-back n cl cs [] [] v = refl
rows-back n cl cs [] (cells ∷ rest) v = absurd v
rows-back n cl cs (x ∷ xs) [] v = absurd v
rows-back n cl cs (x ∷ xs) (cells ∷ rest) v = λ i. row-back n cl cs x 0 cells v.2 i ∷ rows-back n cl cs xs rest v.3 i

-- the values of one field
module _ (cs : List Text) (ss fs : List Holder) (n : ℕ) (small : n < 256) (distinct : are_distinct (texts_of fs) ≡ true) (cl : List (Option (List ℕ))) (st : List (Option Cell)) (r : Reading)
    (done rest : List Holder) (x : Holder) (rows_before rows_behind : List (List (Option Cell))) (split : fs ≡ done ++ (x ∷ rest)) (same : length done ≡ length rows_before) (name : NameFits x) where
  abbrev the_outline : Outline
  the_outline = outline cs ss fs

  abbrev rows : List (Option Cell) → List (List (Option Cell))
  rows row = rows_before ++ (row ∷ rows_behind)

  abbrev the_draft : ℕ → List (Option Cell) → Draft
  the_draft s row = draft n s cl st (rows row)

  field-place : place_of (texts_of fs) x.text ≡ length rows_before
  field-place = holder-place fs done rest x (length rows_before) distinct split same

  field-there : slice_get fs (length rows_before) ≡ Some x
  field-there = holder-there fs done rest x (length rows_before) split same

  row-there : (row : List (Option Cell)) → slice_get (rows row) (length rows_before) ≡ Some row
  row-there row = get-here rows_before row rows_behind (length rows_before) refl

  field-new : (before : List Cell) (m a : ℕ) → length before ≡ a → is_field_given (rows (cells_before before m)) (length rows_before) a ≡ false
  field-new before m a at = ap (λ (g : Option (List (Option Cell))). option_map_or (λ row. is_given row a) g false) (row-there (cells_before before m)) ∙ cell-new before m a at

  field-line-rule : (before : List Cell) (m : ℕ) (cell : Cell) (a s : ℕ) → length before ≡ a → a ≤ n → ValueFits n cl x cell → is_of cl (place_of cs x.class) a ≡ true →
      rule_of the_outline (the_draft s (cells_before before m)) (l.field_value x.text a (written_value cell)) ≡ 0
  field-line-rule before m cell a s at le v of =
      let within = le-ltb n a le in
      let new = field-new before m a at in
      let value = value-rule n cl x cell (the_draft s (cells_before before m)) refl refl v in
      ap (λ i. field_rule the_outline (the_draft s (cells_before before m)) i a (written_value cell)) field-place
      ∙ (λ i. least (broken (within i) 1) (least (value_rule (the_draft s (cells_before before m)) (field-there i) (written_value cell))
      (least (broken (not (has_field the_outline (the_draft s (cells_before before m)) (field-there i) a)) 6) (broken (new i) 7))))
      ∙ (λ i. least 0 (least (value i) (least (broken (not (of i)) 6) 0)))

  field-put : (before : List Cell) (m : ℕ) (cell : Cell) (a : ℕ) → length before ≡ a → ValueFits n cl x cell → is_default cell ≡ false →
      put_field (slice_get fs (place_of (texts_of fs) x.text)) (rows (cells_before before m)) (place_of (texts_of fs) x.text) a (written_value cell) ≡ rows (cells_behind before cell m)
  field-put before m cell a at v e =
      let row = row-there (cells_before before m) in
      ap (λ i. put_field (slice_get fs i) (rows (cells_before before m)) i a (written_value cell)) field-place
      ∙ (λ i. option_map_or (λ row. set (rows (cells_before before m)) (length rows_before) (put_cell (field-there i) row a (written_value cell))) (row i) (rows (cells_before before m)))
      ∙ ap (λ c. set (rows (cells_before before m)) (length rows_before) (set (cells_before before m) a (Some c))) (put-same n cl x cell v)
      ∙ ap (λ z. set (rows (cells_before before m)) (length rows_before) z) (cell-put before m a at cell e)
      ∙ set_at rows_before (cells_before before m) rows_behind (cells_behind before cell m) (length rows_before) refl

  value-ends : (a : ℕ) (cell : Cell) (more : List ℕ) → is_default cell ≡ false → value_text x a cell ++ more ≡ field_line x.text a (cell_text cell) ++ (10 ∷ more)
  value-ends a cell more e =
      ap (λ t. (if t then [] else codes "field " ++ (x.text ++ (32 ∷ (decimal a ++ (32 ∷ (cell_text cell ++ (10 ∷ []))))))) ++ more) e
      ∙ ends-append (codes "field ") (x.text ++ (32 ∷ (decimal a ++ (32 ∷ (cell_text cell ++ (10 ∷ [])))))) (x.text ++ (32 ∷ (decimal a ++ (32 ∷ cell_text cell))))
      (ends-append x.text (32 ∷ (decimal a ++ (32 ∷ (cell_text cell ++ (10 ∷ []))))) (32 ∷ (decimal a ++ (32 ∷ cell_text cell)))
      (ends-behind 32 (decimal a ++ (32 ∷ (cell_text cell ++ (10 ∷ [])))) (decimal a ++ (32 ∷ cell_text cell))
      (ends-append (decimal a) (32 ∷ (cell_text cell ++ (10 ∷ []))) (32 ∷ cell_text cell)
      (ends-behind 32 (cell_text cell ++ (10 ∷ [])) (cell_text cell) (ends-here (cell_text cell)))))) more

  abbrev Later : List ℕ → List (Option Cell) → Type 0
  Later more row = (e : ℕ) → 0 < e → e ≤ 3 → Reads the_outline more (the_draft e row) r

  value-step : (before : List Cell) (m : ℕ) (cell : Cell) (a : ℕ) (more : List ℕ) (s : ℕ) → length before ≡ a → a ≤ n → ValueFits n cl x cell → (is_default cell ≡ false → is_of cl (place_of cs x.class) a ≡ true) →
      0 < s → s ≤ 3 → Later more (cells_behind before cell m) → Reads the_outline (value_text x a cell ++ more) (the_draft s (cells_before before m)) r
  value-step before m cell a more s at within v of some le next = by (is_default cell) refl
    where
      by : (t : Bool) → is_default cell ≡ t → Reads the_outline (value_text x a cell ++ more) (the_draft s (cells_before before m)) r
      by true e =
          reads-text the_outline (value_text x a cell ++ more) more (the_draft s (cells_before before m)) r
          (ap (λ t. (if t then [] else codes "field " ++ (x.text ++ (32 ∷ (decimal a ++ (32 ∷ (cell_text cell ++ (10 ∷ []))))))) ++ more) e)
          (reads-draft the_outline more (the_draft s (cells_before before m)) (the_draft s (cells_behind before cell m)) r (ap (the_draft s) (cell-left before m cell e)) (next s some le))
      by false e =
          let clean = clean-cell n x.kind cell small v.kind v.word in
          let line = clean-field x.text a (cell_text cell) name.word (omega (arith, within, small)) clean in
          reads-text the_outline (value_text x a cell ++ more) (field_line x.text a (cell_text cell) ++ (10 ∷ more)) (the_draft s (cells_before before m)) r (value-ends a cell more e)
          (read-line the_outline (field_line x.text a (cell_text cell)) more (l.field_value x.text a (written_value cell)) (the_draft s (cells_before before m)) r line.feed
          (field-is x.text a (cell_text cell) (written_value cell) name.word name.dotted (omega (arith, within, small)) clean (read-cell n x.kind cell small v.kind v.word e))
          (in-order s (l.field_value x.text a (written_value cell)) 3 some (le-leb s 3 le))
          (field-line-rule before m cell a s at within v (of e))
          (reads-draft the_outline more (taken the_outline (the_draft s (cells_before before m)) (l.field_value x.text a (written_value cell))) (the_draft 3 (cells_behind before cell m)) r
          (ap (λ z. draft n 3 cl st z) (field-put before m cell a at v e)) (next 3 (omega arith) (omega arith))))

  pub read-values : (before after : List Cell) (a : ℕ) (more : List ℕ) (s : ℕ) → length before ≡ a → a + length after ≤ suc n → CellsFit n cl cs x a after → 0 < s → s ≤ 3 →
      Later more (map given_cell (before ++ after)) → Reads the_outline (values_text x a after ++ more) (the_draft s (map given_cell before ++ nothing (length after))) r
  read-values before [] a more s at within v some le next =
      reads-draft the_outline more (the_draft s (map given_cell before ++ [])) (the_draft s (map given_cell (before ++ []))) r
      (ap (the_draft s) (append-nil (map given_cell before) ∙ ap (map given_cell) (sym (append-nil before)))) (next s some le)
  read-values before (cell ∷ after) a more s at within v some le next =
      reads-text the_outline ((value_text x a cell ++ values_text x (suc a) after) ++ more) (value_text x a cell ++ (values_text x (suc a) after ++ more)) (the_draft s (cells_before before (length after))) r
      (append_assoc (value_text x a cell) (values_text x (suc a) after) more)
      (value-step before (length after) cell a (values_text x (suc a) after ++ more) s at (omega (arith, within)) v.0 v.1 some le
      (λ e p q. read-values (before ++ (cell ∷ [])) after (suc a) more e (one-longer before cell a at) (omega (arith, within)) v.2 p q
      (λ f g b. subst (λ z. Reads the_outline more (the_draft f (map given_cell z)) r) (sym (append_assoc before (cell ∷ []) after)) (next f g b))))

-- the values of all fields
module _ (cs : List Text) (ss fs : List Holder) (n : ℕ) (small : n < 256) (distinct : are_distinct (texts_of fs) ≡ true) (cl : List (Option (List ℕ))) (st : List (Option Cell)) (r : Reading) where
  abbrev rows_of : List (List Cell) → List (List (Option Cell))
  rows_of rows = map (map given_cell) rows

  abbrev none_given : ℕ → List (List (Option Cell))
  none_given m = replicate m (nothing (suc n))

  pub read-fields : (done rest : List Holder) (before after : List (List Cell)) (more : List ℕ) (s : ℕ) → fs ≡ done ++ rest → length done ≡ length before → FieldsFit n cl cs rest after → 0 < s → s ≤ 3 →
      ((e : ℕ) → 0 < e → e ≤ 3 → Reads (outline cs ss fs) more (draft n e cl st (rows_of (before ++ after))) r) →
      Reads (outline cs ss fs) (fields_text rest after ++ more) (draft n s cl st (rows_of before ++ none_given (length rest))) r
  read-fields done [] before [] more s split same v some le next =
      reads-draft (outline cs ss fs) more (draft n s cl st (rows_of before ++ [])) (draft n s cl st (rows_of (before ++ []))) r
      (ap (λ z. draft n s cl st z) (append-nil (rows_of before) ∙ ap rows_of (sym (append-nil before)))) (next s some le)
  read-fields done [] before (cells ∷ after) more s split same v some le next = absurd v
  read-fields done (x ∷ rest) before [] more s split same v some le next = absurd v
  read-fields done (x ∷ rest) before (cells ∷ after) more s split same v some le next =
      let size : length cells ≡ suc n = v.1 in
      reads-text (outline cs ss fs) ((values_text x 0 cells ++ fields_text rest after) ++ more) (values_text x 0 cells ++ (fields_text rest after ++ more)) (draft n s cl st (rows_of before ++ none_given (length (x ∷ rest)))) r
      (append_assoc (values_text x 0 cells) (fields_text rest after) more)
      (reads-draft (outline cs ss fs) (values_text x 0 cells ++ (fields_text rest after ++ more)) (draft n s cl st (rows_of before ++ none_given (length (x ∷ rest)))) (draft n s cl st (rows_of before ++ (nothing (length cells) ∷ none_given (length rest)))) r
      (ap (λ m. draft n s cl st (rows_of before ++ (nothing m ∷ none_given (length rest)))) (sym size))
      (read-values cs ss fs n small distinct cl st r done rest x (rows_of before) (none_given (length rest)) split (same ∙ sym (length-map before (map given_cell))) v.0 [] cells 0 (fields_text rest after ++ more) s refl (omega (arith, size)) v.2 some le
      (λ e p q. reads-draft (outline cs ss fs) (fields_text rest after ++ more) (draft n e cl st (rows_of before ++ (map given_cell cells ∷ none_given (length rest)))) (draft n e cl st (rows_of (before ++ (cells ∷ [])) ++ none_given (length rest))) r
      (ap (λ z. draft n e cl st z) (sym (shift (map given_cell) before cells (none_given (length rest)))))
      (read-fields (done ++ (x ∷ [])) rest (before ++ (cells ∷ [])) after more e (split ∙ sym (append_assoc done (x ∷ []) rest)) (one-longer done x (length before) same ∙ sym (one-longer before cells (length before) refl)) v.3 p q
      (λ f a b. subst (λ z. Reads (outline cs ss fs) more (draft n f cl st (rows_of z)) r) (sym (append_assoc before (cells ∷ []) after)) (next f a b))))))
