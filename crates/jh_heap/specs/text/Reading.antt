-- The heap and the arguments that a text spells, or what is wrong with it first.
use Rattle.std.specs.Prelude.{ℕ, zero, suc, ◌==◌, ◌&&◌, ◌||◌, nat_le, Bool, if◌then◌else◌, List, [], ◌∷◌, length, map, Option, None, Some, slice_get, set, replicate}
use Rattle.std.specs.List.{list_any}
use Rattle.std.specs.Option.{option_map_or, is_none, is_some}
use Rattle.jh_name.specs.declared.place.Kind.{Kind}
use Rattle.jh_semantics.specs.Heaps.{Cell, Heap, Args}
use Rattle.jh_heap.specs.lines.Bytes.{split, is_empty}
use Rattle.jh_heap.specs.lines.Lines.{Value, Line, line_of}
use Rattle.jh_heap.specs.lines.Lines as l
use Rattle.jh_heap.specs.text.Outlines.{Holder, Outline}
use Rattle.jh_heap.specs.text.Drafts.{Draft, empty_draft, place_of, texts_of, cell_of, default_cell, nothing}
use Rattle.jh_heap.specs.text.Rules.{rule_of}

-- what comes of reading: a heap with arguments; the number of the first line that has no form or stands out of order; or that of the
-- first line that breaks a rule, with the least rule that it breaks
pub data Reading : Type 0 where
  read : Heap → Args → Reading
  bad_line : ℕ → Reading
  not_well_formed : ℕ → ℕ → Reading

-- what comes of a line: more lines are read, or reading ends
pub data Step : Type 0 where
  goes_on : Draft → Step
  ends : Reading → Step

abbrev pub then_on : Step → (Draft → Reading) → Reading
then_on (goes_on d) next = next d
then_on (ends r) next = r

-- Lines come in this order.
abbrev pub rank : Line → ℕ
rank (l.universe n) = 0
rank (l.class c xs) = 1
rank (l.static_value x v) = 2
rank (l.field_value x a v) = 3
rank (l.this a) = 4
rank (l.argument x v) = 5

-- the first line gives the greatest object, and no other does
abbrev pub in_order : ℕ → Line → Bool
in_order stage line = if stage == 0 then rank line == 0 else nat_le stage (rank line)

abbrev pub with_class : Draft → ℕ → List ℕ → Draft
with_class d i xs = record d { stage = 1; classes = set d.classes i (Some xs) }

abbrev pub with_this : Draft → ℕ → Draft
with_this d a = record d { stage = 4; this = Some a }

-- a value at a place of what has it
abbrev pub put_cell : Option Holder → List (Option Cell) → ℕ → Value → List (Option Cell)
put_cell None cells i v = cells
put_cell (Some h) cells i v = set cells i (Some (cell_of h.kind v))

abbrev pub put_field : Option Holder → List (List (Option Cell)) → ℕ → ℕ → Value → List (List (Option Cell))
put_field h rows i a v = option_map_or (λ row. set rows i (put_cell h row a v)) (slice_get rows i) rows

-- a value, or the default of a kind where none was given
abbrev pub cell_or_default : Kind → Option Cell → Cell
cell_or_default k None = default_cell k
cell_or_default k (Some cell) = cell

abbrev pub cell_or : Holder → Option Cell → Cell
cell_or h given = cell_or_default h.kind given

abbrev pub cells_or : List Holder → List (Option Cell) → List Cell
cells_or (h ∷ hs) (cell ∷ cells) = cell_or h cell ∷ cells_or hs cells
cells_or hs cells = []

abbrev pub rows_or : List Holder → List (List (Option Cell)) → List (List Cell)
rows_or (h ∷ hs) (row ∷ rows) = map (cell_or h) row ∷ rows_or hs rows
rows_or hs rows = []

-- the value of what has a place, where something has it, and the values of the field there
abbrev pub cell_at : List Holder → ℕ → Option Cell → List Cell
cell_at hs i given = option_map_or (λ h. cell_or h given ∷ []) (slice_get hs i) []

abbrev pub row_at : List Holder → ℕ → List (Option Cell) → List (List Cell)
row_at hs i row = option_map_or (λ h. map (cell_or h) row ∷ []) (slice_get hs i) []

abbrev pub objects_or : Option (List ℕ) → List ℕ
objects_or None = []
objects_or (Some xs) = xs

module _ (o : Outline) where
  abbrev pub first_draft : ℕ → Draft
  first_draft n = record {
    greatest = n;
    stage = 1;
    classes = nothing (length o.classes);
    statics = nothing (length o.statics);
    fields = replicate (length o.fields) (nothing (suc n));
    this = None;
    arguments = nothing (length o.params);
  }

  -- with the value of a static, of a field at an object, of `this`, of a parameter
  abbrev pub with_static : Draft → ℕ → Value → Draft
  with_static d i v = record d { stage = 2; statics = put_cell (slice_get o.statics i) d.statics i v }

  abbrev pub with_field : Draft → ℕ → ℕ → Value → Draft
  with_field d i a v = record d { stage = 3; fields = put_field (slice_get o.fields i) d.fields i a v }

  abbrev pub with_argument : Draft → ℕ → Value → Draft
  with_argument d i v = record d { stage = 5; arguments = put_cell (slice_get o.params i) d.arguments i v }

  -- what a line gives that breaks no rule
  abbrev pub taken : Draft → Line → Draft
  taken d (l.universe n) = first_draft n
  taken d (l.class c xs) = with_class d (place_of o.classes c) xs
  taken d (l.static_value x v) = with_static d (place_of (texts_of o.statics) x) v
  taken d (l.field_value x a v) = with_field d (place_of (texts_of o.fields) x) a v
  taken d (l.this a) = with_this d a
  taken d (l.argument x v) = with_argument d (place_of (texts_of o.params) x) v

  -- what wasn't given is its default
  abbrev pub heap_of : Draft → Heap
  heap_of d = record {
    greatest = d.greatest;
    classes = map objects_or d.classes;
    statics = cells_or o.statics d.statics;
    fields = rows_or o.fields d.fields;
  }

  abbrev pub args_of : Draft → Args
  args_of d = record { this = d.this; values = cells_or o.params d.arguments }

  -- `this` or an argument of the method is missing
  abbrev pub is_lacking : Draft → Bool
  is_lacking d = (is_some o.this && is_none d.this) || list_any is_none d.arguments

  -- behind the last line, where the number would be this
  abbrev pub finished : ℕ → Draft → Reading
  finished n d = if d.stage == 0 then bad_line n else (if is_lacking d then not_well_formed n 8 else read (heap_of d) (args_of d))

  -- a line that breaks a rule, or else what it gives is taken
  abbrev pub ruled : ℕ → ℕ → Line → Draft → Step
  ruled n zero line d = goes_on (taken d line)
  ruled n (suc rule) line d = ends (not_well_formed n (suc rule))

  -- a line is looked at for its form and its place first
  abbrev pub step_with : ℕ → Option Line → Draft → Step
  step_with n None d = ends (bad_line n)
  step_with n (Some line) d = if in_order d.stage line then ruled n (rule_of o d line) line d else ends (bad_line n)

  abbrev pub step : ℕ → List ℕ → Draft → Step
  step n w d = step_with n (line_of w) d

  abbrev pub lines_from : ℕ → List (List ℕ) → Draft → Reading
  lines_from n [] d = finished n d
  lines_from n (w ∷ []) d = if is_empty w then finished n d else bad_line n
  lines_from n (w ∷ v ∷ ws) d = then_on (step n w d) (λ d. lines_from (suc n) (v ∷ ws) d)

  -- A text is lines that each end with a line feed, so behind the last one nothing stands.
  abbrev pub reading : List ℕ → Reading
  reading bytes = lines_from 1 (split 10 bytes) empty_draft
