-- The one text of a heap: the greatest object, the classes that have objects, and the values of statics and of fields that aren't defaults,
-- all in the order of the source, a field's at its objects ascending.
use Rattle.std.specs.Prelude.{ℕ, ℤ, pos, suc, ◌==◌, Bool, true, false, not, if◌then◌else◌, List, [], ◌∷◌, ◌++◌, length, codes}
use Rattle.std.specs.Fmt.{decimal, signed_decimal}
use Rattle.jh_semantics.specs.Code.{Text}
use Rattle.jh_semantics.specs.Heaps.{Cell, object, number, truth_value, set, Heap}
use Rattle.jh_heap.specs.text.Outlines.{Holder, Outline}

-- objects with a space between each two
abbrev pub objects_from : List ℕ → List ℕ
objects_from [] = []
objects_from (a ∷ rest) = 32 ∷ (decimal a ++ objects_from rest)

abbrev pub objects_text : List ℕ → List ℕ
objects_text [] = []
objects_text (a ∷ xs) = decimal a ++ objects_from xs

abbrev pub truth_text : Bool → List ℕ
truth_text true = codes "true"
truth_text false = codes "false"

abbrev pub cell_text : Cell → List ℕ
cell_text (object a) = decimal a
cell_text (number z) = signed_decimal z
cell_text (truth_value b) = truth_text b
cell_text (set xs) = 123 ∷ (objects_text xs ++ 125 ∷ [])

abbrev pub is_zero : ℤ → Bool
is_zero (pos n) = n == 0
is_zero z = false

abbrev pub is_default : Cell → Bool
is_default (object a) = a == 0
is_default (number z) = is_zero z
is_default (truth_value b) = not b
is_default (set xs) = length xs == 0

abbrev pub class_text : Text → List ℕ → List ℕ
class_text c xs = if length xs == 0 then [] else codes "class " ++ (c ++ (32 ∷ (objects_text xs ++ 10 ∷ [])))

abbrev pub classes_text : List Text → List (List ℕ) → List ℕ
classes_text (c ∷ cs) (xs ∷ rest) = class_text c xs ++ classes_text cs rest
classes_text cs rest = []

abbrev pub static_text : Holder → Cell → List ℕ
static_text h cell = if is_default cell then [] else codes "static " ++ (h.text ++ (32 ∷ (cell_text cell ++ 10 ∷ [])))

abbrev pub statics_text : List Holder → List Cell → List ℕ
statics_text (h ∷ hs) (cell ∷ cells) = static_text h cell ++ statics_text hs cells
statics_text hs cells = []

abbrev pub value_text : Holder → ℕ → Cell → List ℕ
value_text h a cell = if is_default cell then [] else codes "field " ++ (h.text ++ (32 ∷ (decimal a ++ (32 ∷ (cell_text cell ++ 10 ∷ [])))))

abbrev pub values_text : Holder → ℕ → List Cell → List ℕ
values_text h a [] = []
values_text h a (cell ∷ cells) = value_text h a cell ++ values_text h (suc a) cells

abbrev pub fields_text : List Holder → List (List Cell) → List ℕ
fields_text (h ∷ hs) (cells ∷ rest) = values_text h 0 cells ++ fields_text hs rest
fields_text hs rest = []

abbrev pub heap_text : Outline → Heap → List ℕ
heap_text o h =
    codes "universe " ++ (decimal h.greatest ++ (10 ∷ (classes_text o.classes h.classes ++ (statics_text o.statics h.statics ++ fields_text o.fields h.fields))))
