-- What the lines of a heap text have given so far.
use Rattle.std.specs.Prelude.{ℕ, ℤ, pos, negsuc, suc, if◌then◌else◌, false, List, [], ◌∷◌, map, replicate, Option, None, Some}
use Rattle.std.specs.Option.{option_map_or}
use Rattle.jh_name.specs.declared.place.Kind.{Kind}
use Rattle.jh_name.specs.declared.place.Kind.TheVariants as k
use Rattle.jh_semantics.specs.Code.{Text}
use Rattle.jh_semantics.specs.Heaps.{Cell, object, number, truth_value, set}
use Rattle.jh_heap.specs.lines.Bytes.{same_bytes}
use Rattle.jh_heap.specs.lines.Lines.{Value}
use Rattle.jh_heap.specs.lines.Lines as l
use Rattle.jh_heap.specs.text.Outlines.{Holder}

-- The greatest object, 0 before it is given; how far the lines have come; and what was given of each class, static, field at an object, of
-- `this` and of each parameter.
pub record Draft : Type 0 where
  pub greatest : ℕ
  pub stage : ℕ
  pub classes : List (Option (List ℕ))
  pub statics : List (Option Cell)
  pub fields : List (List (Option Cell))
  pub this : Option ℕ
  pub arguments : List (Option Cell)

-- the place of a text among others; how many there are, where it isn't one
abbrev pub place_of : List Text → Text → ℕ
place_of [] x = 0
place_of (y ∷ ys) x = if same_bytes y x then 0 else suc (place_of ys x)

abbrev pub texts_of : List Holder → List Text
texts_of hs = map (λ (h : Holder). h.text) hs

-- the default of a kind
abbrev pub default_cell : Kind → Cell
default_cell k.Obj = object 0
default_cell k.Int = number (pos 0)
default_cell k.Bool = truth_value false
default_cell k.Set = set []

-- the object that a number is
abbrev pub natural_in : ℤ → Option ℕ
natural_in (pos a) = Some a
natural_in (negsuc a) = None

-- a value as a cell of a kind, where it is one
abbrev pub cell_of : Kind → Value → Cell
cell_of k.Obj (l.number z) = object (option_map_or (λ a. a) (natural_in z) 0)
cell_of k.Int (l.number z) = number z
cell_of k.Bool (l.truth_value b) = truth_value b
cell_of k.Set (l.objects xs) = set xs
cell_of kind v = default_cell kind

-- so many places at which nothing was given
abbrev pub nothing : {X : Type 0} → ℕ → List (Option X)
nothing n = replicate n None

-- before the first line
abbrev pub empty_draft : Draft
empty_draft = record { greatest = 0; stage = 0; classes = []; statics = []; fields = []; this = None; arguments = [] }
