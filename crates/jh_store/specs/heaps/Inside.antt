-- Heaps and arguments whose objects are those from 0 to the greatest.
use Rattle.std.specs.Prelude.{◌≡◌, ◌<◌, ℕ, suc, true, List, Some, slice_get}
use Rattle.jh_semantics.specs.Heaps.{Cell, object, number, truth_value, set, Heap, Args, is_in}

-- the objects of a value are those from 0 to n
abbrev pub IsInside : ℕ → Cell → Type 0
IsInside n (object a) = a < suc n
IsInside n (set xs) = (a : ℕ) → is_in a xs ≡ true → a < suc n
IsInside n (number z) = Unit {0}
IsInside n (truth_value b) = Unit {0}

abbrev pub AreInside : ℕ → List Cell → Type 0
AreInside n cells = (i : ℕ) (cell : Cell) → slice_get cells i ≡ Some cell → IsInside n cell

pub record HeapIsInside (h : Heap) : Type 0 where
  pub statics : AreInside h.greatest h.statics
  pub fields : (i : ℕ) (cells : List Cell) → slice_get h.fields i ≡ Some cells → AreInside h.greatest cells

pub record ArgsAreInside (n : ℕ) (args : Args) : Type 0 where
  pub this : (a : ℕ) → args.this ≡ Some a → a < suc n
  pub values : AreInside n args.values
