-- A field by lists of its values.
use Rattle.std.proofs.Common.{◌≡◌, refl, sym, ap, subst, ◌∙◌, ℕ, zero, suc, ◌<◌, ℤ, pos, Bool, true, false, ◌&&◌, nat_lt, List, [], ◌∷◌, map, get_or, slice_get, Option, Some, None, arith}
use Rattle.jh_semantics.specs.Heaps as h
use Rattle.std.proofs.lemmas.Bool.{lt-ltb}
use Rattle.jh_semantics.specs.Heaps.{is_in, object_in, number_in, truth_in, set_in, field_value}
use Rattle.jh_store.specs.declared.heaps.cells.Cell.{Cell}
use Rattle.jh_store.specs.declared.heaps.cells.Cell.TheVariants as x
use Rattle.jh_store.specs.heaps.Cells.{cell_in}
use Rattle.jh_store.specs.memory.Cells.{items_of}
use Rattle.jh_store.specs.declared.memory.field.FieldValues.{FieldValues}
use Rattle.jh_store.specs.memory.Fields.{field_of}
use Rattle.jh_store.specs.heaps.Inside.{IsInside, AreInside}

-- what a reading gives of each cell
read-at : {Y : Type 0} (f : Option h.Cell → Y) (cells : List Cell) (a : ℕ) → get_or (map (λ c. f (Some (cell_in c))) cells) a (f None) ≡ f (slice_get (map cell_in cells) a)
read-at f [] a = refl
read-at f (c ∷ cells) zero = refl
read-at f (c ∷ cells) (suc a) = read-at f cells a

module _ (cells : List Cell) (values : FieldValues) (objects : values.objects.items ≡ map (λ c. object_in (Some (cell_in c))) cells) where
  pub field-same : values.numbers.items ≡ map (λ c. number_in (Some (cell_in c))) cells → values.truths.items ≡ map (λ c. truth_in (Some (cell_in c))) cells →
      ((a b : ℕ) → get_or (get_or (map items_of values.sets.items) a []) b false ≡ set_in (slice_get (map cell_in cells) a) b) → field_of values ≡ field_value (map cell_in cells)
  field-same numbers truths sets = λ j. record {
    objects = λ a. (ap (λ (xs : List ℕ). get_or xs a 0) objects ∙ read-at object_in cells a) j;
    numbers = λ a. (ap (λ (xs : List ℤ). get_or xs a (pos 0)) numbers ∙ read-at number_in cells a) j;
    truths = λ a. (ap (λ (xs : List Bool). get_or xs a false) truths ∙ read-at truth_in cells a) j;
    sets = λ a b. sets a b j;
  }

one-inside : (n : ℕ) (c : Cell) → IsInside n (cell_in c) → object_in (Some (cell_in c)) < suc n
one-inside n (x.Obj a) lt = lt
one-inside n (x.Int z) lt = omega arith
one-inside n (x.Bool b) lt = omega arith
one-inside n (x.Set xs) lt = omega arith

all-inside : (n : ℕ) (cells : List Cell) → AreInside n (map cell_in cells) → (a : ℕ) → get_or (map (λ c. object_in (Some (cell_in c))) cells) a 0 < suc n
all-inside n [] inside a = omega arith
all-inside n (c ∷ cells) inside zero = one-inside n c (inside 0 (cell_in c) refl)
all-inside n (c ∷ cells) inside (suc a) = all-inside n cells (λ i d. inside (suc i) d) a

pub objects-inside : (n : ℕ) (cells : List Cell) (objects : List ℕ) → objects ≡ map (λ c. object_in (Some (cell_in c))) cells → AreInside n (map cell_in cells) → (a : ℕ) → get_or objects a 0 < suc n
objects-inside n cells objects e inside a = subst (λ (xs : List ℕ). get_or xs a 0 < suc n) (sym e) (all-inside n cells inside a)

-- what is cut to a universe stays, where all of it is in it
pub cut-same : (n : ℕ) (xs : List ℕ) → ((a : ℕ) → is_in a xs ≡ true → a < suc n) → (b : ℕ) → (nat_lt b (suc n) && is_in b xs) ≡ is_in b xs
cut-same n xs inside b = by (is_in b xs) refl
  where
    by : (t : Bool) → is_in b xs ≡ t → (nat_lt b (suc n) && t) ≡ t
    by true e = ap (λ t. t && true) (lt-ltb b (suc n) (inside b e))
    by false e = none-and (nat_lt b (suc n))
      where
        none-and : (t : Bool) → (t && false) ≡ false
        none-and true = refl
        none-and false = refl
