-- Terms are objects of the universe.
use Rattle.std.proofs.Common.{ℕ, suc, ◌<◌, ◌==◌, Bool, true, false, if◌then◌else◌, List, slice_index, arith}
use Rattle.jh_form.specs.Tree.{TermTree, FieldTree, ValueTree}
use Rattle.jh_form.specs.Tree as t
use Rattle.jh_form.specs.Meaning.{Fields, Datum, an_object, a_number, a_truth, a_set, a_field, Interp, InUniverse, updated, term_value, field_value, datum}

-- a value that is an object lies in the universe
pub IsInside : ℕ → Datum → Type 0
IsInside n (an_object v) = v < suc n
IsInside n (a_number v) = Unit {0}
IsInside n (a_truth v) = Unit {0}
IsInside n (a_set v) = Unit {0}
IsInside n (a_field v) = Unit {0}

either : (n v w : ℕ) (b : Bool) → v < suc n → w < suc n → (if b then v else w) < suc n
either n v w true h k = h
either n v w false h k = k

updated_inside : (n : ℕ) (f : Fields) (a : ℕ) (v : Datum) → ((y : ℕ) → y < suc n → f.objects y < suc n) → IsInside n v → (y : ℕ) → y < suc n → (updated f a v).objects y < suc n
unfolding IsInside
updated_inside n f a (an_object v) h k y l = either n v (f.objects y) (y == a) k (h y l)
updated_inside n f a (a_number v) h k y l = h y l
updated_inside n f a (a_truth v) h k y l = h y l
updated_inside n f a (a_set v) h k y l = h y l
updated_inside n f a (a_field v) h k y l = h y l

module _ (m : Interp) (inside : InUniverse m) (e : List ℕ) (objects : (k : ℕ) → slice_index e k < suc m.last) where
  mutual
    unfolding IsInside

    pub term_inside : (a : TermTree) → term_value a m e < suc m.last
    term_inside (t.bound k) = objects k
    term_inside (t.free_object x) = inside.object x
    term_inside t.null = omega arith
    term_inside (t.read_object f a) = field_inside f (term_value a m e) (term_inside a)

    pub field_inside : (f : FieldTree) (y : ℕ) → y < suc m.last → (field_value f m e).objects y < suc m.last
    field_inside (t.free_field x) y h = inside.field x y h
    field_inside (t.update f a v) y h = updated_inside m.last (field_value f m e) (term_value a m e) (datum v m e) (field_inside f) (value_inside v) y h

    pub value_inside : (v : ValueTree) → IsInside m.last (datum v m e)
    value_inside (t.of_object a) = term_inside a
    value_inside (t.of_number a) = tt
    value_inside (t.of_truth a) = tt
    value_inside (t.of_set a) = tt
    value_inside (t.of_field a) = tt
