-- The interpretation that lists spell. Where several entries are for one name, and as a field of one kind, the first counts. What has no
-- entry has null, 0, false, the empty set, or a field of these.
use Rattle.std.specs.Prelude.{◌≡◌, ℕ, ℤ, pos, Bool, false, if◌then◌else◌, List, [], ◌∷◌, get_or, slice_get, slice_index, nat_eq, nat_le, true, ◌&&◌, Some}
use Rattle.std.specs.List.{list_all, list_any}
use Rattle.jh_name.specs.Names.{same_name}
use Rattle.jh_name.specs.declared.naming.Name.{Name}
use Rattle.jh_form.specs.Meaning as m
use Rattle.jh_boxed_calls.specs.declared.interpretations.interp.FieldValue.{FieldValue}
use Rattle.jh_boxed_calls.specs.declared.interpretations.interp.FieldValue.TheVariants as kind
use Rattle.jh_boxed_calls.specs.declared.interpretations.interp.Interp.{Interp}
use Rattle.jh_boxed_calls.specs.declared.interpretations.slots.Slot.{Slot}

-- what the first entry for a name says, or a default
abbrev pub first_of : {X : Type 0} → X → List (Name × X) → Name → X
first_of d [] x = d
first_of d (entry ∷ entries) x = if same_name entry.0 x then entry.1 else first_of d entries x

-- the fields of one kind, with their values
abbrev pub objects_of : List (Name × FieldValue) → List (Name × List ℕ)
objects_of [] = []
objects_of ((x, kind.Obj values) ∷ entries) = (x, values) ∷ objects_of entries
objects_of ((x, kind.Int values) ∷ entries) = objects_of entries
objects_of ((x, kind.Bool values) ∷ entries) = objects_of entries
objects_of ((x, kind.Set values) ∷ entries) = objects_of entries

abbrev pub numbers_of : List (Name × FieldValue) → List (Name × List ℤ)
numbers_of [] = []
numbers_of ((x, kind.Obj values) ∷ entries) = numbers_of entries
numbers_of ((x, kind.Int values) ∷ entries) = (x, values) ∷ numbers_of entries
numbers_of ((x, kind.Bool values) ∷ entries) = numbers_of entries
numbers_of ((x, kind.Set values) ∷ entries) = numbers_of entries

abbrev pub truths_of : List (Name × FieldValue) → List (Name × List Bool)
truths_of [] = []
truths_of ((x, kind.Obj values) ∷ entries) = truths_of entries
truths_of ((x, kind.Int values) ∷ entries) = truths_of entries
truths_of ((x, kind.Bool values) ∷ entries) = (x, values) ∷ truths_of entries
truths_of ((x, kind.Set values) ∷ entries) = truths_of entries

abbrev pub sets_of : List (Name × FieldValue) → List (Name × List (List ℕ))
sets_of [] = []
sets_of ((x, kind.Obj values) ∷ entries) = sets_of entries
sets_of ((x, kind.Int values) ∷ entries) = sets_of entries
sets_of ((x, kind.Bool values) ∷ entries) = sets_of entries
sets_of ((x, kind.Set values) ∷ entries) = (x, values) ∷ sets_of entries

-- whether an object is among the members of a set
abbrev pub is_listed : List ℕ → ℕ → Bool
is_listed members a = list_any (λ b. nat_eq a b) members

abbrev pub interp_of : Interp → m.Interp
interp_of i = record {
  last = i.greatest;
  object = λ x. first_of 0 i.objects x;
  number = λ x. first_of (pos 0) i.ints x;
  truth = λ x. first_of false i.truths x;
  set = λ x. is_listed (first_of [] i.sets x);
  field = λ x.
      record {
        objects = λ a. slice_index (first_of [] (objects_of i.fields) x) a;
        numbers = λ a. get_or (first_of [] (numbers_of i.fields) x) a (pos 0);
        truths = λ a. get_or (first_of [] (truths_of i.fields) x) a false;
        sets = λ a. is_listed (get_or (first_of [] (sets_of i.fields) x) a []);
      };
}

-- whether objects are of the universe of 0 to `last`
abbrev pub are_inside : ℕ → List ℕ → Bool
are_inside last objects = list_all (λ a. nat_le a last) objects

abbrev pub field_inside : ℕ → FieldValue → Bool
field_inside last (kind.Obj values) = are_inside last values
field_inside last (kind.Int values) = true
field_inside last (kind.Bool values) = true
field_inside last (kind.Set values) = true

-- whether all objects of names and of fields are of the universe
abbrev pub is_inside : Interp → Bool
is_inside i = list_all (λ (e : Name × ℕ). nat_le e.1 i.greatest) i.objects && list_all (λ (e : Name × FieldValue). field_inside i.greatest e.1) i.fields

-- what a slot has is what lists say of a name
pub record IsSlot (i : Interp) (x : Name) (s : Slot) : Type 0 where
  pub object : s.object ≡ first_of 0 i.objects x
  pub number : s.number ≡ first_of (pos 0) i.ints x
  pub truth : s.truth ≡ first_of false i.truths x
  pub set : s.set.now ≡ first_of [] i.sets x
  pub objects : s.objects.now ≡ first_of [] (objects_of i.fields) x
  pub numbers : s.numbers.now ≡ first_of [] (numbers_of i.fields) x
  pub truths : s.truths.now ≡ first_of [] (truths_of i.fields) x
  pub sets : s.sets.now ≡ first_of [] (sets_of i.fields) x

-- the slots of a list are those of the first names of a pool
abbrev pub AreSlots : Interp → List Name → List Slot → Type 0
AreSlots i names slots = (n : ℕ) (x : Name) (s : Slot) → slice_get names n ≡ Some x → slice_get slots n ≡ Some s → IsSlot i x s
