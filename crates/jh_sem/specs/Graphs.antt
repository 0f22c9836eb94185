-- Fields that are listed: for each field the objects that it has at 0 to a greatest object.
use Rattle.std.specs.Prelude.{◌≡◌, ◌⊎◌, ℕ, suc, ◌+◌, ◌<◌, Bool, true, false, not, List, [], ◌∷◌, map, length, pos, Some, slice_get, slice_index}
use Rattle.std.specs.List.{list_all}
use Rattle.jh_form.specs.Meaning.{Fields, reaches, edge}

-- the field that has these objects, and nothing of another kind
abbrev pub listed_field : List ℕ → Fields
listed_field xs = record { objects = λ a. slice_index xs a; numbers = λ a. pos 0; truths = λ a. false; sets = λ a b. false }

abbrev pub listed_fields : List (List ℕ) → List Fields
listed_fields rows = map listed_field rows

-- a list of an object for each of 0 to `last`, all of these
pub record IsRow (last : ℕ) (row : List ℕ) : Type 0 where
  pub counted : length row ≡ suc last
  pub inside : (j x : ℕ) → slice_get row j ≡ Some x → x < suc last

abbrev pub AreRows : ℕ → List (List ℕ) → Type 0
AreRows last rows = (i : ℕ) (row : List ℕ) → slice_get rows i ≡ Some row → IsRow last row

-- how many objects have no mark
unfoldable pub unmarked : List Bool → ℕ
unmarked [] = 0
unmarked (true ∷ marks) = unmarked marks
unmarked (false ∷ marks) = suc (unmarked marks)

-- What is known of a walk along fields while it goes on: the objects that have a mark are those that were found, and the
-- object that was found as number j is reached in j steps at most. So each is reached in `last` steps at most.
pub record IsWalk (last : ℕ) (fs : List Fields) (start : ℕ) (marks : List Bool) (found : List ℕ) : Type 0 where
  pub sized : length marks ≡ suc last
  pub counted : length found + unmarked marks ≡ suc last
  pub inside : (j x : ℕ) → slice_get found j ≡ Some x → x < suc last
  pub near : (j x : ℕ) → slice_get found j ≡ Some x → reaches j fs start x ≡ true
  pub known : (x : ℕ) → slice_get marks x ≡ Some true → (j : ℕ) × (slice_get found j ≡ Some x)

-- one of the objects before x, at any field, or x itself at one of the first i fields
abbrev pub IsBefore : ℕ → ℕ → ℕ → ℕ → Type 0
IsBefore x i y j = (y < x) ⊎ ((y ≡ x) × (j < i))

-- What is known while targets are noted, up to object x and its first i fields: the objects that have a mark are those to which
-- something before leads, null aside, and no two things before lead to the same one of these.
pub record IsNoted (fs : List Fields) (x i : ℕ) (seen : List Bool) : Type 0 where
  pub noted : (y j : ℕ) → j < length fs → IsBefore x i y j → (edge fs j y ≡ 0 → ⊥) → slice_get seen (edge fs j y) ≡ Some true
  pub only : (z : ℕ) → slice_get seen z ≡ Some true → (y : ℕ) × (j : ℕ) × (j < length fs) × IsBefore x i y j × (edge fs j y ≡ z)
  pub apart : (y j w k : ℕ) → j < length fs → k < length fs → IsBefore x i y j → IsBefore x i w k → edge fs j y ≡ edge fs k w → (edge fs j y ≡ 0 → ⊥) → (y ≡ w) × (j ≡ k)

-- two different pairs of an object and a field lead to the same object that is not null
pub record IsShared (last : ℕ) (fs : List Fields) : Type 0 where
  pub one : ℕ
  pub by_one : ℕ
  pub other : ℕ
  pub by_other : ℕ
  pub one_inside : one < suc last
  pub other_inside : other < suc last
  pub by_one_inside : by_one < length fs
  pub by_other_inside : by_other < length fs
  pub same : edge fs by_one one ≡ edge fs by_other other
  pub not_null : edge fs by_one one ≡ 0 → ⊥
  pub differ : (one ≡ other) × (by_one ≡ by_other) → ⊥

-- no field leads from the object to where it is reached from
abbrev pub is_free : ℕ → List Fields → ℕ → Bool
is_free last fs a = list_all (λ f. not (reaches last fs (f.objects a) a)) fs

-- the row lists the objects of a field
abbrev pub HasObjects : ℕ → List ℕ → Fields → Type 0
HasObjects last row f = (x : ℕ) → x < suc last → slice_index row x ≡ f.objects x

-- as many fields, which lead to the same objects at the objects of the universe
pub record AreSame (last : ℕ) (fs gs : List Fields) : Type 0 where
  pub counted : length fs ≡ length gs
  pub edges : (i x : ℕ) → x < suc last → edge fs i x ≡ edge gs i x
