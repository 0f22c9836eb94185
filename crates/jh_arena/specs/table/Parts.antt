-- Written by tools/table.py.
-- The parts of a shape, in order: the fields of its list first.
use Rattle.std.specs.Prelude.{◌≡◌, ℕ, ◌<◌, Bool, true, false, List, [], ◌∷◌, ◌++◌, length, Option, slice_get, Some, None, slice_index}
use Rattle.jh_arena.specs.table.Entries.{the_list}
use Rattle.jh_arena.specs.declared.table.shapes.Shape.{Shape}
use Rattle.jh_arena.specs.declared.table.shapes.Shape.TheVariants as s

-- the parts but those of a list
unfoldable pub own_parts : Shape → List ℕ
own_parts (s.Bound k) = []
own_parts (s.FreeObject n) = []
own_parts s.Null = []
own_parts (s.ReadObject a b) = a ∷ b ∷ []
own_parts (s.Const z) = []
own_parts (s.FreeNumber n) = []
own_parts (s.ReadNumber a b) = a ∷ b ∷ []
own_parts (s.Add a b) = a ∷ b ∷ []
own_parts (s.Sub a b) = a ∷ b ∷ []
own_parts (s.Neg a) = a ∷ []
own_parts (s.Scale z a) = a ∷ []
own_parts (s.Card a) = a ∷ []
own_parts (s.FreeSet n) = []
own_parts (s.ReadSet a b) = a ∷ b ∷ []
own_parts s.Empty = []
own_parts s.Univ = []
own_parts (s.Single a) = a ∷ []
own_parts (s.Union a b) = a ∷ b ∷ []
own_parts (s.Inter a b) = a ∷ b ∷ []
own_parts (s.Diff a b) = a ∷ b ∷ []
own_parts (s.Compl a) = a ∷ []
own_parts (s.Compr a) = a ∷ []
own_parts (s.FreeField n) = []
own_parts (s.Update a b c) = a ∷ b ∷ c ∷ []
own_parts s.True = []
own_parts s.False = []
own_parts (s.FreeTruth n) = []
own_parts (s.ReadTruth a b) = a ∷ b ∷ []
own_parts (s.Negation a) = a ∷ []
own_parts (s.And a b) = a ∷ b ∷ []
own_parts (s.Or a b) = a ∷ b ∷ []
own_parts (s.Implies a b) = a ∷ b ∷ []
own_parts (s.Iff a b) = a ∷ b ∷ []
own_parts (s.All a) = a ∷ []
own_parts (s.Ex a) = a ∷ []
own_parts (s.EqObject a b) = a ∷ b ∷ []
own_parts (s.EqNumber a b) = a ∷ b ∷ []
own_parts (s.EqSet a b) = a ∷ b ∷ []
own_parts (s.Less a b) = a ∷ b ∷ []
own_parts (s.LessEqual a b) = a ∷ b ∷ []
own_parts (s.Divides z a) = a ∷ []
own_parts (s.Member a b) = a ∷ b ∷ []
own_parts (s.Subset a b) = a ∷ b ∷ []
own_parts (s.Reach l a b) = a ∷ b ∷ []
own_parts (s.Tree l) = []
own_parts (s.Mark m a) = a ∷ []

-- the parts of a list
unfoldable pub list_parts : List (List ℕ) → Shape → List ℕ
list_parts ls (s.Reach l a b) = the_list (slice_get ls l)
list_parts ls (s.Tree l) = the_list (slice_get ls l)
list_parts ls _ = []

-- whether a shape has a list of fields
unfoldable pub has_list : Shape → Bool
has_list (s.Reach l a b) = true
has_list (s.Tree l) = true
has_list _ = false

-- all parts, those of the list first
abbrev pub parts : List (List ℕ) → Shape → List ℕ
parts ls x = list_parts ls x ++ own_parts x

-- the parts of a shape are nodes below a place
pub record ArePartsBelow (place : ℕ) (ls : List (List ℕ)) (x : Shape) : Type 0 where
  pub below : (i k : ℕ) → slice_get (parts ls x) i ≡ Some k → k < place

-- the number of a shape's list of fields
unfoldable pub list_of : Shape → Option ℕ
list_of (s.Reach l a b) = Some l
list_of (s.Tree l) = Some l
list_of _ = None

-- how many variables a shape binds in its parts
unfoldable pub binders : Shape → ℕ
binders (s.Compr a) = 1
binders (s.All a) = 1
binders (s.Ex a) = 1
binders _ = 0

-- the shape with another list of fields and other parts
unfoldable pub put : ℕ → List ℕ → Shape → Shape
put f xs (s.Bound k) = s.Bound k
put f xs (s.FreeObject n) = s.FreeObject n
put f xs s.Null = s.Null
put f xs (s.ReadObject a b) = s.ReadObject (slice_index xs 0) (slice_index xs 1)
put f xs (s.Const z) = s.Const z
put f xs (s.FreeNumber n) = s.FreeNumber n
put f xs (s.ReadNumber a b) = s.ReadNumber (slice_index xs 0) (slice_index xs 1)
put f xs (s.Add a b) = s.Add (slice_index xs 0) (slice_index xs 1)
put f xs (s.Sub a b) = s.Sub (slice_index xs 0) (slice_index xs 1)
put f xs (s.Neg a) = s.Neg (slice_index xs 0)
put f xs (s.Scale z a) = s.Scale z (slice_index xs 0)
put f xs (s.Card a) = s.Card (slice_index xs 0)
put f xs (s.FreeSet n) = s.FreeSet n
put f xs (s.ReadSet a b) = s.ReadSet (slice_index xs 0) (slice_index xs 1)
put f xs s.Empty = s.Empty
put f xs s.Univ = s.Univ
put f xs (s.Single a) = s.Single (slice_index xs 0)
put f xs (s.Union a b) = s.Union (slice_index xs 0) (slice_index xs 1)
put f xs (s.Inter a b) = s.Inter (slice_index xs 0) (slice_index xs 1)
put f xs (s.Diff a b) = s.Diff (slice_index xs 0) (slice_index xs 1)
put f xs (s.Compl a) = s.Compl (slice_index xs 0)
put f xs (s.Compr a) = s.Compr (slice_index xs 0)
put f xs (s.FreeField n) = s.FreeField n
put f xs (s.Update a b c) = s.Update (slice_index xs 0) (slice_index xs 1) (slice_index xs 2)
put f xs s.True = s.True
put f xs s.False = s.False
put f xs (s.FreeTruth n) = s.FreeTruth n
put f xs (s.ReadTruth a b) = s.ReadTruth (slice_index xs 0) (slice_index xs 1)
put f xs (s.Negation a) = s.Negation (slice_index xs 0)
put f xs (s.And a b) = s.And (slice_index xs 0) (slice_index xs 1)
put f xs (s.Or a b) = s.Or (slice_index xs 0) (slice_index xs 1)
put f xs (s.Implies a b) = s.Implies (slice_index xs 0) (slice_index xs 1)
put f xs (s.Iff a b) = s.Iff (slice_index xs 0) (slice_index xs 1)
put f xs (s.All a) = s.All (slice_index xs 0)
put f xs (s.Ex a) = s.Ex (slice_index xs 0)
put f xs (s.EqObject a b) = s.EqObject (slice_index xs 0) (slice_index xs 1)
put f xs (s.EqNumber a b) = s.EqNumber (slice_index xs 0) (slice_index xs 1)
put f xs (s.EqSet a b) = s.EqSet (slice_index xs 0) (slice_index xs 1)
put f xs (s.Less a b) = s.Less (slice_index xs 0) (slice_index xs 1)
put f xs (s.LessEqual a b) = s.LessEqual (slice_index xs 0) (slice_index xs 1)
put f xs (s.Divides z a) = s.Divides z (slice_index xs 0)
put f xs (s.Member a b) = s.Member (slice_index xs 0) (slice_index xs 1)
put f xs (s.Subset a b) = s.Subset (slice_index xs 0) (slice_index xs 1)
put f xs (s.Reach l a b) = s.Reach f (slice_index xs 0) (slice_index xs 1)
put f xs (s.Tree l) = s.Tree f
put f xs (s.Mark m a) = s.Mark m (slice_index xs 0)

-- x is the shape old with the parts xs in place of its own, in the order of `parts`, where ls are the
-- lists of fields
pub record IsPut (ls : List (List ℕ)) (xs : List ℕ) (old x : Shape) : Type 0 where
  pub list : ℕ
  pub fields : List ℕ
  pub own : List ℕ
  pub split : xs ≡ fields ++ own
  pub counted : length own ≡ length (own_parts old)
  pub is : x ≡ put list own old
  pub listed : has_list old ≡ true → slice_get ls list ≡ Some fields
  pub unlisted : has_list old ≡ false → fields ≡ []
