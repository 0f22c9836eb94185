-- Nodes of one table that are the trees of nodes of another.
use Rattle.std.specs.Prelude.{◌≡◌, ℕ, true, false, List, [], ◌∷◌, ◌++◌, length, slice_get, Option, Some, is_some}
use Rattle.jh_form.specs.Tree.{ValueTree}
use Rattle.jh_arena.specs.table.Entries.{Pools}
use Rattle.jh_arena.specs.table.Parts.{own_parts, has_list, put}
use Rattle.jh_arena.specs.declared.table.shapes.Shape.{Shape}
use Rattle.jh_arena.specs.declared.table.shapes.Shape.TheVariants as s

-- The tree at place n of the second list is that at place k of the first.
pub record IsCarried (ts us : List ValueTree) (k n : ℕ) : Type 0 where
  pub there : is_some (slice_get ts k) ≡ true
  pub is : slice_get us n ≡ slice_get ts k

-- each answer of a list is the part carried
abbrev pub AllCarried : List ValueTree → List ValueTree → List ℕ → List ℕ → Type 0
AllCarried ts us [] [] = Unit {0}
AllCarried ts us [] (n ∷ ns) = ⊥
AllCarried ts us (k ∷ ks) [] = ⊥
AllCarried ts us (k ∷ ks) (n ∷ ns) = IsCarried ts us k n × AllCarried ts us ks ns

-- Each answer of the memo is right.
pub record HoldsCarried (ts us : List ValueTree) (find : ℕ → Option ℕ) : Type 0 where
  pub at : (k n : ℕ) → find k ≡ Some n → IsCarried ts us k n

-- the shape with another number for its name or its label
unfoldable pub renamed : ℕ → Shape → Shape
renamed k (s.FreeObject n) = s.FreeObject k
renamed k (s.FreeNumber n) = s.FreeNumber k
renamed k (s.FreeTruth n) = s.FreeTruth k
renamed k (s.FreeSet n) = s.FreeSet k
renamed k (s.FreeField n) = s.FreeField k
renamed k (s.Mark m a) = s.Mark k a
renamed k x = x

-- the entry of this number of the second pools is that of the shape's name or label in the first
unfoldable pub HasEntry : Pools → Pools → ℕ → Shape → Type 0
HasEntry p q k (s.FreeObject n) = slice_get q.names k ≡ slice_get p.names n
HasEntry p q k (s.FreeNumber n) = slice_get q.names k ≡ slice_get p.names n
HasEntry p q k (s.FreeTruth n) = slice_get q.names k ≡ slice_get p.names n
HasEntry p q k (s.FreeSet n) = slice_get q.names k ≡ slice_get p.names n
HasEntry p q k (s.FreeField n) = slice_get q.names k ≡ slice_get p.names n
HasEntry p q k (s.Mark m a) = slice_get q.marks k ≡ slice_get p.marks m
HasEntry p q k x = Unit {0}

-- The new shape is the old one with the number that its name or label has in the second pools.
pub record IsRenamed (p q : Pools) (old new : Shape) : Type 0 where
  pub number : ℕ
  pub entry : HasEntry p q number old
  pub is : new ≡ renamed number old

-- The new shape is the old one over the second pools, with the parts xs in place of its own.
pub record IsPlaced (p q : Pools) (xs : List ℕ) (old new : Shape) : Type 0 where
  pub number : ℕ
  pub list : ℕ
  pub fields : List ℕ
  pub own : List ℕ
  pub split : xs ≡ fields ++ own
  pub counted : length own ≡ length (own_parts old)
  pub entry : HasEntry p q number old
  pub is : new ≡ put list own (renamed number old)
  pub listed : has_list old ≡ true → slice_get q.lists list ≡ Some fields
  pub unlisted : has_list old ≡ false → fields ≡ []
