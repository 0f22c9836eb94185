-- How a node of a table is made a plain one: its operation has a number, and what doesn't fit into two parts is taken apart.
use Rattle.std.specs.Prelude.{◌≡◌, ◌<◌, ◌≤◌, ◌+◌, ◌-◌, ℕ, suc, ℤ, pos, negsuc, true, List, [], ◌∷◌, length, Some, slice_get}
use Rattle.jh_name.specs.declared.place.Sort as place
use Rattle.jh_name.specs.declared.place.Sort.TheVariants as Sort
use Rattle.jh_closure.specs.congruence_closure.Nodes.{EachPart}
use Rattle.jh_closure.specs.declared.congruence_closure.node.Node.{Node}
use Rattle.jh_closure.specs.declared.congruence_closure.node.Node.TheVariants as n
use Rattle.jh_form.specs.Sorts.{tree_sort}
use Rattle.jh_arena.specs.table.Entries.{Listing, the_value}
use Rattle.jh_arena.specs.table.Nodes.{nodes, fits_in, tree_in}
use Rattle.jh_arena.specs.table.Parts.{ArePartsBelow, list_parts}
use Rattle.jh_arena.specs.declared.table.shapes.Shape.{Shape}
use Rattle.jh_arena.specs.declared.table.shapes.Shape.TheVariants as s
use Rattle.jh_cong.specs.declared.flattening.flat.Flat.{Flat}
use Rattle.jh_cong.specs.declared.flattening.flat.Flat.TheVariants as f

-- what is made of a shape, but for the list of its fields
unfoldable pub flat : Shape → Flat
flat (s.Bound k) = f.Leaf
flat (s.FreeObject n) = f.Leaf
flat s.Null = f.Leaf
flat (s.ReadObject a b) = f.Binary 0 a b
flat (s.Const z) = f.Leaf
flat (s.FreeNumber n) = f.Leaf
flat (s.ReadNumber a b) = f.Binary 1 a b
flat (s.Add a b) = f.Binary 2 a b
flat (s.Sub a b) = f.Binary 3 a b
flat (s.Neg a) = f.Unary 4 a
flat (s.Scale z a) = f.Scaled 5 z a
flat (s.Card a) = f.Unary 6 a
flat (s.FreeSet n) = f.Leaf
flat (s.ReadSet a b) = f.Binary 7 a b
flat s.Empty = f.Leaf
flat s.Univ = f.Leaf
flat (s.Single a) = f.Unary 8 a
flat (s.Union a b) = f.Binary 9 a b
flat (s.Inter a b) = f.Binary 10 a b
flat (s.Diff a b) = f.Binary 11 a b
flat (s.Compl a) = f.Unary 12 a
flat (s.Compr a) = f.Unary 13 a
flat (s.FreeField n) = f.Leaf
flat (s.Update a b c) = f.Updated a b c
flat s.True = f.Leaf
flat s.False = f.Leaf
flat (s.FreeTruth n) = f.Leaf
flat (s.ReadTruth a b) = f.Binary 19 a b
flat (s.Negation a) = f.Unary 20 a
flat (s.And a b) = f.Binary 21 a b
flat (s.Or a b) = f.Binary 22 a b
flat (s.Implies a b) = f.Binary 23 a b
flat (s.Iff a b) = f.Binary 24 a b
flat (s.All a) = f.Unary 25 a
flat (s.Ex a) = f.Unary 26 a
flat (s.EqObject a b) = f.Binary 27 a b
flat (s.EqNumber a b) = f.Binary 28 a b
flat (s.EqSet a b) = f.Binary 29 a b
flat (s.Less a b) = f.Binary 30 a b
flat (s.LessEqual a b) = f.Binary 31 a b
flat (s.Divides z a) = f.Scaled 32 z a
flat (s.Member a b) = f.Binary 33 a b
flat (s.Subset a b) = f.Binary 34 a b
flat (s.Reach l a b) = f.Reaches a b
flat (s.Tree l) = f.Listed
flat (s.Mark m a) = f.Same a

-- a whole number as a difference of two natural ones, of which one is 0
abbrev pub plus : ℤ → ℕ
plus (pos k) = k
plus (negsuc k) = 0

abbrev pub minus : ℤ → ℕ
minus (pos k) = 0
minus (negsuc k) = suc k

-- the operation of an update, by the sort of what is stored
unfoldable pub update_operation : place.Sort → ℕ
update_operation Sort.Obj = 14
update_operation Sort.Int = 15
update_operation Sort.Bool = 16
update_operation Sort.Set = 17
update_operation Sort.Field = 18

-- a helper, by its number: the helpers stand behind a count of nodes
abbrev pub IsHelper : ℕ → List Node → ℕ → Node → Type 0
IsHelper count helpers k x = (count ≤ k) × (slice_get helpers (k - count) ≡ Some x)

-- a list of nodes as helpers: one for the empty list, and one for each front
abbrev pub IsChain : ℕ → List Node → List ℕ → ℕ → Type 0
IsChain count helpers [] k = IsHelper count helpers k (n.Leaf 0)
IsChain count helpers (a ∷ ks) k = (rest : ℕ) × IsHelper count helpers k (n.Apply 38 a rest) × IsChain count helpers ks rest

-- a whole number as helpers: its two natural numbers, and their pair
abbrev pub IsFactor : ℕ → List Node → ℤ → ℕ → Type 0
IsFactor count helpers z k = (i j : ℕ) × IsHelper count helpers i (n.Leaf (plus z)) × IsHelper count helpers j (n.Leaf (minus z)) × IsHelper count helpers k (n.Apply 37 i j)

-- A plain node for what is made of a shape: of this number and these fields, where these plain nodes and helpers stand.
-- A number is a helper of its own, and so is a pair. Operation 39 is that of a node without parts.
abbrev pub IsPlain : ℕ → List Node → List Node → (ℕ → place.Sort) → List ℕ → ℕ → Flat → Node → Type 0
IsPlain count made helpers sorts fields k f.Leaf x = (j : ℕ) × IsHelper count helpers j (n.Leaf k) × (x ≡ n.Apply 39 j j)
IsPlain count made helpers sorts fields k (f.Unary o a) x = x ≡ n.Apply o a a
IsPlain count made helpers sorts fields k (f.Binary o a b) x = x ≡ n.Apply o a b
IsPlain count made helpers sorts fields k (f.Scaled o z a) x = (j : ℕ) × IsFactor count helpers z j × (x ≡ n.Apply o j a)
IsPlain count made helpers sorts fields k (f.Updated a b c) x = (j : ℕ) × IsHelper count helpers j (n.Apply 37 b c) × (x ≡ n.Apply (update_operation (sorts c)) a j)
IsPlain count made helpers sorts fields k (f.Reaches a b) x = (i j : ℕ) × IsChain count helpers fields i × IsHelper count helpers j (n.Apply 37 a b) × (x ≡ n.Apply 35 i j)
IsPlain count made helpers sorts fields k f.Listed x = (i : ℕ) × IsChain count helpers fields i × (x ≡ n.Apply 36 i i)
IsPlain count made helpers sorts fields k (f.Same a) x = slice_get made a ≡ Some x

-- the sort of a node of a table
abbrev pub sort_at : Listing → ℕ → place.Sort
sort_at t k = tree_sort (the_value (slice_get (nodes t) k))

-- a plain node for the node of this number
pub record IsMade (t : Listing) (made helpers : List Node) (k : ℕ) (x : Node) : Type 0 where
  pub shape : Shape
  pub tree : slice_get (nodes t) k ≡ Some (tree_in t shape)
  pub fits : fits_in t shape ≡ true
  pub below : ArePartsBelow k t.pools.lists shape
  pub plain : IsPlain (length (nodes t)) made helpers (sort_at t) (list_parts t.pools.lists shape) k (flat shape) x

-- the parts of each helper are nodes or earlier helpers
abbrev pub AreBehind : ℕ → List Node → Type 0
AreBehind count helpers = (j : ℕ) (x : Node) → slice_get helpers j ≡ Some x → EachPart (λ p. p < count + j) x

-- helpers were added behind those that were there
pub record AddsHelpers (count : ℕ) (old new : List Node) : Type 0 where
  pub keeps : (j : ℕ) (x : Node) → slice_get old j ≡ Some x → slice_get new j ≡ Some x
  pub long : length old ≤ length new
  pub behind : AreBehind count old → AreBehind count new

-- each of these plain nodes was made
abbrev pub AreMade : Listing → List Node → List Node → Type 0
AreMade t made helpers = (k : ℕ) (x : Node) → slice_get made k ≡ Some x → IsMade t made helpers k x
