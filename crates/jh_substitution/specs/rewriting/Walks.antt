-- What a walk over a table comes to. A rewriting may hang on the table's trees, so it is given for each
-- table; it stays while the table grows.
use Rattle.std.specs.Prelude.{◌≡◌, ℕ, true, List, [], ◌∷◌, length, ◌≤◌, slice_get, Option, Some, None, is_some, option_map}
use Rattle.jh_form.specs.Tree.{ValueTree}
use Rattle.jh_form.specs.Sorts.{tree_sort}
use Rattle.jh_form.specs.Meaning.{Interp, datum}
use Rattle.jh_boxed.specs.Kept.{Keeps}
use Rattle.jh_arena.specs.table.Entries.{Listing, the_value}
use Rattle.jh_arena.specs.table.Growth.{Extends}
use Rattle.jh_arena.specs.table.Nodes.{nodes}
use Rattle.jh_substitution.specs.rewriting.Rewritten.{Rewriting, rewritten_value, KeepsWholes}
use Rattle.jh_substitution.specs.declared.rewriting.memo.Key.{Key}

-- While the table holds the nodes that a rewriting names, it does so when it has grown, and the rewriting
-- stays.
pub record Stays (is_ready : Listing → Type 0) (rewriting : Listing → Rewriting) : Type 0 where
  pub ready : (old new : Listing) → Extends old new → is_ready old → is_ready new
  pub same : (old new : Listing) → Extends old new → is_ready old → rewriting new ≡ rewriting old

-- The tree at place r is the tree at place k rewritten, where d binders count as passed.
pub record IsRewritten (l : Rewriting) (ts : List ValueTree) (k d r : ℕ) : Type 0 where
  pub there : is_some (slice_get ts k) ≡ true
  pub is : slice_get ts r ≡ option_map (λ v. rewritten_value v l d) (slice_get ts k)

-- The tree at place r is what stands for the whole tree at place k, and of its sort.
pub record IsWhole (l : Rewriting) (ts : List ValueTree) (k d r : ℕ) : Type 0 where
  pub there : is_some (slice_get ts r) ≡ true
  pub is : slice_get ts r ≡ l.whole_at (the_value (slice_get ts k)) d
  pub sort : tree_sort (the_value (slice_get ts r)) ≡ tree_sort (the_value (slice_get ts k))

-- an answer that is a node stands for the whole tree at place k; where there is none, nothing does
abbrev pub StandsFor : Rewriting → List ValueTree → ℕ → ℕ → Option ℕ → Type 0
StandsFor l ts k d (Some r) = IsRewritten l ts k d r
StandsFor l ts k d None = l.whole_at (the_value (slice_get ts k)) d ≡ None

-- each answer of a list is the rewritten part
abbrev pub AllRewritten : Rewriting → List ValueTree → ℕ → List ℕ → List ℕ → Type 0
AllRewritten l ts d [] [] = Unit {0}
AllRewritten l ts d [] (r ∷ rs) = ⊥
AllRewritten l ts d (p ∷ ps) [] = ⊥
AllRewritten l ts d (p ∷ ps) (r ∷ rs) = IsRewritten l ts p d r × AllRewritten l ts d ps rs

-- The table holds what the rewriting names, and each answer of the memo is right.
pub record Holds (is_ready : Listing → Type 0) (rewriting : Listing → Rewriting) (t : Listing) (find : Key → Option ℕ) : Type 0 where
  pub ready : is_ready t
  pub at : (k : Key) (r : ℕ) → find k ≡ Some r → IsRewritten (rewriting t) (nodes t) k.node k.depth r

-- Wherever what stands for each leaf and each whole part keeps its meaning, the new tree means what the
-- old one does.
abbrev pub KeepsMeaning : Rewriting → ℕ → Option ValueTree → Option ValueTree → Type 0
KeepsMeaning l d old new =
    (m n : Interp) (view : ℕ → List ℕ → List ℕ) → Keeps l.leaves m n view → KeepsWholes l m n view → (e : List ℕ) → d ≤ length e →
    datum (the_value new) m e ≡ datum (the_value old) n (view d e)
