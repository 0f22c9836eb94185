-- What a ghost assignment writes, by the node of its left side.
use Rattle.std.proofs.Common.{◌≡◌, refl, sym, ℕ, zero, suc, true, false, List, [], ◌∷◌, Some, None, length, slice_get, ◌<◌, ◌≤◌, arith}
use Rattle.std.specs.Option.{option_map_or}
use Rattle.std.proofs.lemmas.Bool.{true≢false}
use Rattle.jh_name.specs.declared.place.Place.{Place}
use Rattle.jh_form.specs.Tree.{FieldTree, TermTree, ValueTree, of_object, of_number, of_truth, of_set}
use Rattle.jh_form.specs.Tree as t
use Rattle.jh_arena.specs.table.Entries.{Listing, is_field, the_field, the_value}
use Rattle.jh_arena.specs.table.Nodes.{shape_tree, tree_in}
use Rattle.jh_arena.specs.declared.table.shapes.Shape.{Shape}
use Rattle.jh_arena.specs.declared.table.shapes.Shape.TheVariants as s
use Rattle.jh_rules.specs.Words.{same_text}
use Rattle.jh_semantics.specs.Code.{Text}
use Rattle.jh_semantics.specs.LoweredStmts.{GhostTarget, a_name, a_read, no_target, ghost_code, ghost_target}
use Rattle.jh_guard.specs.Items.{Sorted}
use Rattle.jh_guard.specs.Writes.{Writes, stmt_writes}
use Rattle.jh_loop_targets.specs.Gathering.{stmt_adds}
use Rattle.jh_loop_targets.specs.Telling.{field_text, ghost_text, text_written}

pub read-object : (f : FieldTree) (a : TermTree) → ghost_text (of_object (t.read_object f a)) ≡ field_text f
read-object (t.free_field x) a = refl
read-object (t.update f b v) a = refl

pub read-number : (f : FieldTree) (a : TermTree) → ghost_text (of_number (t.read_number f a)) ≡ field_text f
read-number (t.free_field x) a = refl
read-number (t.update f b v) a = refl

pub read-truth : (f : FieldTree) (a : TermTree) → ghost_text (of_truth (t.read_truth f a)) ≡ field_text f
read-truth (t.free_field x) a = refl
read-truth (t.update f b v) a = refl

pub read-set : (f : FieldTree) (a : TermTree) → ghost_text (of_set (t.read_set f a)) ≡ field_text f
read-set (t.free_field x) a = refl
read-set (t.update f b v) a = refl

-- the value of a node, and where there is none
pub value-inside : (ts : List ValueTree) (n : ℕ) (d : ValueTree) → n < length ts → the_value (slice_get ts n) ≡ option_map_or (λ v. v) (slice_get ts n) d
unfolding the_value
value-inside [] n d lt = absurd (omega arith)
value-inside (v ∷ ts) zero d lt = refl
value-inside (v ∷ ts) (suc n) d lt = value-inside ts n d (omega arith)

pub value-outside : (ts : List ValueTree) (n : ℕ) (d : ValueTree) → length ts ≤ n → option_map_or (λ v. v) (slice_get ts n) d ≡ d
value-outside [] n d le = refl
value-outside (v ∷ ts) zero d le = absurd (omega arith)
value-outside (v ∷ ts) (suc n) d le = value-outside ts n d (omega arith)

-- a field is a node
pub field-inside : (ts : List ValueTree) (n : ℕ) → is_field (slice_get ts n) ≡ true → n < length ts
unfolding is_field
field-inside [] n h = absurd (true≢false (sym h))
field-inside (v ∷ ts) zero h = omega arith
field-inside (v ∷ ts) (suc n) h = let rest = field-inside ts n h in omega arith

module _ (l : Listing) where
  -- a shape that is no name and no read writes nothing
  pub other-shape : (x : Shape)
      → ((a : ℕ) → x ≡ s.FreeObject a → ⊥)
      → ((a : ℕ) → x ≡ s.FreeNumber a → ⊥)
      → ((a : ℕ) → x ≡ s.FreeTruth a → ⊥)
      → ((a : ℕ) → x ≡ s.FreeSet a → ⊥)
      → ((a b : ℕ) → x ≡ s.ReadObject a b → ⊥)
      → ((a b : ℕ) → x ≡ s.ReadNumber a b → ⊥)
      → ((a b : ℕ) → x ≡ s.ReadTruth a b → ⊥)
      → ((a b : ℕ) → x ≡ s.ReadSet a b → ⊥)
      → ghost_text (tree_in l x) ≡ None
  unfolding shape_tree
  other-shape (s.Bound a) no_freeobject no_freenumber no_freetruth no_freeset no_readobject no_readnumber no_readtruth no_readset = refl
  other-shape (s.FreeObject a) no_freeobject no_freenumber no_freetruth no_freeset no_readobject no_readnumber no_readtruth no_readset = absurd (no_freeobject a refl)
  other-shape s.Null no_freeobject no_freenumber no_freetruth no_freeset no_readobject no_readnumber no_readtruth no_readset = refl
  other-shape (s.ReadObject a b) no_freeobject no_freenumber no_freetruth no_freeset no_readobject no_readnumber no_readtruth no_readset = absurd (no_readobject a b refl)
  other-shape (s.Const a) no_freeobject no_freenumber no_freetruth no_freeset no_readobject no_readnumber no_readtruth no_readset = refl
  other-shape (s.FreeNumber a) no_freeobject no_freenumber no_freetruth no_freeset no_readobject no_readnumber no_readtruth no_readset = absurd (no_freenumber a refl)
  other-shape (s.ReadNumber a b) no_freeobject no_freenumber no_freetruth no_freeset no_readobject no_readnumber no_readtruth no_readset = absurd (no_readnumber a b refl)
  other-shape (s.Add a b) no_freeobject no_freenumber no_freetruth no_freeset no_readobject no_readnumber no_readtruth no_readset = refl
  other-shape (s.Sub a b) no_freeobject no_freenumber no_freetruth no_freeset no_readobject no_readnumber no_readtruth no_readset = refl
  other-shape (s.Neg a) no_freeobject no_freenumber no_freetruth no_freeset no_readobject no_readnumber no_readtruth no_readset = refl
  other-shape (s.Scale a b) no_freeobject no_freenumber no_freetruth no_freeset no_readobject no_readnumber no_readtruth no_readset = refl
  other-shape (s.Card a) no_freeobject no_freenumber no_freetruth no_freeset no_readobject no_readnumber no_readtruth no_readset = refl
  other-shape (s.FreeSet a) no_freeobject no_freenumber no_freetruth no_freeset no_readobject no_readnumber no_readtruth no_readset = absurd (no_freeset a refl)
  other-shape (s.ReadSet a b) no_freeobject no_freenumber no_freetruth no_freeset no_readobject no_readnumber no_readtruth no_readset = absurd (no_readset a b refl)
  other-shape s.Empty no_freeobject no_freenumber no_freetruth no_freeset no_readobject no_readnumber no_readtruth no_readset = refl
  other-shape s.Univ no_freeobject no_freenumber no_freetruth no_freeset no_readobject no_readnumber no_readtruth no_readset = refl
  other-shape (s.Single a) no_freeobject no_freenumber no_freetruth no_freeset no_readobject no_readnumber no_readtruth no_readset = refl
  other-shape (s.Union a b) no_freeobject no_freenumber no_freetruth no_freeset no_readobject no_readnumber no_readtruth no_readset = refl
  other-shape (s.Inter a b) no_freeobject no_freenumber no_freetruth no_freeset no_readobject no_readnumber no_readtruth no_readset = refl
  other-shape (s.Diff a b) no_freeobject no_freenumber no_freetruth no_freeset no_readobject no_readnumber no_readtruth no_readset = refl
  other-shape (s.Compl a) no_freeobject no_freenumber no_freetruth no_freeset no_readobject no_readnumber no_readtruth no_readset = refl
  other-shape (s.Compr a) no_freeobject no_freenumber no_freetruth no_freeset no_readobject no_readnumber no_readtruth no_readset = refl
  other-shape (s.FreeField a) no_freeobject no_freenumber no_freetruth no_freeset no_readobject no_readnumber no_readtruth no_readset = refl
  other-shape (s.Update a b c) no_freeobject no_freenumber no_freetruth no_freeset no_readobject no_readnumber no_readtruth no_readset = refl
  other-shape s.True no_freeobject no_freenumber no_freetruth no_freeset no_readobject no_readnumber no_readtruth no_readset = refl
  other-shape s.False no_freeobject no_freenumber no_freetruth no_freeset no_readobject no_readnumber no_readtruth no_readset = refl
  other-shape (s.FreeTruth a) no_freeobject no_freenumber no_freetruth no_freeset no_readobject no_readnumber no_readtruth no_readset = absurd (no_freetruth a refl)
  other-shape (s.ReadTruth a b) no_freeobject no_freenumber no_freetruth no_freeset no_readobject no_readnumber no_readtruth no_readset = absurd (no_readtruth a b refl)
  other-shape (s.Negation a) no_freeobject no_freenumber no_freetruth no_freeset no_readobject no_readnumber no_readtruth no_readset = refl
  other-shape (s.And a b) no_freeobject no_freenumber no_freetruth no_freeset no_readobject no_readnumber no_readtruth no_readset = refl
  other-shape (s.Or a b) no_freeobject no_freenumber no_freetruth no_freeset no_readobject no_readnumber no_readtruth no_readset = refl
  other-shape (s.Implies a b) no_freeobject no_freenumber no_freetruth no_freeset no_readobject no_readnumber no_readtruth no_readset = refl
  other-shape (s.Iff a b) no_freeobject no_freenumber no_freetruth no_freeset no_readobject no_readnumber no_readtruth no_readset = refl
  other-shape (s.All a) no_freeobject no_freenumber no_freetruth no_freeset no_readobject no_readnumber no_readtruth no_readset = refl
  other-shape (s.Ex a) no_freeobject no_freenumber no_freetruth no_freeset no_readobject no_readnumber no_readtruth no_readset = refl
  other-shape (s.EqObject a b) no_freeobject no_freenumber no_freetruth no_freeset no_readobject no_readnumber no_readtruth no_readset = refl
  other-shape (s.EqNumber a b) no_freeobject no_freenumber no_freetruth no_freeset no_readobject no_readnumber no_readtruth no_readset = refl
  other-shape (s.EqSet a b) no_freeobject no_freenumber no_freetruth no_freeset no_readobject no_readnumber no_readtruth no_readset = refl
  other-shape (s.Less a b) no_freeobject no_freenumber no_freetruth no_freeset no_readobject no_readnumber no_readtruth no_readset = refl
  other-shape (s.LessEqual a b) no_freeobject no_freenumber no_freetruth no_freeset no_readobject no_readnumber no_readtruth no_readset = refl
  other-shape (s.Divides a b) no_freeobject no_freenumber no_freetruth no_freeset no_readobject no_readnumber no_readtruth no_readset = refl
  other-shape (s.Member a b) no_freeobject no_freenumber no_freetruth no_freeset no_readobject no_readnumber no_readtruth no_readset = refl
  other-shape (s.Subset a b) no_freeobject no_freenumber no_freetruth no_freeset no_readobject no_readnumber no_readtruth no_readset = refl
  other-shape (s.Reach a b c) no_freeobject no_freenumber no_freetruth no_freeset no_readobject no_readnumber no_readtruth no_readset = refl
  other-shape (s.Tree a) no_freeobject no_freenumber no_freetruth no_freeset no_readobject no_readnumber no_readtruth no_readset = refl
  other-shape (s.Mark a b) no_freeobject no_freenumber no_freetruth no_freeset no_readobject no_readnumber no_readtruth no_readset = refl

  -- a field that is no name has no text
  pub other-field : (x : Shape) → is_field (Some (tree_in l x)) ≡ true → ((a : ℕ) → x ≡ s.FreeField a → ⊥) → field_text (the_field (Some (tree_in l x))) ≡ None
  unfolding shape_tree is_field the_field
  other-field (s.Bound a) is no_field = absurd (true≢false (sym is))
  other-field (s.FreeObject a) is no_field = absurd (true≢false (sym is))
  other-field s.Null is no_field = absurd (true≢false (sym is))
  other-field (s.ReadObject a b) is no_field = absurd (true≢false (sym is))
  other-field (s.Const a) is no_field = absurd (true≢false (sym is))
  other-field (s.FreeNumber a) is no_field = absurd (true≢false (sym is))
  other-field (s.ReadNumber a b) is no_field = absurd (true≢false (sym is))
  other-field (s.Add a b) is no_field = absurd (true≢false (sym is))
  other-field (s.Sub a b) is no_field = absurd (true≢false (sym is))
  other-field (s.Neg a) is no_field = absurd (true≢false (sym is))
  other-field (s.Scale a b) is no_field = absurd (true≢false (sym is))
  other-field (s.Card a) is no_field = absurd (true≢false (sym is))
  other-field (s.FreeSet a) is no_field = absurd (true≢false (sym is))
  other-field (s.ReadSet a b) is no_field = absurd (true≢false (sym is))
  other-field s.Empty is no_field = absurd (true≢false (sym is))
  other-field s.Univ is no_field = absurd (true≢false (sym is))
  other-field (s.Single a) is no_field = absurd (true≢false (sym is))
  other-field (s.Union a b) is no_field = absurd (true≢false (sym is))
  other-field (s.Inter a b) is no_field = absurd (true≢false (sym is))
  other-field (s.Diff a b) is no_field = absurd (true≢false (sym is))
  other-field (s.Compl a) is no_field = absurd (true≢false (sym is))
  other-field (s.Compr a) is no_field = absurd (true≢false (sym is))
  other-field (s.FreeField a) is no_field = absurd (no_field a refl)
  other-field (s.Update a b c) is no_field = refl
  other-field s.True is no_field = absurd (true≢false (sym is))
  other-field s.False is no_field = absurd (true≢false (sym is))
  other-field (s.FreeTruth a) is no_field = absurd (true≢false (sym is))
  other-field (s.ReadTruth a b) is no_field = absurd (true≢false (sym is))
  other-field (s.Negation a) is no_field = absurd (true≢false (sym is))
  other-field (s.And a b) is no_field = absurd (true≢false (sym is))
  other-field (s.Or a b) is no_field = absurd (true≢false (sym is))
  other-field (s.Implies a b) is no_field = absurd (true≢false (sym is))
  other-field (s.Iff a b) is no_field = absurd (true≢false (sym is))
  other-field (s.All a) is no_field = absurd (true≢false (sym is))
  other-field (s.Ex a) is no_field = absurd (true≢false (sym is))
  other-field (s.EqObject a b) is no_field = absurd (true≢false (sym is))
  other-field (s.EqNumber a b) is no_field = absurd (true≢false (sym is))
  other-field (s.EqSet a b) is no_field = absurd (true≢false (sym is))
  other-field (s.Less a b) is no_field = absurd (true≢false (sym is))
  other-field (s.LessEqual a b) is no_field = absurd (true≢false (sym is))
  other-field (s.Divides a b) is no_field = absurd (true≢false (sym is))
  other-field (s.Member a b) is no_field = absurd (true≢false (sym is))
  other-field (s.Subset a b) is no_field = absurd (true≢false (sym is))
  other-field (s.Reach a b c) is no_field = absurd (true≢false (sym is))
  other-field (s.Tree a) is no_field = absurd (true≢false (sym is))
  other-field (s.Mark a b) is no_field = absurd (true≢false (sym is))

target-writes : (ws : Writes) (q r : Place) (u : ValueTree) (g : GhostTarget) (x : Text) → stmt_writes ws (ghost_code q g r u) x ≡ option_map_or (λ y. same_text y x) (text_written g) false
target-writes ws q r u (a_name kind y) x = refl
target-writes ws q r u (a_read kind y a) x = refl
target-writes ws q r u no_target x = refl

-- what a ghost assignment writes
pub ghost-writes : (ws : Writes) (q r : Place) (v u : ValueTree) (x : Text) → stmt_writes ws (ghost_code q (ghost_target v) r u) x ≡ option_map_or (λ y. same_text y x) (ghost_text v) false
ghost-writes ws q r v u x = target-writes ws q r u (ghost_target v) x

target-adds : (scope xs : List Sorted) (q r : Place) (u : ValueTree) (g : GhostTarget) → stmt_adds scope (ghost_code q g r u) xs ≡ xs
unfolding stmt_adds
target-adds scope xs q r u (a_name kind y) = refl
target-adds scope xs q r u (a_read kind y a) = refl
target-adds scope xs q r u no_target = refl

-- it assigns no local
pub ghost-adds : (scope xs : List Sorted) (q r : Place) (v u : ValueTree) → stmt_adds scope (ghost_code q (ghost_target v) r u) xs ≡ xs
ghost-adds scope xs q r v u = target-adds scope xs q r u (ghost_target v)
