-- A free name in the place of another.
use Rattle.std.proofs.Common.{◌≡◌, refl, sym, ap, ◌∙◌, ℕ, ◌<◌, true, List, length, slice_get, Option, Some, None, is_some}
use Rattle.std.proofs.lemmas.Bool.{true≢false}
use Rattle.std.proofs.lemmas.Option.{slice_get_within}
use Rattle.jh_name.specs.declared.naming.Name.{Name}
use Rattle.jh_form.specs.Tree.{ValueTree, of_object, of_number, of_truth, of_set, of_field}
use Rattle.jh_form.specs.Tree as t
use Rattle.jh_arena.specs.table.Entries.{Listing, the_name}
use Rattle.jh_arena.specs.table.Growth.{Extends}
use Rattle.jh_arena.specs.table.Nodes.{nodes, shape_tree, tree_in, fits, fits_in}
use Rattle.jh_arena.specs.declared.table.shapes.Shape.{Shape}
use Rattle.jh_arena.specs.declared.table.shapes.Shape.TheVariants as s
use Rattle.jh_substitution.specs.rewriting.Leaf.{is_leaf}
use Rattle.jh_substitution.specs.rewriting.Rewritten.{leaves_alone, rewritten_value, rewritten_term, rewritten_int, rewritten_set, rewritten_field, rewritten_formula}
use Rattle.jh_substitution.specs.rewriting.Walks.{IsRewritten}
use Rattle.jh_substitution.proofs.rewriting.Sorted.{stays-rewritten, exchanged-rewritten}
use Rattle.jh_guard.specs.Calls.{renaming_by}
use Rattle.jh_call_commands.specs.contract_instances.Calling.{name_in, with_name}

pub name-is : (o : Option Name) (x : Name) → o ≡ Some x → the_name o ≡ x
unfolding the_name
name-is o x e = ap the_name e

within : (xs : List Name) (n : ℕ) (o : Option Name) → slice_get xs n ≡ o → is_some o ≡ true → n < length xs
within xs n (Some x) e h = slice_get_within xs n x e
within xs n None e h = absurd (true≢false (sym h))

-- the name of a free name stands in the pool
named-inside : (l : Listing) (n : ℕ) (x : Shape) → name_in x ≡ Some n → fits_in l x ≡ true → is_some (slice_get l.pools.names n) ≡ true
unfolding name_in fits
named-inside l n (s.FreeObject k) e h = let same : k ≡ n = cc in ap (λ j. is_some (slice_get l.pools.names j)) (sym same) ∙ h
named-inside l n (s.FreeNumber k) e h = let same : k ≡ n = cc in ap (λ j. is_some (slice_get l.pools.names j)) (sym same) ∙ h
named-inside l n (s.FreeTruth k) e h = let same : k ≡ n = cc in ap (λ j. is_some (slice_get l.pools.names j)) (sym same) ∙ h
named-inside l n (s.FreeSet k) e h = let same : k ≡ n = cc in ap (λ j. is_some (slice_get l.pools.names j)) (sym same) ∙ h
named-inside l n (s.FreeField k) e h = let same : k ≡ n = cc in ap (λ j. is_some (slice_get l.pools.names j)) (sym same) ∙ h
named-inside l n _ e h = absurd (cc)

pub inside : (l : Listing) (n : ℕ) (x : Shape) → name_in x ≡ Some n → fits_in l x ≡ true → n < length l.pools.names
inside l n x e h = within l.pools.names n (slice_get l.pools.names n) refl (named-inside l n x e h)

-- the free name of another number fits
pub named-fits : (l : Listing) (n m : ℕ) (y : Name) (x : Shape) → name_in x ≡ Some n → slice_get l.pools.names m ≡ Some y → fits_in l (with_name x m) ≡ true
unfolding name_in with_name fits
named-fits l n m y (s.FreeObject k) e h = ap is_some h
named-fits l n m y (s.FreeNumber k) e h = ap is_some h
named-fits l n m y (s.FreeTruth k) e h = ap is_some h
named-fits l n m y (s.FreeSet k) e h = ap is_some h
named-fits l n m y (s.FreeField k) e h = ap is_some h
named-fits l n m y _ e h = absurd (cc)

module _ (f : Name → Name) (old mid : Listing) (n m d : ℕ) where
  renamed-tree : (x : Shape) → name_in x ≡ Some n → slice_get mid.pools.names m ≡ Some (f (the_name (slice_get old.pools.names n))) →
      rewritten_value (tree_in old x) (leaves_alone (renaming_by f)) d ≡ tree_in mid (with_name x m)
  unfolding name_in with_name shape_tree rewritten_value rewritten_term rewritten_int rewritten_set rewritten_field rewritten_formula the_name
  renamed-tree (s.FreeObject k) e h = let same : k ≡ n = cc in (λ i. of_object (t.free_object (f (the_name (slice_get old.pools.names (same i)))))) ∙ (λ i. of_object (t.free_object (the_name (sym h i))))
  renamed-tree (s.FreeNumber k) e h = let same : k ≡ n = cc in (λ i. of_number (t.free_number (f (the_name (slice_get old.pools.names (same i)))))) ∙ (λ i. of_number (t.free_number (the_name (sym h i))))
  renamed-tree (s.FreeTruth k) e h = let same : k ≡ n = cc in (λ i. of_truth (t.free_truth (f (the_name (slice_get old.pools.names (same i)))))) ∙ (λ i. of_truth (t.free_truth (the_name (sym h i))))
  renamed-tree (s.FreeSet k) e h = let same : k ≡ n = cc in (λ i. of_set (t.free_set (f (the_name (slice_get old.pools.names (same i)))))) ∙ (λ i. of_set (t.free_set (the_name (sym h i))))
  renamed-tree (s.FreeField k) e h = let same : k ≡ n = cc in (λ i. of_field (t.free_field (f (the_name (slice_get old.pools.names (same i)))))) ∙ (λ i. of_field (t.free_field (the_name (sym h i))))
  renamed-tree _ e h = absurd (cc)

-- the node made for a free name stands for it
pub leaf-renamed : (f : Name → Name) (old mid new : Listing) (node n m made d : ℕ) (x : Shape) → Extends old new → name_in x ≡ Some n →
    slice_get mid.pools.names m ≡ Some (f (the_name (slice_get old.pools.names n))) → slice_get (nodes old) node ≡ Some (tree_in old x) → slice_get (nodes new) made ≡ Some (tree_in mid (with_name x m)) →
    IsRewritten (leaves_alone (renaming_by f)) (nodes new) node d made
leaf-renamed f old mid new node n m made d x g e named at made-at =
    exchanged-rewritten (nodes new) (leaves_alone (renaming_by f)) node d made (tree_in old x) (tree_in mid (with_name x m)) (g.nodes.keeps node (tree_in old x) at) made-at
    (renamed-tree f old mid n m d x e named)

-- a bound variable stays
bound-stays : (f : Name → Name) (l : Listing) (d : ℕ) (x : Shape) → is_leaf x ≡ true → name_in x ≡ None → rewritten_value (tree_in l x) (leaves_alone (renaming_by f)) d ≡ tree_in l x
unfolding is_leaf name_in shape_tree rewritten_value rewritten_term
bound-stays f l d (s.Bound k) leaf e = refl
bound-stays f l d (s.FreeObject k) leaf e = absurd (cc)
bound-stays f l d (s.FreeNumber k) leaf e = absurd (cc)
bound-stays f l d (s.FreeTruth k) leaf e = absurd (cc)
bound-stays f l d (s.FreeSet k) leaf e = absurd (cc)
bound-stays f l d (s.FreeField k) leaf e = absurd (cc)
bound-stays f l d _ leaf e = absurd (true≢false (sym leaf))

pub leaf-stays : (f : Name → Name) (l : Listing) (node d : ℕ) (x : Shape) → is_leaf x ≡ true → name_in x ≡ None → slice_get (nodes l) node ≡ Some (tree_in l x) →
    IsRewritten (leaves_alone (renaming_by f)) (nodes l) node d node
leaf-stays f l node d x leaf e at = stays-rewritten (nodes l) (leaves_alone (renaming_by f)) node d (tree_in l x) at (bound-stays f l d x leaf e)
