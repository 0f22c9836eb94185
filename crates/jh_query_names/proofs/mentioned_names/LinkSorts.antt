-- Which names link, by their sorts.
use Rattle.std.proofs.Common.{◌≡◌, refl, sym, ap, ◌∙◌, ℕ, Bool, true, false, not, List}
use Rattle.std.proofs.lemmas.Bool.{true≢false}
use Rattle.jh_name.specs.declared.naming.Name.{Name}
use Rattle.jh_form.specs.Tree.{ValueTree}
use Rattle.jh_form.specs.Tree as t
use Rattle.jh_form.specs.Sorts.{tree_sort}
use Rattle.jh_arena.specs.table.Entries.{Pools}
use Rattle.jh_arena.specs.table.Nodes.{shape_tree}
use Rattle.jh_arena.specs.declared.table.shapes.Shape.{Shape}
use Rattle.jh_arena.specs.declared.table.shapes.Shape.TheVariants as s
use Rattle.jh_approx.specs.definition.Links.{is_class_set, links, links_more}
use Rattle.jh_query_names.specs.mentioned_names.Linking.{linking, sort_links, is_apart, is_apart_shape}

pub class-links : (few : Bool) (x : Name) → linking few (t.of_set (t.free_set x)) ≡ not (is_class_set x)
unfolding linking links links_more
class-links true x = refl
class-links false x = refl

pub null-links : (few : Bool) → linking few (t.of_object t.null) ≡ false
unfolding linking links links_more
null-links true = refl
null-links false = refl

pub sort-decides : (few : Bool) (v : ValueTree) → is_apart v ≡ false → sort_links few (tree_sort v) ≡ linking few v
unfolding linking links links_more sort_links is_apart
sort-decides true (t.of_object t.null) h = absurd (true≢false h)
sort-decides false (t.of_object t.null) h = absurd (true≢false h)
sort-decides true (t.of_object (t.bound k)) h = refl
sort-decides false (t.of_object (t.bound k)) h = refl
sort-decides true (t.of_object (t.free_object x)) h = refl
sort-decides false (t.of_object (t.free_object x)) h = refl
sort-decides true (t.of_object (t.read_object a b)) h = refl
sort-decides false (t.of_object (t.read_object a b)) h = refl
sort-decides true (t.of_number a) h = refl
sort-decides false (t.of_number a) h = refl
sort-decides true (t.of_truth a) h = refl
sort-decides false (t.of_truth a) h = refl
sort-decides few (t.of_set (t.free_set x)) h = absurd (true≢false h)
sort-decides true (t.of_set _) h = refl
sort-decides false (t.of_set _) h = refl
sort-decides true (t.of_field a) h = refl
sort-decides false (t.of_field a) h = refl

module _ (p : Pools) (ts : List ValueTree) where
  pub apart-shape : (x : Shape) → is_apart_shape x ≡ is_apart (shape_tree p ts x)
  unfolding is_apart_shape is_apart shape_tree
  apart-shape (s.FreeSet n) = refl
  apart-shape s.Null = refl
  apart-shape _ = refl

not-apart : (x : Shape) → ((n : ℕ) → x ≡ s.FreeSet n → ⊥) → (x ≡ s.Null → ⊥) → is_apart_shape x ≡ false
unfolding is_apart_shape
not-apart (s.FreeSet n) h k = absurd (h n refl)
not-apart s.Null h k = absurd (k refl)
not-apart _ h k = refl

-- a shape that is neither a free set nor null
pub other-links : (p : Pools) (ts : List ValueTree) (few : Bool) (x : Shape) (v : ValueTree) → v ≡ shape_tree p ts x → ((n : ℕ) → x ≡ s.FreeSet n → ⊥) → (x ≡ s.Null → ⊥) → sort_links few (tree_sort v) ≡ linking few v
other-links p ts few x v e h k = sort-decides few v (ap is_apart e ∙ sym (apart-shape p ts x) ∙ not-apart x h k)
