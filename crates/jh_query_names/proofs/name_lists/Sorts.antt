-- The names of a query by their sorts.
use Rattle.std.proofs.Common.{◌≡◌, refl, sym, ap, subst, ◌∙◌, ℕ, Bool, if◌then◌else◌, nat_eq, List, [], ◌∷◌, length}
use Rattle.std.specs.Prelude.{filter}
use Rattle.std.specs.List.{IsDistinct}
use Rattle.jh_name.specs.declared.place.Sort as place
use Rattle.jh_name.specs.declared.place.Sort.TheVariants as sort
use Rattle.jh_form.specs.Tree.{ValueTree, of_object, of_number, of_truth, of_set, of_field}
use Rattle.jh_form.specs.Tree as t
use Rattle.jh_arena.specs.table.Growth.{AreDifferent}
use Rattle.indexmap.specs.IndexSet.{insert_all}
use Rattle.jh_approx.specs.definition.Names.{without_repeats, listed, is_set_name, is_element, is_number_name, is_flag}
use Rattle.jh_query_names.specs.query_names.Gathered.{with_names}
use Rattle.jh_query_names.specs.query_names.Finding.{values_at, AreBelow}
use Rattle.jh_query_names.specs.declared.name_lists.listed.Listed.{Listed}
use Rattle.jh_query_names.specs.name_lists.Sorting.{of_sort}
use Rattle.jh_query_names.specs.name_lists.Lists.{lists_of, AreNodes, AreListed}
use Rattle.jh_query_names.proofs.name_lists.Chosen.{sorted_as, values-of-sort, below-all, below-sort}

set-sort : (v : ValueTree) → sorted_as sort.Set v ≡ is_set_name v
unfolding is_set_name
set-sort (of_object a) = refl
set-sort (of_number a) = refl
set-sort (of_truth a) = refl
set-sort (of_set a) = refl
set-sort (of_field a) = refl

object-sort : (v : ValueTree) → sorted_as sort.Obj v ≡ is_element v
unfolding is_element
object-sort (of_object a) = refl
object-sort (of_number a) = refl
object-sort (of_truth a) = refl
object-sort (of_set a) = refl
object-sort (of_field a) = refl

number-sort : (v : ValueTree) → sorted_as sort.Int v ≡ is_number_name v
unfolding is_number_name
number-sort (of_object a) = refl
number-sort (of_number a) = refl
number-sort (of_truth a) = refl
number-sort (of_set a) = refl
number-sort (of_field a) = refl

flag-sort : (v : ValueTree) → sorted_as sort.Bool v ≡ is_flag v
unfolding is_flag
flag-sort (of_object a) = refl
flag-sort (of_number a) = refl
flag-sort (of_truth a) = refl
flag-sort (of_set a) = refl
flag-sort (of_field a) = refl

filter-same : (p q : ValueTree → Bool) → ((v : ValueTree) → p v ≡ q v) → (xs : List ValueTree) → filter p xs ≡ filter q xs
filter-same p q h [] = refl
filter-same p q h (x ∷ xs) = λ i. if h x i then x ∷ filter-same p q h xs i else filter-same p q h xs i

-- null is an element, and stands first
null-set : (vs : List ValueTree) → filter is_set_name (of_object t.null ∷ vs) ≡ filter is_set_name vs
unfolding is_set_name
null-set vs = refl

null-element : (vs : List ValueTree) → filter is_element (of_object t.null ∷ vs) ≡ of_object t.null ∷ filter is_element vs
unfolding is_element
null-element vs = refl

null-number : (vs : List ValueTree) → filter is_number_name (of_object t.null ∷ vs) ≡ filter is_number_name vs
unfolding is_number_name
null-number vs = refl

null-flag : (vs : List ValueTree) → filter is_flag (of_object t.null ∷ vs) ≡ filter is_flag vs
unfolding is_flag
null-flag vs = refl

-- the lists of nodes that were sorted
pub record Sorts (ts : List ValueTree) (ns : List ℕ) (l : Listed) : Type 0 where
  pub sets : l.sets.keys ≡ insert_all nat_eq [] (of_sort ts sort.Set ns)
  pub elements : l.elements.keys ≡ insert_all nat_eq [] (of_sort ts sort.Obj ns)
  pub numbers : l.numbers.keys ≡ insert_all nat_eq [] (of_sort ts sort.Int ns)
  pub flags : l.flags.keys ≡ insert_all nat_eq [] (of_sort ts sort.Bool ns)

-- lists that had nothing, with each node added to that of its sort
pub sorted-lists : (ts : List ValueTree) (ns : List ℕ) (old new : Listed) → old.sets.keys ≡ [] → old.elements.keys ≡ [] → old.numbers.keys ≡ [] → old.flags.keys ≡ [] →
    new.sets.keys ≡ insert_all nat_eq old.sets.keys (of_sort ts sort.Set ns) → new.elements.keys ≡ insert_all nat_eq old.elements.keys (of_sort ts sort.Obj ns) →
    new.numbers.keys ≡ insert_all nat_eq old.numbers.keys (of_sort ts sort.Int ns) → new.flags.keys ≡ insert_all nat_eq old.flags.keys (of_sort ts sort.Bool ns) → Sorts ts ns new
sorted-lists ts ns old new a b c d e f g h = record {
  sets = e ∙ ap (λ (ks : List ℕ). insert_all nat_eq ks (of_sort ts sort.Set ns)) a;
  elements = f ∙ ap (λ (ks : List ℕ). insert_all nat_eq ks (of_sort ts sort.Obj ns)) b;
  numbers = g ∙ ap (λ (ks : List ℕ). insert_all nat_eq ks (of_sort ts sort.Int ns)) c;
  flags = h ∙ ap (λ (ks : List ℕ). insert_all nat_eq ks (of_sort ts sort.Bool ns)) d;
}

module _ (ts : List ValueTree) (ns : List ℕ) (vs : List ValueTree) (l : Listed) (different : AreDifferent ts) (inside : AreBelow (length ts) ns) (e : values_at ts ns ≡ with_names [] (of_object t.null ∷ vs)) (sorts : Sorts ts ns l) where
  sets-are : values_at ts l.sets.keys ≡ without_repeats (filter is_set_name vs)
  sets-are = ap (values_at ts) sorts.sets ∙ values-of-sort ts sort.Set ns (of_object t.null ∷ vs) different inside e ∙ ap without_repeats (filter-same (sorted_as sort.Set) is_set_name set-sort (of_object t.null ∷ vs) ∙ null-set vs)

  elements-are : values_at ts l.elements.keys ≡ without_repeats (of_object t.null ∷ filter is_element vs)
  elements-are = ap (values_at ts) sorts.elements ∙ values-of-sort ts sort.Obj ns (of_object t.null ∷ vs) different inside e ∙ ap without_repeats (filter-same (sorted_as sort.Obj) is_element object-sort (of_object t.null ∷ vs) ∙ null-element vs)

  numbers-are : values_at ts l.numbers.keys ≡ without_repeats (filter is_number_name vs)
  numbers-are = ap (values_at ts) sorts.numbers ∙ values-of-sort ts sort.Int ns (of_object t.null ∷ vs) different inside e ∙ ap without_repeats (filter-same (sorted_as sort.Int) is_number_name number-sort (of_object t.null ∷ vs) ∙ null-number vs)

  flags-are : values_at ts l.flags.keys ≡ without_repeats (filter is_flag vs)
  flags-are = ap (values_at ts) sorts.flags ∙ values-of-sort ts sort.Bool ns (of_object t.null ∷ vs) different inside e ∙ ap without_repeats (filter-same (sorted_as sort.Bool) is_flag flag-sort (of_object t.null ∷ vs) ∙ null-flag vs)

  pub lists-are : lists_of ts l ≡ listed vs
  unfolding listed
  lists-are = λ i. record { sets = sets-are i; elements = elements-are i; numbers = numbers-are i; flags = flags-are i }

  stand-one : (ks : List ℕ) (k : place.Sort) → ks ≡ insert_all nat_eq [] (of_sort ts k ns) → IsDistinct nat_eq ks → AreNodes ts ks
  stand-one ks k is once = record {
    inside = subst (λ (ms : List ℕ). AreBelow (length ts) ms) (sym is) (below-all (length ts) [] (of_sort ts k ns) tt (below-sort (length ts) ts k ns inside));
    once = once;
  }

  pub lists-stand : IsDistinct nat_eq l.sets.keys → IsDistinct nat_eq l.elements.keys → IsDistinct nat_eq l.numbers.keys → IsDistinct nat_eq l.flags.keys → AreListed ts l
  lists-stand a b c d = record {
    sets = stand-one l.sets.keys sort.Set sorts.sets a;
    elements = stand-one l.elements.keys sort.Obj sorts.elements b;
    numbers = stand-one l.numbers.keys sort.Int sorts.numbers c;
    flags = stand-one l.flags.keys sort.Bool sorts.flags d;
  }
