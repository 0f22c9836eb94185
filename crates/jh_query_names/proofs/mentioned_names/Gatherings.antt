-- The names and the free names of a formula, as they are gathered.
use Rattle.std.proofs.Common.{◌≡◌, ap, subst, ◌∙◌, ℕ, List, [], map, slice_get, Some}
use Rattle.jh_form.specs.Tree.{FormulaTree, ValueTree, of_truth}
use Rattle.jh_arena.specs.table.Entries.{the_value}
use Rattle.jh_approx.specs.definition.Names.{names, without_repeats}
use Rattle.jh_query_names.specs.query_names.Finding.{IsFound, values_at}
use Rattle.jh_query_names.specs.query_names.Gathered.{value_names, with_names}
use Rattle.jh_query_names.proofs.query_names.Onces.{with-once}
use Rattle.jh_query_names.specs.mentioned_names.Notes.{AreTrees, AreFree}
use Rattle.jh_query_names.proofs.mentioned_names.Listings.{values-are}

-- names that are gathered from none
pub gathered : (ts : List ValueTree) (none keys seen : List ℕ) (vs : List ValueTree) → none ≡ [] → values_at ts keys ≡ with_names (values_at ts none) vs → IsFound ts keys seen → AreTrees ts keys (without_repeats vs)
gathered ts none keys seen vs e h found = values-are ts keys found.inside ∙ ap (map (λ v. Some v)) (h ∙ ap (λ ks. with_names (values_at ts ks) vs) e ∙ with-once vs)

pub named-formula : (ts : List ValueTree) (n : ℕ) (a : FormulaTree) (ns : List ℕ) → slice_get ts n ≡ Some (of_truth a) → AreTrees ts ns (without_repeats (value_names (the_value (slice_get ts n)))) → AreTrees ts ns (without_repeats (names a))
unfolding the_value value_names
named-formula ts n a ns e h = subst (λ (o : List ValueTree). AreTrees ts ns (without_repeats o)) (ap (λ o. value_names (the_value o)) e) h

pub free-formula : (ts : List ValueTree) (n : ℕ) (a : FormulaTree) (ns : List ℕ) → slice_get ts n ≡ Some (of_truth a) → AreFree ts (the_value (slice_get ts n)) ns → AreFree ts (of_truth a) ns
unfolding the_value
free-formula ts n a ns e h = subst (λ (v : ValueTree). AreFree ts v ns) (ap the_value e) h
