use Rattle.std.proofs.Common.{◌≡◌, ◌∙◌, sym, ap, refl, true, false, slice_get, rules}
use Rattle.std.proofs.lemmas.Bool.{true≢false}
use Rattle.jh_form.specs.Passing.{value_passes, formula_passes}
use Rattle.jh_form.specs.Sorts.{tree_sort}
use Rattle.jh_boxed_operations.specs.substitution.Substituted.{stands_only_at}
use Rattle.jh_arena.specs.table.Entries.{the_truth, the_value}
use Rattle.jh_arena.specs.table.Nodes.{nodes}
use Rattle.jh_arena.proofs.table.ShapePasses.{truth-passes}
use Rattle.jh_substitution.proofs.rewriting.Sorted.{truth-within}
use Rattle.jh_substitution.proofs.rewriting.substituting.subst_numbered.Goals as goal

pub passes_but-requires-clause-inside : goal.passes_but-requires-clause-inside
passes_but-requires-clause-inside c = truth-within (nodes c.args.table.now) c.args.formula c.requires.formula

pub returns-then-not-passes_but-clause-ill_sorted : goal.returns-then-not-passes_but-clause-ill_sorted
returns-then-not-passes_but-clause-ill_sorted c =
    let asked : formula_passes (the_truth (slice_get (nodes c.args.table.now) c.args.formula)) (stands_only_at c.args.name.now (tree_sort (the_value (slice_get (nodes c.args.table.now) c.args.value)))) ≡ c.passes_but.result =
    truth-passes (stands_only_at c.args.name.now (tree_sort (the_value (slice_get (nodes c.args.table.now) c.args.value)))) (slice_get (nodes c.args.table.now) c.args.formula) c.requires.formula
    ∙ ap (λ s. value_passes (the_value (slice_get (nodes c.args.table.now) c.args.formula)) (stands_only_at c.args.name.now s)) (sym c.sort-sort.ensures)
    ∙ sym c.passes_but.ensures in
    let no : c.passes_but.result ≡ false = search rules in
    (λ e. asked ∙ no, λ h. refl)

pub returns-in-Ok-clause-ill_sorted : goal.returns-in-Ok-clause-ill_sorted
returns-in-Ok-clause-ill_sorted c =
    let asked : formula_passes (the_truth (slice_get (nodes c.args.table.now) c.args.formula)) (stands_only_at c.args.name.now (tree_sort (the_value (slice_get (nodes c.args.table.now) c.args.value)))) ≡ c.passes_but.result =
    truth-passes (stands_only_at c.args.name.now (tree_sort (the_value (slice_get (nodes c.args.table.now) c.args.value)))) (slice_get (nodes c.args.table.now) c.args.formula) c.requires.formula
    ∙ ap (λ s. value_passes (the_value (slice_get (nodes c.args.table.now) c.args.formula)) (stands_only_at c.args.name.now s)) (sym c.sort-sort.ensures)
    ∙ sym c.passes_but.ensures in
    let yes : c.passes_but.result ≡ true = search rules in
    (λ e. absurd (cc), λ h. absurd (true≢false (sym (asked ∙ yes) ∙ h)))

pub returns-in-Err-clause-ill_sorted : goal.returns-in-Err-clause-ill_sorted
returns-in-Err-clause-ill_sorted c =
    let asked : formula_passes (the_truth (slice_get (nodes c.args.table.now) c.args.formula)) (stands_only_at c.args.name.now (tree_sort (the_value (slice_get (nodes c.args.table.now) c.args.value)))) ≡ c.passes_but.result =
    truth-passes (stands_only_at c.args.name.now (tree_sort (the_value (slice_get (nodes c.args.table.now) c.args.value)))) (slice_get (nodes c.args.table.now) c.args.formula) c.requires.formula
    ∙ ap (λ s. value_passes (the_value (slice_get (nodes c.args.table.now) c.args.formula)) (stands_only_at c.args.name.now s)) (sym c.sort-sort.ensures)
    ∙ sym c.passes_but.ensures in
    let yes : c.passes_but.result ≡ true = search rules in
    (λ e. absurd (cc), λ h. absurd (true≢false (sym (asked ∙ yes) ∙ h)))
