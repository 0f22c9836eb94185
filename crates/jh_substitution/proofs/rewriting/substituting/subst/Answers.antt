use Rattle.std.proofs.Common.{◌≡◌, ◌∙◌, sym, ap, true, not, ◌||◌, ℕ, List, [], Some, slice_get}
use Rattle.std.proofs.lemmas.Bool.{true≢false}
use Rattle.std.proofs.lemmas.Result.{IfOk-weaker}
use Rattle.jh_form.specs.Tree.{of_truth}
use Rattle.jh_form.specs.Passing.{formula_passes, name_equal}
use Rattle.jh_form.specs.Meaning.{Interp, truth, datum}
use Rattle.jh_form.specs.Assigned.{assigned}
use Rattle.jh_form.specs.Sorts.{tree_sort, same_sort}
use Rattle.jh_boxed_operations.specs.substitution.Substituted.{substituted, stands_only_at}
use Rattle.jh_boxed_operations.proofs.substitution.Substitutions.{truth-substituted}
use Rattle.jh_arena.specs.table.Entries.{the_truth, the_value}
use Rattle.jh_arena.specs.table.Nodes.{nodes}
use Rattle.jh_arena.proofs.table.Weaker.{value-weaker}
use Rattle.jh_substitution.proofs.rewriting.Alone.{nowhere-substituted}
use Rattle.jh_arena.proofs.table.ShapePasses.{truth-passes}
use Rattle.jh_substitution.proofs.rewriting.Sorted.{truth-within, listed-truth}
use Rattle.jh_substitution.proofs.rewriting.substituting.subst.Goals as goal

pub is_shallow-requires : goal.is_shallow-requires
is_shallow-requires c = truth-within (nodes c.args.table.now) c.args.formula c.requires.formula

pub returns-in-None-clause-tree : goal.returns-in-None-clause-tree
returns-in-None-clause-tree c =
    nowhere-substituted (slice_get (nodes c.args.table.now) c.args.formula) c.args.name.now (the_value (slice_get (nodes c.args.table.now) c.args.value)) c.requires.formula
    (c.number_of.ensures.nowhere c.in-None.is c.args.formula (truth-within (nodes c.args.table.now) c.args.formula c.requires.formula))

pub returns-in-None-clause-meaning : goal.returns-in-None-clause-meaning
returns-in-None-clause-meaning c = λ m env.
    ap (λ a. truth a m env) (listed-truth (slice_get (nodes c.args.table.now) c.args.formula) (substituted (the_truth (slice_get (nodes c.args.table.now) c.args.formula)) c.args.name.now (the_value (slice_get (nodes c.args.table.now) c.args.value)))
    (nowhere-substituted (slice_get (nodes c.args.table.now) c.args.formula) c.args.name.now (the_value (slice_get (nodes c.args.table.now) c.args.value)) c.requires.formula
    (c.number_of.ensures.nowhere c.in-None.is c.args.formula (truth-within (nodes c.args.table.now) c.args.formula c.requires.formula))))
    ∙ truth-substituted (the_truth (slice_get (nodes c.args.table.now) c.args.formula)) c.args.name.now (the_value (slice_get (nodes c.args.table.now) c.args.value)) c.requires.closed m env

pub returns-in-None-clause-ill_sorted : goal.returns-in-None-clause-ill_sorted
returns-in-None-clause-ill_sorted c = λ shallow.
    let sort = tree_sort (the_value (slice_get (nodes c.args.table.now) c.args.value)) in
    let passes : formula_passes (the_truth (slice_get (nodes c.args.table.now) c.args.formula)) (stands_only_at c.args.name.now sort) ≡ true =
    truth-passes (stands_only_at c.args.name.now sort) (slice_get (nodes c.args.table.now) c.args.formula) c.requires.formula
    ∙ value-weaker (λ y s. not (name_equal y c.args.name.now)) (stands_only_at c.args.name.now sort) (λ y u k. ap (λ b. b || same_sort u sort) k) (the_value (slice_get (nodes c.args.table.now) c.args.formula))
    (c.number_of.ensures.nowhere c.in-None.is c.args.formula (truth-within (nodes c.args.table.now) c.args.formula c.requires.formula)) in
    (λ e. absurd (cc), λ h. absurd (true≢false (sym passes ∙ h)))

pub returns-in-Some-clause-meaning : goal.returns-in-Some-clause-meaning
returns-in-Some-clause-meaning c =
    IfOk-weaker
    c.subst_numbered.result
    (λ made. slice_get (nodes c.subst_numbered.new.table) made ≡ Some (of_truth (substituted (the_truth (slice_get (nodes c.args.table.now) c.args.formula)) c.args.name.now (the_value (slice_get (nodes c.args.table.now) c.args.value)))))
    (λ made. (m : Interp) (env : List ℕ) → truth (the_truth (slice_get (nodes c.subst_numbered.new.table) made)) m env ≡ truth (the_truth (slice_get (nodes c.args.table.now) c.args.formula)) (assigned m c.args.name.now (datum (the_value (slice_get (nodes c.args.table.now) c.args.value)) m [])) env)
    (λ made at m env. ap (λ a. truth a m env) (listed-truth (slice_get (nodes c.subst_numbered.new.table) made) (substituted (the_truth (slice_get (nodes c.args.table.now) c.args.formula)) c.args.name.now (the_value (slice_get (nodes c.args.table.now) c.args.value))) at)
    ∙ truth-substituted (the_truth (slice_get (nodes c.args.table.now) c.args.formula)) c.args.name.now (the_value (slice_get (nodes c.args.table.now) c.args.value)) c.requires.closed m env)
    c.subst_numbered.ensures.tree
