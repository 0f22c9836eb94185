use Rattle.std.proofs.Common.{◌≡◌, ◌∙◌, ℕ, List, Some, slice_get}
use Rattle.std.proofs.lemmas.Result.{IfOk-weaker}
use Rattle.jh_form.specs.Tree.{of_truth}
use Rattle.jh_form.specs.Meaning.{Interp, truth}
use Rattle.jh_boxed.specs.Mapped.{mapped_formula}
use Rattle.jh_arena.specs.table.Entries.{the_truth, the_value}
use Rattle.jh_arena.specs.table.Nodes.{nodes}
use Rattle.jh_substitution.specs.rewriting.Rewritten.{leaves_alone, rewritten_value}
use Rattle.jh_substitution.proofs.rewriting.Sorted.{truth-within}
use Rattle.jh_substitution.specs.simultaneous.Pairs.{pairs_in}
use Rattle.jh_substitution.specs.simultaneous.Several.{instead, all_assigned}
use Rattle.jh_substitution.proofs.simultaneous.Rules.{several-tree, several-means}
use Rattle.jh_substitution.proofs.simultaneous.several.subst_several.Goals as goal

pub walked-requires-clause-inside : goal.walked-requires-clause-inside
walked-requires-clause-inside c = truth-within (nodes c.args.table.now) c.args.formula c.requires.formula

pub returns-clause-tree : goal.returns-clause-tree
returns-clause-tree c =
    IfOk-weaker
    c.walked.result
    (λ made. slice_get (nodes c.walked.new.table) made ≡ Some (rewritten_value (the_value (slice_get (nodes c.args.table.now) c.args.formula)) (leaves_alone (instead (pairs_in c.args.table.now c.args.pairs.now))) 0))
    (λ made. slice_get (nodes c.walked.new.table) made ≡ Some (of_truth (mapped_formula (the_truth (slice_get (nodes c.args.table.now) c.args.formula)) (instead (pairs_in c.args.table.now c.args.pairs.now)) 0)))
    (λ made e. e ∙ several-tree (pairs_in c.args.table.now c.args.pairs.now) (slice_get (nodes c.args.table.now) c.args.formula) c.requires.formula)
    c.walked.ensures.tree

pub returns-clause-meaning : goal.returns-clause-meaning
returns-clause-meaning c =
    IfOk-weaker
    c.walked.result
    (λ made. slice_get (nodes c.walked.new.table) made ≡ Some (rewritten_value (the_value (slice_get (nodes c.args.table.now) c.args.formula)) (leaves_alone (instead (pairs_in c.args.table.now c.args.pairs.now))) 0))
    (λ made. (m : Interp) (env : List ℕ) → truth (the_truth (slice_get (nodes c.walked.new.table) made)) m env ≡ truth (the_truth (slice_get (nodes c.args.table.now) c.args.formula)) (all_assigned m (pairs_in c.args.table.now c.args.pairs.now)) env)
    (λ made e. several-means c.args.pairs.now c.args.table.now (slice_get (nodes c.args.table.now) c.args.formula) (slice_get (nodes c.walked.new.table) made) c.requires.formula c.requires.closed (e ∙ several-tree (pairs_in c.args.table.now c.args.pairs.now) (slice_get (nodes c.args.table.now) c.args.formula) c.requires.formula))
    c.walked.ensures.tree
