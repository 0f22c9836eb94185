use Rattle.std.proofs.Common.{◌≡◌, ◌∙◌, ℕ, List, Some, slice_get}
use Rattle.std.proofs.lemmas.Result.{IfOk-weaker}
use Rattle.jh_form.specs.Tree.{of_truth}
use Rattle.jh_form.specs.Meaning.{Interp, truth}
use Rattle.jh_arena.specs.table.Entries.{the_truth, the_value}
use Rattle.jh_arena.specs.table.Nodes.{nodes}
use Rattle.jh_substitution.specs.rewriting.Rewritten.{leaves_alone, rewritten_value}
use Rattle.jh_substitution.proofs.rewriting.Sorted.{truth-within, rewritten-truth}
use Rattle.jh_substitution.specs.simultaneous.OpenedAll.{opening_all, opened_all, objects_at, values_before}
use Rattle.jh_substitution.proofs.simultaneous.Openings.{several-opened}
use Rattle.jh_substitution.proofs.simultaneous.opening.open_several.Goals as goal

pub walked-requires-clause-inside : goal.walked-requires-clause-inside
walked-requires-clause-inside c = truth-within (nodes c.args.table.now) c.args.body c.requires.body

pub returns-clause-tree : goal.returns-clause-tree
returns-clause-tree c =
    IfOk-weaker
    c.walked.result
    (λ made. slice_get (nodes c.walked.new.table) made ≡ Some (rewritten_value (the_value (slice_get (nodes c.args.table.now) c.args.body)) (leaves_alone (opening_all (objects_at (nodes c.args.table.now) c.args.with.now))) 0))
    (λ made. slice_get (nodes c.walked.new.table) made ≡ Some (of_truth (opened_all (the_truth (slice_get (nodes c.args.table.now) c.args.body)) (objects_at (nodes c.args.table.now) c.args.with.now))))
    (λ made e. e ∙ rewritten-truth (opening_all (objects_at (nodes c.args.table.now) c.args.with.now)) 0 (slice_get (nodes c.args.table.now) c.args.body) c.requires.body)
    c.walked.ensures.tree

pub returns-clause-meaning : goal.returns-clause-meaning
returns-clause-meaning c =
    IfOk-weaker
    c.walked.result
    (λ made. slice_get (nodes c.walked.new.table) made ≡ Some (rewritten_value (the_value (slice_get (nodes c.args.table.now) c.args.body)) (leaves_alone (opening_all (objects_at (nodes c.args.table.now) c.args.with.now))) 0))
    (λ made. (m : Interp) (env : List ℕ) → truth (the_truth (slice_get (nodes c.walked.new.table) made)) m env ≡ truth (the_truth (slice_get (nodes c.args.table.now) c.args.body)) m (values_before (objects_at (nodes c.args.table.now) c.args.with.now) m env))
    (λ made e. several-opened (objects_at (nodes c.args.table.now) c.args.with.now) (slice_get (nodes c.args.table.now) c.args.body) (slice_get (nodes c.walked.new.table) made) c.requires.body c.requires.closed
    (e ∙ rewritten-truth (opening_all (objects_at (nodes c.args.table.now) c.args.with.now)) 0 (slice_get (nodes c.args.table.now) c.args.body) c.requires.body))
    c.walked.ensures.tree
