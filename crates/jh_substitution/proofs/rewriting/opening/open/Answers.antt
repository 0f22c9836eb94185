use Rattle.std.proofs.Common.{◌≡◌, ◌∙◌, ap, ℕ, List, [], ◌∷◌, Some, slice_get}
use Rattle.std.proofs.lemmas.Result.{IfOk-weaker}
use Rattle.jh_form.specs.Tree.{of_truth}
use Rattle.jh_form.specs.Meaning.{Interp, truth, term_value}
use Rattle.jh_substitution.specs.rewriting.Rewritten.{leaves_alone, rewritten_value}
use Rattle.jh_boxed_operations.specs.substitution.Opened.{opened, opening}
use Rattle.jh_boxed_operations.proofs.substitution.Openings.{truth-opened}
use Rattle.jh_arena.specs.table.Entries.{the_object, the_truth, the_value}
use Rattle.jh_arena.specs.table.Nodes.{nodes}
use Rattle.jh_substitution.proofs.rewriting.Sorted.{truth-within, rewritten-truth, listed-truth}
use Rattle.jh_substitution.proofs.rewriting.opening.open.Goals as goal

pub walked-requires-clause-inside : goal.walked-requires-clause-inside
walked-requires-clause-inside c = truth-within (nodes c.args.table.now) c.args.body c.requires.body

pub returns-clause-tree : goal.returns-clause-tree
returns-clause-tree c =
    IfOk-weaker
    c.walked.result
    (λ made. slice_get (nodes c.walked.new.table) made ≡ Some (rewritten_value (the_value (slice_get (nodes c.args.table.now) c.args.body)) (leaves_alone (opening (the_object (slice_get (nodes c.args.table.now) c.args.with)))) 0))
    (λ made. slice_get (nodes c.walked.new.table) made ≡ Some (of_truth (opened (the_truth (slice_get (nodes c.args.table.now) c.args.body)) (the_object (slice_get (nodes c.args.table.now) c.args.with)))))
    (λ made e. e ∙ rewritten-truth (opening (the_object (slice_get (nodes c.args.table.now) c.args.with))) 0 (slice_get (nodes c.args.table.now) c.args.body) c.requires.body)
    c.walked.ensures.tree

pub returns-clause-meaning : goal.returns-clause-meaning
returns-clause-meaning c =
    IfOk-weaker
    c.walked.result
    (λ made. slice_get (nodes c.walked.new.table) made ≡ Some (rewritten_value (the_value (slice_get (nodes c.args.table.now) c.args.body)) (leaves_alone (opening (the_object (slice_get (nodes c.args.table.now) c.args.with)))) 0))
    (λ made. (m : Interp) (env : List ℕ) → truth (the_truth (slice_get (nodes c.walked.new.table) made)) m env ≡ truth (the_truth (slice_get (nodes c.args.table.now) c.args.body)) m (term_value (the_object (slice_get (nodes c.args.table.now) c.args.with)) m [] ∷ env))
    (λ made e m env. ap (λ a. truth a m env) (listed-truth (slice_get (nodes c.walked.new.table) made) (opened (the_truth (slice_get (nodes c.args.table.now) c.args.body)) (the_object (slice_get (nodes c.args.table.now) c.args.with))) (e ∙ rewritten-truth (opening (the_object (slice_get (nodes c.args.table.now) c.args.with))) 0 (slice_get (nodes c.args.table.now) c.args.body) c.requires.body)) ∙ truth-opened (the_truth (slice_get (nodes c.args.table.now) c.args.body)) (the_object (slice_get (nodes c.args.table.now) c.args.with)) c.requires.closed m env)
    c.walked.ensures.tree
