use Rattle.std.proofs.Common.{◌≡◌, ◌∙◌, ap, ℕ, List, ◌∷◌, Some, slice_get}
use Rattle.std.proofs.lemmas.Result.{IfOk-weaker}
use Rattle.jh_form.specs.Tree.{of_truth}
use Rattle.jh_form.specs.Meaning.{Interp, truth, term_value}
use Rattle.jh_arena.specs.table.Entries.{the_object, the_truth, the_value}
use Rattle.jh_arena.specs.table.Nodes.{nodes}
use Rattle.jh_substitution.specs.rewriting.Rewritten.{leaves_alone, rewritten_value}
use Rattle.jh_substitution.proofs.rewriting.Sorted.{truth-within, rewritten-truth, listed-truth}
use Rattle.jh_substitution.specs.instantiation.Putting.{put, putting}
use Rattle.jh_substitution.proofs.instantiation.Puttings.{put-means}
use Rattle.jh_substitution.proofs.instantiation.putting.put.Goals as goal

pub walked-requires-clause-inside : goal.walked-requires-clause-inside
walked-requires-clause-inside c = truth-within (nodes c.args.table.now) c.args.body c.requires.body

pub returns-clause-tree : goal.returns-clause-tree
returns-clause-tree c =
    let body = slice_get (nodes c.args.table.now) c.args.body in
    let w = the_object (slice_get (nodes c.args.table.now) c.args.with) in
    IfOk-weaker
    c.walked.result
    (λ made. slice_get (nodes c.walked.new.table) made ≡ Some (rewritten_value (the_value body) (leaves_alone (putting w)) 0))
    (λ made. slice_get (nodes c.walked.new.table) made ≡ Some (of_truth (put (the_truth body) w)))
    (λ made e. e ∙ rewritten-truth (putting w) 0 body c.requires.body)
    c.walked.ensures.tree

pub returns-clause-meaning : goal.returns-clause-meaning
returns-clause-meaning c =
    let body = slice_get (nodes c.args.table.now) c.args.body in
    let w = the_object (slice_get (nodes c.args.table.now) c.args.with) in
    IfOk-weaker
    c.walked.result
    (λ made. slice_get (nodes c.walked.new.table) made ≡ Some (rewritten_value (the_value body) (leaves_alone (putting w)) 0))
    (λ made. (m : Interp) (e : List ℕ) → truth (the_truth (slice_get (nodes c.walked.new.table) made)) m e ≡ truth (the_truth body) m (term_value w m e ∷ e))
    (λ made e m env. ap (λ a. truth a m env) (listed-truth (slice_get (nodes c.walked.new.table) made) (put (the_truth body) w) (e ∙ rewritten-truth (putting w) 0 body c.requires.body)) ∙ put-means w m (the_truth body) env)
    c.walked.ensures.tree
