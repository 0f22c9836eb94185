use Rattle.std.proofs.Common.{◌≡◌, ◌∙◌, true, Some, slice_get}
use Rattle.std.proofs.lemmas.Result.{IfOk-weaker}
use Rattle.jh_form.specs.Tree.{of_truth}
use Rattle.jh_boxed_operations.specs.substitution.Opened.{opened, opening}
use Rattle.jh_arena.specs.table.Entries.{is_object, the_object, the_truth}
use Rattle.jh_arena.specs.table.Nodes.{nodes}
use Rattle.jh_substitution.specs.rewriting.Staying.{opening-stays}
use Rattle.jh_substitution.proofs.rewriting.Sorted.{truth-within, rewritten-before, rewritten-truth}
use Rattle.jh_substitution.specs.opening.Openings.{IsOpened, opening_with}
use Rattle.jh_substitution.proofs.opening.opening.open.Goals as goal

pub size-requires : goal.size-requires
size-requires c = truth-within (nodes c.args.table.now) c.args.body c.requires.body

pub put-requires-clause-inside : goal.put-requires-clause-inside
put-requires-clause-inside c = truth-within (nodes c.args.table.now) c.args.body c.requires.body

pub returns-clause-tree : goal.returns-clause-tree
returns-clause-tree c =
    let t = c.args.table.now in
    let u = c.put.new.table in
    IfOk-weaker
    c.put.result
    (λ made. IsOpened u c.args.with c.args.body 0 made)
    (λ made. slice_get (nodes u) made ≡ Some (of_truth (opened (the_truth (slice_get (nodes t) c.args.body)) (the_object (slice_get (nodes t) c.args.with)))))
    (λ made m. rewritten-before (λ z. is_object (slice_get (nodes z) c.args.with) ≡ true) (λ z. opening_with z c.args.with) t u c.args.body 0 made (opening-stays c.args.with) c.put.ensures.grows c.requires.with (truth-within (nodes t) c.args.body c.requires.body) m ∙ rewritten-truth (opening (the_object (slice_get (nodes t) c.args.with))) 0 (slice_get (nodes t) c.args.body) c.requires.body)
    c.put.ensures.node
