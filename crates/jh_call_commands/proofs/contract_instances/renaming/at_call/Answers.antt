use Rattle.std.proofs.Common.{◌≡◌, ◌∙◌, Some, slice_get}
use Rattle.std.proofs.lemmas.Result.{IfOk-weaker}
use Rattle.jh_form.specs.Tree.{of_truth}
use Rattle.jh_arena.specs.table.Entries.{the_truth, the_value}
use Rattle.jh_arena.specs.table.Nodes.{nodes}
use Rattle.jh_substitution.specs.rewriting.Rewritten.{leaves_alone, rewritten_value}
use Rattle.jh_substitution.proofs.rewriting.Sorted.{truth-within, rewritten-truth}
use Rattle.jh_guard.specs.Calls.{renaming_by, renamed_by}
use Rattle.jh_call_commands.specs.contract_instances.Calling.{name_at}
use Rattle.jh_call_commands.proofs.contract_instances.renaming.at_call.Goals as goal

pub walked-requires-clause-inside : goal.walked-requires-clause-inside
walked-requires-clause-inside c = truth-within (nodes c.args.table.now) c.args.formula c.requires

pub returns-clause-tree : goal.returns-clause-tree
returns-clause-tree c =
    let f = name_at c.args.calling in
    let o = slice_get (nodes c.args.table.now) c.args.formula in
    IfOk-weaker
    c.walked.result
    (λ made. slice_get (nodes c.walked.new.table) made ≡ Some (rewritten_value (the_value o) (leaves_alone (renaming_by f)) 0))
    (λ made. slice_get (nodes c.walked.new.table) made ≡ Some (of_truth (renamed_by f (the_truth o))))
    (λ made e. e ∙ rewritten-truth (renaming_by f) 0 o c.requires)
    c.walked.ensures.tree
