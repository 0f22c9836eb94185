use Rattle.std.proofs.Common.{◌≡◌, ◌∙◌, ap, Some, slice_get}
use Rattle.std.proofs.lemmas.Result.{IfOk-weaker}
use Rattle.jh_boxed.specs.Mapped.{mapped_value}
use Rattle.jh_arena.specs.table.Entries.{the_object, the_value}
use Rattle.jh_arena.specs.table.Nodes.{nodes}
use Rattle.jh_substitution.specs.rewriting.Rewritten.{leaves_alone, rewritten_value}
use Rattle.jh_substitution.proofs.rewriting.Wholes.{value-alone}
use Rattle.jh_vars.specs.Resolved.{receiving}
use Rattle.jh_receiver.proofs.receiving.received.Goals as goal

pub returns-clause-tree : goal.returns-clause-tree
returns-clause-tree c =
    let l = receiving (the_object (slice_get (nodes c.args.table.now) c.args.receiver)) in
    IfOk-weaker
    c.walked.result
    (λ made. slice_get (nodes c.walked.new.table) made ≡ Some (rewritten_value (the_value (slice_get (nodes c.args.table.now) c.args.node)) (leaves_alone l) 0))
    (λ made. slice_get (nodes c.walked.new.table) made ≡ Some (mapped_value (the_value (slice_get (nodes c.args.table.now) c.args.node)) l 0))
    (λ made e. e ∙ ap Some (value-alone l (the_value (slice_get (nodes c.args.table.now) c.args.node)) 0))
    c.walked.ensures.tree
