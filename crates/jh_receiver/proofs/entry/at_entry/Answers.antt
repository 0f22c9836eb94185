use Rattle.std.proofs.Common.{◌≡◌, ◌∙◌, ap, Some, slice_get}
use Rattle.std.proofs.lemmas.Result.{IfOk-weaker}
use Rattle.jh_boxed.specs.Mapped.{mapped_value}
use Rattle.jh_arena.specs.table.Entries.{the_value}
use Rattle.jh_arena.specs.table.Nodes.{nodes}
use Rattle.jh_substitution.specs.rewriting.Rewritten.{leaves_alone, rewritten_value}
use Rattle.jh_substitution.proofs.rewriting.Wholes.{value-alone}
use Rattle.jh_vars.specs.Resolved.{at_entry}
use Rattle.jh_receiver.proofs.entry.at_entry.Goals as goal

pub returns-clause-tree : goal.returns-clause-tree
returns-clause-tree c =
    IfOk-weaker
    c.walked.result
    (λ made. slice_get (nodes c.walked.new.table) made ≡ Some (rewritten_value (the_value (slice_get (nodes c.args.table.now) c.args.node)) (leaves_alone at_entry) 0))
    (λ made. slice_get (nodes c.walked.new.table) made ≡ Some (mapped_value (the_value (slice_get (nodes c.args.table.now) c.args.node)) at_entry 0))
    (λ made e. e ∙ ap Some (value-alone at_entry (the_value (slice_get (nodes c.args.table.now) c.args.node)) 0))
    c.walked.ensures.tree
