use Rattle.std.proofs.Common.{◌≡◌, Some, slice_get}
use Rattle.std.proofs.lemmas.Result.{IfOk-weaker}
use Rattle.jh_boxed_operations.specs.comparison.Unmarked.{unmarked_value}
use Rattle.jh_arena.specs.table.Entries.{the_value}
use Rattle.jh_arena.specs.table.Nodes.{nodes}
use Rattle.jh_prove.specs.prover.Unlabelled.{IsUnlabelled}
use Rattle.jh_prove.proofs.prover.Bareness.{truth-inside, made-unlabelled}
use Rattle.jh_prove.proofs.prover.unlabelling.made_without_labels.Goals as goal

pub unlabelled-requires : goal.unlabelled-requires
unlabelled-requires c = record { inside = truth-inside (nodes c.args.table.now) c.args.node c.requires }

pub returns-clause-node : goal.returns-clause-node
returns-clause-node c =
    IfOk-weaker
    c.unlabelled.result
    (λ made. slice_get (nodes c.unlabelled.new.table) made ≡ Some (unmarked_value (the_value (slice_get (nodes c.args.table.now) c.args.node))))
    (λ made. IsUnlabelled (nodes c.unlabelled.new.table) c.args.node made)
    (λ made at. made-unlabelled (nodes c.args.table.now) (nodes c.unlabelled.new.table) c.args.node made c.unlabelled.ensures.grows.nodes c.requires at)
    c.unlabelled.ensures.tree
