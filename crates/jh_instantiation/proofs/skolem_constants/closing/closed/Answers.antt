use Rattle.std.proofs.Common.{◌≡◌, ◌∙◌, sym, slice_get, Some, map}
use Rattle.std.proofs.lemmas.Result.{IfOk-weaker}
use Rattle.jh_form.specs.Tree.{of_truth}
use Rattle.jh_arena.specs.table.Entries.{the_value}
use Rattle.jh_arena.specs.table.Nodes.{nodes}
use Rattle.jh_substitution.specs.rewriting.Rewritten.{leaves_alone, rewritten_value}
use Rattle.jh_seq.specs.splitting.Split.{constant, closing, closed_by}
use Rattle.jh_instantiation.proofs.skolem_constants.Closings.{shut-stays, walk-closes}
use Rattle.jh_instantiation.proofs.skolem_constants.Shapes.{truth-inside}
use Rattle.jh_instantiation.proofs.skolem_constants.closing.closed.Goals as goal

pub is_closed-requires : goal.is_closed-requires
is_closed-requires c = truth-inside (nodes c.args.table.now) c.args.node c.requires.there

pub walked-requires-clause-inside : goal.walked-requires-clause-inside
walked-requires-clause-inside c = truth-inside (nodes c.args.table.now) c.args.node c.requires.there

pub returns-then-is_closed-clause-node : goal.returns-then-is_closed-clause-node
returns-then-is_closed-clause-node c = λ a e. shut-stays (nodes c.args.table.now) c.args.node a (map constant c.args.turns.now) e (sym c.is_closed.ensures ∙ c.if-is_closed.true)

pub returns-clause-node : goal.returns-clause-node
returns-clause-node c = λ a e.
    let ws = map constant c.args.turns.now in
    IfOk-weaker
    c.walked.result
    (λ made. slice_get (nodes c.walked.new.table) made ≡ Some (rewritten_value (the_value (slice_get (nodes c.args.table.now) c.args.node)) (leaves_alone (closing ws)) 0))
    (λ made. slice_get (nodes c.walked.new.table) made ≡ Some (of_truth (closed_by a ws)))
    (λ made is. walk-closes (slice_get (nodes c.args.table.now) c.args.node) (slice_get (nodes c.walked.new.table) made) a ws e c.requires.there is)
    c.walked.ensures.tree
