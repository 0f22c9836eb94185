use Rattle.std.proofs.Common.{◌≡◌, IfOk, Some, slice_get, subst}
use Rattle.jh_form.specs.Tree.{FormulaTree, of_truth}
use Rattle.jh_form.specs.Tree as t
use Rattle.jh_arena.specs.table.Entries.{the_truth}
use Rattle.jh_arena.specs.table.Nodes.{nodes}
use Rattle.jh_arena.specs.makers.Joined.{joined, truths_at}
use Rattle.jh_arena.proofs.makers.Joins.{truth-stays, truth-there, truth-in}
use Rattle.jh_arena.proofs.makers.lists.implication_of.Goals as goal

pub implication-requires-clause-a : goal.implication-requires-clause-a
implication-requires-clause-a c = truth-there (slice_get (nodes c.conjunction_of.new.table) c.in_ok-premise.premise) (joined (truths_at (nodes c.args.table.now) c.args.hypotheses.now)) c.in_ok-premise.ensures.node

pub implication-requires-clause-b : goal.implication-requires-clause-b
implication-requires-clause-b c = truth-there (slice_get (nodes c.conjunction_of.new.table) c.args.goal) (the_truth (slice_get (nodes c.args.table.now) c.args.goal)) (truth-stays c.args.table.now c.conjunction_of.new.table c.args.goal c.in_ok-premise.ensures.grows c.requires.goal)

pub returns-clause-node : goal.returns-clause-node
returns-clause-node c =
    let before : the_truth (slice_get (nodes c.conjunction_of.new.table) c.in_ok-premise.premise) ≡ joined (truths_at (nodes c.args.table.now) c.args.hypotheses.now) = truth-in (slice_get (nodes c.conjunction_of.new.table) c.in_ok-premise.premise) _ c.in_ok-premise.ensures.node in
    let behind : the_truth (slice_get (nodes c.conjunction_of.new.table) c.args.goal) ≡ the_truth (slice_get (nodes c.args.table.now) c.args.goal) = truth-in (slice_get (nodes c.conjunction_of.new.table) c.args.goal) _ (truth-stays c.args.table.now c.conjunction_of.new.table c.args.goal c.in_ok-premise.ensures.grows c.requires.goal) in
    subst (λ (f : FormulaTree). IfOk c.implication.result (λ made. slice_get (nodes c.implication.new.table) made ≡ Some (of_truth f))) (λ i. t.implies (before i) (behind i)) c.implication.ensures.node
