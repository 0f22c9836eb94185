use Rattle.std.proofs.Common.{sym, ap, ◌∙◌, ◌+◌, Some, arith}
use Rattle.jh_form.specs.Tree.{of_truth}
use Rattle.jh_arena.specs.table.Nodes.{nodes}
use Rattle.jh_instantiation.proofs.skolem_constants.Shapes.{formula-at, formula-there}
use Rattle.jh_instantiation.proofs.skolem_constants.settling.settle.Goals as goal

pub is_settled-requires-2 : goal.is_settled-requires-2
is_settled-requires-2 c = record { there = formula-there (nodes c.witnessed.new.table) c.in_ok-there.there.node _ (c.in_ok-there.ensures.node _ (formula-at (nodes c.args.table.now) c.args.node c.requires.there)) }

pub returns-then-is_settled-2-clause-node : goal.returns-then-is_settled-2-clause-node
returns-then-is_settled-2-clause-node c = λ a e.
    let is = c.in_ok-there.ensures.node a e in
    is ∙ ap (λ b. Some (of_truth b)) (sym (c.is_settled-2.ensures.prenex c.if-is_settled-2.true _ is))

pub prenexed-requires : goal.prenexed-requires
prenexed-requires c = record { there = formula-there (nodes c.witnessed.new.table) c.in_ok-there.there.node _ (c.in_ok-there.ensures.node _ (formula-at (nodes c.args.table.now) c.args.node c.requires.there)) }

pub returns-clause-node : goal.returns-clause-node
returns-clause-node c = λ a e. c.in_ok-node.ensures.node _ (c.in_ok-there.ensures.node a e)

pub returns-then-is_settled-clause-node : goal.returns-then-is_settled-clause-node
returns-then-is_settled-clause-node c = λ a is. is ∙ ap (λ b. Some (of_truth b)) (sym (c.is_settled.ensures.node c.if-is_settled.true a c.args.first is))

pub returns-then-is_settled-clause-next : goal.returns-then-is_settled-clause-next
returns-then-is_settled-clause-next c = λ a is. let none = c.is_settled.ensures.next c.if-is_settled.true a is in omega (arith, none)
