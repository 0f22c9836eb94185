use Rattle.std.proofs.Common.{sym, ◌∙◌, slice_get}
use Rattle.jh_arena.specs.table.Nodes.{nodes}
use Rattle.jh_instantiation.proofs.skolem_constants.Grounded.{ground-none, ground-prenex, ground-settled}
use Rattle.jh_instantiation.proofs.skolem_constants.Shapes.{truth-inside}
use Rattle.jh_instantiation.proofs.skolem_constants.settling.is_settled.Goals as goal

pub is_closed-requires : goal.is_closed-requires
is_closed-requires c = truth-inside (nodes c.args.table.now) c.args.node c.requires.there

pub is_shallow-requires : goal.is_shallow-requires
is_shallow-requires c = truth-inside (nodes c.args.table.now) c.args.node c.requires.there

pub returns-clause-node : goal.returns-clause-node
returns-clause-node c = λ ground a k is. ground-settled (slice_get (nodes c.args.table.now) c.args.node) a k is (sym c.is_closed.ensures ∙ c.if-not-is_closed.false) (sym (c.is_ground.ensures a is) ∙ ground)

pub returns-clause-next : goal.returns-clause-next
returns-clause-next c = λ ground a is. ground-none a (sym (c.is_ground.ensures a is) ∙ ground)

pub returns-clause-prenex : goal.returns-clause-prenex
returns-clause-prenex c = λ ground a is. ground-prenex (slice_get (nodes c.args.table.now) c.args.node) a is (sym c.is_closed.ensures ∙ c.if-not-is_closed.false) (sym (c.is_ground.ensures a is) ∙ ground)
