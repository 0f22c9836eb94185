use Rattle.std.proofs.Common.{ap, map}
use Rattle.jh_form.specs.Bare.{formula_tree}
use Rattle.jh_arena.specs.table.Nodes.{nodes}
use Rattle.jh_reach.proofs.Entering.{truth-at, boxed-step, boxed-end}
use Rattle.jh_reach.proofs.reaching.boxed.Goals as goal

pub loop-item-init : goal.loop-item-init
loop-item-init c = ap (map formula_tree) c.new-made.ensures.items

pub boxed_formula-requires : goal.boxed_formula-requires
boxed_formula-requires c = truth-at (nodes c.args.table.now) c.args.items.now c.loop-item.item-index c.requires c.loop-item-test.true

pub loop-item-preserved : goal.loop-item-preserved
loop-item-preserved c =
    boxed-step (nodes c.args.table.now) c.args.items.now c.loop-item.item-index c.loop-item.made.items c.push.new.self.items c.in_ok-formula.formula c.loop-item.invariant c.in_ok-formula.ensures.tree c.in_ok-push.ensures.items c.loop-item-test.true

pub returns : goal.returns
returns c = boxed-end (nodes c.args.table.now) c.args.items.now c.loop-item.item-index c.loop-item.made.items c.loop-item.invariant c.loop-item-test.false
