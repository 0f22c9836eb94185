use Rattle.jh_arena.specs.table.Nodes.{nodes}
use Rattle.jh_inst.specs.instances.Prenex.{under_more}
use Rattle.jh_instantiation.proofs.skolem_constants.Lifts.{lifted-there}
use Rattle.jh_instantiation.proofs.skolem_constants.Shapes.{truth-inside, formula-at, formula-there}
use Rattle.jh_instantiation.proofs.skolem_constants.pulling.under_more.Goals as goal

pub lift-requires : goal.lift-requires
lift-requires c =
    let there = c.in_ok-whole.ensures.node _ (formula-at (nodes c.args.table.now) c.args.body c.requires.there) in
    truth-inside (nodes c.behind.new.table) c.in_ok-whole.whole (formula-there (nodes c.behind.new.table) c.in_ok-whole.whole _ there)

pub body_of-requires : goal.body_of-requires
body_of-requires c = record {
  there =
      let there = c.in_ok-whole.ensures.node _ (formula-at (nodes c.args.table.now) c.args.body c.requires.there) in
      formula-there (nodes c.lift.new.table) c.in_ok-lifted.lifted _ (lifted-there (nodes c.behind.new.table) (nodes c.lift.new.table) c.in_ok-whole.whole c.in_ok-lifted.lifted c.args.own c.args.by _ there c.in_ok-lifted.ensures.tree);
}

pub returns-clause-node : goal.returns-clause-node
returns-clause-node c = λ a e.
    c.body_of.ensures (under_more a c.args.own c.args.by)
    (lifted-there (nodes c.behind.new.table) (nodes c.lift.new.table) c.in_ok-whole.whole c.in_ok-lifted.lifted c.args.own c.args.by a (c.in_ok-whole.ensures.node a e) c.in_ok-lifted.ensures.tree)
