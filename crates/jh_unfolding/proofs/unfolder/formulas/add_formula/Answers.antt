use Rattle.std.proofs.Common.{subst, sym}
use Rattle.jh_arena.specs.table.Entries.{Listing}
use Rattle.jh_unfolding.specs.unfolder.Adding.{program_of, IsReady}
use Rattle.jh_unfolding.proofs.unfolder.Addings.{on-ok, on-any, adds-one}
use Rattle.jh_unfolding.proofs.unfolder.formulas.add_formula.Goals as goal

pub returns-clause-ready : goal.returns-clause-ready
returns-clause-ready c = on-any c.add_node.result (subst (λ (l : Listing). IsReady l c.args.context.now) (sym c.add_node.ensures.table) c.in_ok-node.ensures.ready)

pub returns-clause-adds : goal.returns-clause-adds
returns-clause-adds c = on-ok c.add_node.result (λ f. adds-one (program_of c.args.context.now) c.args.gathered.now c.add_node.new.gathered c.node_of.new.table c.args.spec.now.number _ c.in_ok-node.ensures.grows (f (program_of c.args.context.now) _ c.in_ok-node.ensures.node)) c.add_node.ensures.adds
