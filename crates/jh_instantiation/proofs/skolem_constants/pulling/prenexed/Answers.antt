use Rattle.jh_arena.specs.table.Nodes.{nodes}
use Rattle.jh_inst.specs.instances.Prenex.{behind, pulled}
use Rattle.jh_instantiation.specs.skolem_constants.Standing.{IsFormula}
use Rattle.jh_instantiation.proofs.skolem_constants.Shapes.{truth-inside, formula-at, formula-there, as-ok}
use Rattle.jh_instantiation.proofs.skolem_constants.pulling.prenexed.Goals as goal

pub is_shallow-requires : goal.is_shallow-requires
is_shallow-requires c = truth-inside (nodes c.args.table.now) c.args.node c.requires.there

pub behind-requires : goal.behind-requires
behind-requires c = record {
  there =
      let m = c.in_ok-matrix.ensures.node _ (formula-at (nodes c.args.table.now) c.args.node c.requires.there) in
      formula-there (nodes c.pulled.new.table) c.in_ok-matrix.matrix.body _ m.body;
}

pub returns-clause-node : goal.returns-clause-node
returns-clause-node c = λ a e.
    let m = c.in_ok-matrix.ensures.node a e in
    as-ok (λ n made. IsFormula c.behind.new.table made (behind n (pulled a).body)) c.behind.result m.variables (c.behind.ensures.node (pulled a).body m.body)
