use Rattle.std.proofs.Common.{ℕ, sym, subst}
use Rattle.jh_arena.specs.table.Nodes.{nodes}
use Rattle.jh_substitution.specs.rewriting.Rewritten.{leaves_alone}
use Rattle.jh_substitution.specs.rewriting.Walks.{IsRewritten}
use Rattle.jh_substitution.specs.simultaneous.Pairs.{pairs_in}
use Rattle.jh_substitution.specs.simultaneous.Several.{instead}
use Rattle.jh_substitution.proofs.simultaneous.Leaves.{leaf-put}
use Rattle.jh_substitution.proofs.simultaneous.several.SeveralLeafRules.leaf.Goals as goal

pub returns-clause-node : goal.returns-clause-node
returns-clause-node c =
    subst (λ (r : ℕ). IsRewritten (leaves_alone (instead (pairs_in c.args.table.now c.args.self.now.pairs.now))) (nodes c.args.table.now) c.args.node c.args._depth r) (sym c.chosen.ensures)
    (leaf-put c.args.table.now c.nodes_differ.ensures.different c.args.node c.args._shape c.args.self.now.pairs.now c.args._depth c.requires.leaf c.requires.ready c.requires.there)
