use Rattle.jh_arena.specs.table.Nodes.{nodes}
use Rattle.jh_arena.proofs.table.Listed.{extends-refl}
use Rattle.jh_substitution.specs.simultaneous.OpenedAll.{objects_at}
use Rattle.jh_substitution.proofs.simultaneous.Openings.{name-stays}
use Rattle.jh_substitution.proofs.simultaneous.opening.OpeningAllLeafRules.leaf.Goals as goal

pub returns-in_default : goal.returns-in_default
returns-in_default c = record {
  node = name-stays c.args.table.now.pools (nodes c.args.table.now) (nodes c.args.table.now) (objects_at (nodes c.args.table.now) c.args.self.now.with.now) c.args.depth c.args.shape c.args.node c.requires.leaf c.in_default.not-Bound c.requires.there;
  grows = extends-refl c.args.table.now;
}
