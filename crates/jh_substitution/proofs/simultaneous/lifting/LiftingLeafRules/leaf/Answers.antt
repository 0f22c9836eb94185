use Rattle.jh_arena.specs.table.Nodes.{nodes}
use Rattle.jh_arena.proofs.table.Listed.{extends-refl}
use Rattle.jh_substitution.proofs.simultaneous.Liftings.{lifts-name}
use Rattle.jh_substitution.proofs.simultaneous.lifting.LiftingLeafRules.leaf.Goals as goal

pub returns-in_default : goal.returns-in_default
returns-in_default c = record {
  node = lifts-name c.args.table.now.pools (nodes c.args.table.now) (nodes c.args.table.now) c.args.self.now.by c.args.depth c.args.shape c.args.node c.requires.leaf c.in_default.not-Bound c.requires.there;
  grows = extends-refl c.args.table.now;
}
