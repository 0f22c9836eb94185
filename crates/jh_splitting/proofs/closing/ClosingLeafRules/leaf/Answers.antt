use Rattle.std.proofs.Common.{map}
use Rattle.jh_arena.specs.table.Nodes.{nodes}
use Rattle.jh_arena.proofs.table.Listed.{extends-refl}
use Rattle.jh_seq.specs.splitting.Split.{constant}
use Rattle.jh_splitting.proofs.Closings.{name-stays}
use Rattle.jh_splitting.proofs.closing.ClosingLeafRules.leaf.Goals as goal

pub returns-in_default : goal.returns-in_default
returns-in_default c = record {
  node = name-stays c.args.table.now.pools (nodes c.args.table.now) (nodes c.args.table.now) (map constant c.args.self.now.turns.now) c.args.depth c.args.shape c.args.node c.requires.leaf c.in_default.not-Bound c.requires.there;
  grows = extends-refl c.args.table.now;
}
