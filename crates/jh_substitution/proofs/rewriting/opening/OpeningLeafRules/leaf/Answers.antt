use Rattle.std.proofs.Common.{slice_get}
use Rattle.jh_arena.specs.table.Entries.{the_object}
use Rattle.jh_arena.specs.table.Nodes.{nodes}
use Rattle.jh_arena.proofs.table.Listed.{extends-refl}
use Rattle.jh_substitution.proofs.rewriting.OpeningRules.{opening-name}
use Rattle.jh_substitution.proofs.rewriting.opening.OpeningLeafRules.leaf.Goals as goal

pub returns-in_default : goal.returns-in_default
returns-in_default c = record {
  node = opening-name c.args.table.now.pools (nodes c.args.table.now) (nodes c.args.table.now) (the_object (slice_get (nodes c.args.table.now) c.args.self.now.with)) c.args.depth c.args.shape c.args.node c.requires.leaf c.in_default.not-Bound c.requires.there;
  grows = extends-refl c.args.table.now;
}
