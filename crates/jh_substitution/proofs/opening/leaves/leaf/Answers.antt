use Rattle.std.proofs.Common.{slice_get}
use Rattle.jh_arena.specs.table.Entries.{the_object}
use Rattle.jh_arena.specs.table.Nodes.{nodes}
use Rattle.jh_substitution.proofs.rewriting.OpeningRules.{opening-name}
use Rattle.jh_substitution.proofs.opening.leaves.leaf.Goals as goal

pub returns-in_default-clause-node : goal.returns-in_default-clause-node
returns-in_default-clause-node c = opening-name c.args.table.now.pools (nodes c.args.table.now) (nodes c.args.table.now) (the_object (slice_get (nodes c.args.table.now) c.args.with)) c.args.depth c.args.shape c.args.node c.requires.leaf c.in_default.not-Bound c.requires.there
