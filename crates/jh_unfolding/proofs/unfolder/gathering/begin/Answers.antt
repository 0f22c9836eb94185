use Rattle.jh_arena.specs.table.Nodes.{nodes}
use Rattle.jh_definitions.specs.expansion.Opening.{source_of}
use Rattle.jh_unfolding.proofs.unfolder.Knowing.{known-is}
use Rattle.jh_unfolding.proofs.unfolder.gathering.begin.Goals as goal

pub returns : goal.returns
returns c = known-is (source_of c.args.classes.now) (nodes c.opened.new.table) c.in_ok-meanings.meanings c.args.definitions.now c.requires.ordered c.in_ok-meanings.ensures.only c.in_ok-meanings.ensures.means c.in_ok-meanings.ensures.held
