use Rattle.std.proofs.Common.{slice_get}
use Rattle.jh_arena.specs.table.Entries.{the_value}
use Rattle.jh_arena.specs.table.Nodes.{nodes}
use Rattle.jh_substitution.proofs.rewriting.Alone.{nowhere-substituted}
use Rattle.jh_substitution.proofs.rewriting.Sorted.{truth-within}
use Rattle.jh_weakest.proofs.precondition.substituting.substitute.Goals as goal

pub standing-requires : goal.standing-requires
standing-requires c = truth-within (nodes c.args.table.now) c.args.formula c.requires.formula

pub returns-in-None-clause-tree : goal.returns-in-None-clause-tree
returns-in-None-clause-tree c =
    nowhere-substituted (slice_get (nodes c.args.table.now) c.args.formula) c.args.name.now (the_value (slice_get (nodes c.args.table.now) c.args.value)) c.requires.formula (c.standing.ensures.nowhere c.in-None.is)
