use Rattle.jh_arena.specs.table.Nodes.{nodes}
use Rattle.jh_weakest.proofs.sequent_count.Insides.{truth-inside}
use Rattle.jh_weakest.proofs.sequent_count.goals.add_formula.Goals as goal

pub size-requires : goal.size-requires
size-requires c = truth-inside (nodes c.args.table.now) c.args.node c.requires.there

pub is_shallow-requires : goal.is_shallow-requires
is_shallow-requires c = truth-inside (nodes c.args.table.now) c.args.node c.requires.there
