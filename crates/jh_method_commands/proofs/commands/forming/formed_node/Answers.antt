use Rattle.jh_method_commands.specs.environment.Outlines.{program_in}
use Rattle.jh_method_commands.proofs.environment.OutlineSteps.{program-classes, program-members}
use Rattle.jh_method_commands.proofs.commands.OutlinedSteps.{the-outline}
use Rattle.jh_method_commands.proofs.commands.forming.formed_node.Goals as goal

pub well_formed-requires-clause-head : goal.well_formed-requires-clause-head
well_formed-requires-clause-head c = (the-outline c.args.table.now c.args.outline.now c.requires).head

pub well_formed-requires-clause-tail : goal.well_formed-requires-clause-tail
well_formed-requires-clause-tail c = (the-outline c.args.table.now c.args.outline.now c.requires).tail

pub returns-clause-node : goal.returns-clause-node
returns-clause-node c = let o = c.args.outline.now in c.well_formed-2.ensures.node (program_in o) (program-classes o) (program-members o)
