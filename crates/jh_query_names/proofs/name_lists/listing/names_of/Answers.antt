use Rattle.jh_arena.specs.table.Nodes.{nodes}
use Rattle.jh_query_names.proofs.name_lists.Gathers.{truth-stays, truths-stay}
use Rattle.jh_query_names.proofs.name_lists.listing.names_of.Goals as goal

pub names_with-requires-clause-facts : goal.names_with-requires-clause-facts
names_with-requires-clause-facts c = truths-stay (nodes c.args.table.now) (nodes c.null.new.table) c.args.facts.now c.null.ensures.grows.nodes c.requires.facts

pub names_with-requires-clause-goal : goal.names_with-requires-clause-goal
names_with-requires-clause-goal c = truth-stays (nodes c.args.table.now) (nodes c.null.new.table) c.args.goal c.null.ensures.grows.nodes c.requires.goal
