use Rattle.std.proofs.Common.{ap, ◌∙◌, slice_get}
use Rattle.std.proofs.lemmas.Result.{IfOk-weaker}
use Rattle.jh_arena.specs.table.Entries.{the_truth}
use Rattle.jh_arena.specs.table.Nodes.{nodes}
use Rattle.jh_arena.specs.makers.Joined.{truths_at}
use Rattle.jh_approx.specs.definition.Regions.{query_from, query_over}
use Rattle.jh_query_names.proofs.name_lists.Gathers.{truth-stays, truths-stay}
use Rattle.jh_abstraction.proofs.translation.querying.query_from.Goals as goal

pub query_over-requires-clause-facts : goal.query_over-requires-clause-facts
query_over-requires-clause-facts c = truths-stay (nodes c.args.table.now) (nodes c.names_of.new.table) c.args.facts.now c.names_of.ensures.grows.nodes c.requires.facts

pub query_over-requires-clause-goal : goal.query_over-requires-clause-goal
query_over-requires-clause-goal c = truth-stays (nodes c.args.table.now) (nodes c.names_of.new.table) c.args.goal c.names_of.ensures.grows.nodes c.requires.goal

pub returns-clause-tree : goal.returns-clause-tree
unfolding query_from
returns-clause-tree c =
    let us = nodes c.names_of.new.table in
    IfOk-weaker c.query_over.result _ _ (λ made e. e ∙ ap (query_over (truths_at us c.args.facts.now) (the_truth (slice_get us c.args.goal))) c.in_ok-names.ensures.names) c.query_over.ensures
