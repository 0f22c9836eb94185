use Rattle.std.proofs.Common.{ap, ◌∙◌}
use Rattle.std.proofs.lemmas.Result.{on_ok_weaker}
use Rattle.jh_arena.specs.table.Nodes.{nodes}
use Rattle.jh_query_names.specs.query_names.Gathered.{with_names}
use Rattle.jh_query_names.specs.query_names.Finding.{values_at}
use Rattle.jh_query_names.proofs.name_lists.Gathers.{names-at, truth-inside}
use Rattle.jh_query_names.proofs.name_lists.listing.gather_truth.Goals as goal

pub returns-clause-names : goal.returns-clause-names
returns-clause-names c =
    let ts = nodes c.args.table.now in
    on_ok_weaker c.gather.result (λ e. e ∙ ap (with_names (values_at ts c.args.found.now.names.keys)) (names-at ts c.args.node c.requires.node)) c.gather.ensures.names

pub gather-requires-clause-node : goal.gather-requires-clause-node
gather-requires-clause-node c = truth-inside (nodes c.args.table.now) c.args.node c.requires.node
