use Rattle.std.proofs.Common.{length, ◌≤◌, arith}
use Rattle.std.specs.List.{flat_map}
use Rattle.jh_arena.specs.table.Nodes.{nodes}
use Rattle.jh_arena.specs.makers.Joined.{truths_at}
use Rattle.jh_approx.specs.definition.Names.{names}
use Rattle.jh_query_names.specs.query_names.Gathered.{with_names}
use Rattle.jh_query_names.specs.query_names.Finding.{values_at}
use Rattle.jh_query_names.proofs.name_lists.Gathers.{item-truth, gathers-next, gathers-end}
use Rattle.jh_query_names.proofs.name_lists.listing.gather_truths.Goals as goal

pub gather_truth-requires-clause-node : goal.gather_truth-requires-clause-node
gather_truth-requires-clause-node c = item-truth (nodes c.args.table.now) c.args.facts.now c.loop-fact.fact-index _ c.requires.facts c.loop-fact-test.true

pub loop-fact-preserved : goal.loop-fact-preserved
loop-fact-preserved c =
    let ts = nodes c.args.table.now in
    record {
      names = gathers-next ts c.args.facts.now c.loop-fact.fact-index _ (values_at ts c.loop-fact.found.names.keys) (values_at ts c.gather_truth.new.found.names.keys) (with_names (values_at ts c.args.found.now.names.keys) (flat_map names (truths_at ts c.args.facts.now)))
          c.loop-fact-test.true c.loop-fact.invariant.names c.in_ok-gather_truth.ensures.names;
      found = c.in_ok-gather_truth.ensures.found;
    }

pub returns-clause-names : goal.returns-clause-names
returns-clause-names c =
    let ts = nodes c.args.table.now in
    let far : length c.args.facts.now ≤ c.loop-fact.fact-index = search arith in
    gathers-end ts c.args.facts.now c.loop-fact.fact-index (values_at ts c.loop-fact.found.names.keys) (with_names (values_at ts c.args.found.now.names.keys) (flat_map names (truths_at ts c.args.facts.now))) far c.loop-fact.invariant.names
