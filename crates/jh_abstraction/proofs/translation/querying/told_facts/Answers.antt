use Rattle.std.proofs.Common.{◌≤◌, ap, ◌∙◌, length, map, arith}
use Rattle.jh_arena.specs.table.Nodes.{nodes}
use Rattle.jh_query.specs.queries.Bare.{cond_tree}
use Rattle.jh_query_names.specs.name_lists.Lists.{lists_of}
use Rattle.jh_query_names.proofs.name_lists.Gathers.{item-truth}
use Rattle.jh_abstraction.proofs.translation.Facts.{told-next, told-end}
use Rattle.jh_abstraction.proofs.translation.querying.told_facts.Goals as goal

pub told_formula-requires-clause-truth : goal.told_formula-requires-clause-truth
told_formula-requires-clause-truth c = item-truth (nodes c.args.table.now) c.args.facts.now c.loop-fact.fact-index _ c.requires.facts c.loop-fact-test.true

pub loop-fact-preserved : goal.loop-fact-preserved
loop-fact-preserved c =
    let ts = nodes c.args.table.now in
    told-next (lists_of ts c.args.names.now) ts c.args.facts.now c.loop-fact.fact-index _ c.loop-fact.made.items c.push.new.self.items c.in_ok-cond.cond c.loop-fact-test.true c.loop-fact.invariant c.in_ok-cond.ensures c.in_ok-push.ensures.items

pub returns : goal.returns
returns c =
    let ts = nodes c.args.table.now in
    let far : length c.args.facts.now ≤ c.loop-fact.fact-index = search arith in
    ap (map cond_tree) c.of.ensures
    ∙ told-end (lists_of ts c.args.names.now) ts c.args.facts.now c.loop-fact.fact-index c.loop-fact.made.items far c.loop-fact.invariant
