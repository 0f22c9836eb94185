use Rattle.std.proofs.Common.{slice_get}
use Rattle.jh_arena.specs.table.Entries.{the_name, the_value}
use Rattle.jh_arena.specs.table.Nodes.{nodes}
use Rattle.jh_substitution.proofs.simultaneous.Rules.{none-next, some-pass, ready-at}
use Rattle.jh_substitution.proofs.simultaneous.several.holds_none.Goals as goal

pub loop-index-preserved : goal.loop-index-preserved
loop-index-preserved c =
    let name = the_name (slice_get c.args.table.now.pools.names c.pair_at-pair.result.name) in
    let free = c.may_hold.ensures c.if-may_hold.false name (ready-at c.args.table.now c.args.pairs.now c.loop-index.index c.pair_at-pair.result c.requires.ready c.pair_at-pair.ensures) in
    record {
      rest = λ h. c.loop-index.invariant.rest (none-next c.args.table.now c.args.pairs.now (the_value (slice_get (nodes c.args.table.now) c.args.node)) c.loop-index.index c.pair_at-pair.result c.pair_at-pair.ensures free h);
      some = λ lt. some-pass c.args.table.now c.args.pairs.now (the_value (slice_get (nodes c.args.table.now) c.args.node)) c.pair_at-pair.result free;
    }
