use Rattle.std.proofs.Common.{subst, ℕ, slice_get}
use Rattle.std.specs.Prelude.{Option}
use Rattle.jh_arena.specs.table.Entries.{the_value}
use Rattle.jh_arena.specs.table.Nodes.{nodes}
use Rattle.jh_substitution.specs.rewriting.Walks.{IsRewritten}
use Rattle.jh_substitution.specs.exchange.Staying.{exchanging_under-stays}
use Rattle.jh_substitution.specs.exchange.Under.{exchanging_under}
use Rattle.jh_substitution.proofs.exchange.Rules.{leaf-so, node_or}
use Rattle.jh_substitution.proofs.exchange.exchanging.ExchangingUnderLeafRules.leaf.Goals as goal

pub returns-in-Some-clause-node : goal.returns-in-Some-clause-node
returns-in-Some-clause-node c =
    let u = c.new_at.new.table in
    let from = c.args.self.now.old in
    let to = c.args.self.now.new in
    subst (λ (o : Option ℕ). IsRewritten (exchanging_under (the_value (slice_get (nodes u) from)) (the_value (slice_get (nodes u) to))) (nodes u) c.args.node c.args.depth (node_or o c.args.node)) c.in-Some.is
    (leaf-so u from to c.args.depth c.args.node ((exchanging_under-stays from to).ready c.args.table.now u c.new_at.ensures.grows c.requires.ready) c.args.table.now c.args._shape c.in_ok-new.field-0 c.new_at.ensures.grows c.requires.leaf c.requires.there c.in_ok-new.ensures.stands)

pub returns-in-None-clause-node : goal.returns-in-None-clause-node
returns-in-None-clause-node c =
    let u = c.new_at.new.table in
    let from = c.args.self.now.old in
    let to = c.args.self.now.new in
    subst (λ (o : Option ℕ). IsRewritten (exchanging_under (the_value (slice_get (nodes u) from)) (the_value (slice_get (nodes u) to))) (nodes u) c.args.node c.args.depth (node_or o c.args.node)) c.in-None.is
    (leaf-so u from to c.args.depth c.args.node ((exchanging_under-stays from to).ready c.args.table.now u c.new_at.ensures.grows c.requires.ready) c.args.table.now c.args._shape c.in_ok-new.field-0 c.new_at.ensures.grows c.requires.leaf c.requires.there c.in_ok-new.ensures.stands)
