use Rattle.jh_substitution.specs.exchange.Staying.{exchanging_under-stays}
use Rattle.jh_substitution.proofs.exchange.Rules.{whole-so}
use Rattle.jh_substitution.proofs.exchange.exchanging.ExchangingUnderLeafRules.whole.Goals as goal

pub returns-clause-node : goal.returns-clause-node
returns-clause-node c =
    let u = c.new_at.new.table in
    let from = c.args.self.now.old in
    let to = c.args.self.now.new in
    whole-so u from to c.args.depth c.args.node ((exchanging_under-stays from to).ready c.args.table.now u c.new_at.ensures.grows c.requires.ready) c.args.table.now c.args._shape c.in_ok-new.new c.new_at.ensures.grows c.requires.inner c.requires.there c.in_ok-new.ensures.stands
