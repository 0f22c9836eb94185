use Rattle.jh_cong.proofs.classes.Keeping.{state-cut}
use Rattle.jh_cong.proofs.classes.telling.back.Goals as goal

pub returns-clause-state : goal.returns-clause-state
returns-clause-state c =
    state-cut c.args.state.now _ c.args.count c.requires.state c.requires.count c.cut.ensures.table c.cut.ensures.apart c.cut.ensures.said c.cut.ensures.closure c.cut.ensures.denied c.cut.ensures.enough
