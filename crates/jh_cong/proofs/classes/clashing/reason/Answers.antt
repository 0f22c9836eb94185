use Rattle.jh_cong.proofs.classes.Answering.{apart-unmet}
use Rattle.jh_cong.proofs.classes.Oks.{if-found}
use Rattle.jh_cong.proofs.classes.clashing.reason.Goals as goal

pub returns-in-Some-clause-unmet : goal.returns-in-Some-clause-unmet
returns-in-Some-clause-unmet c =
    let pair = c.in-Some.pair in
    if-found c.explain.result (λ listed f. apart-unmet c.args.state.now c.requires.told listed.items pair (c.requires.told.pairs.each pair c.in-Some.ensures.some.0) f) c.explain.ensures.some
