use Rattle.std.proofs.Common.{rules, ◌&&◌}
use Rattle.jh_form.specs.Meaning.{agree}
use Rattle.jh_query.specs.queries.Bare.{cond_tree}
use Rattle.jh_query.proofs.queries.Steps.{tree_steps}
use Rattle.jh_bapa.proofs.decision.Choosing.{joined-all, known-allows}
use Rattle.jh_bapa.proofs.decision.flagging.+truths.Goals as goal

pub returns-in-And : goal.returns-in-And
returns-in-And t c =
    joined-all c.truths-in-And.result c.truths-in-And-2.result c.both.result c.args.block c.args.spots.now c.args.atoms.now (cond_tree c.args.cond.now) (cond_tree c.deref-in-And.result.now) (cond_tree c.deref-in-And-2.result.now) (λ p q. p && q)
    (λ z. search (rules, tree_steps)) c.both.ensures c.truths-in-And.ensures c.truths-in-And-2.ensures

pub returns-in-Iff : goal.returns-in-Iff
returns-in-Iff t c =
    joined-all c.truths-in-Iff.result c.truths-in-Iff-2.result c.alike.result c.args.block c.args.spots.now c.args.atoms.now (cond_tree c.args.cond.now) (cond_tree c.deref-in-Iff.result.now) (cond_tree c.deref-in-Iff-2.result.now) agree
    (λ z. search (rules, tree_steps)) c.alike.ensures c.truths-in-Iff.ensures c.truths-in-Iff-2.ensures

pub returns-in-True : goal.returns-in-True
returns-in-True t c = known-allows c.judge.result c.known.result c.args.block c.args.spots.now c.args.atoms.now (cond_tree c.args.cond.now) c.known.ensures c.judge.ensures.tells
