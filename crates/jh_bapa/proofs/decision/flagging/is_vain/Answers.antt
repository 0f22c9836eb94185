use Rattle.std.proofs.Common.{◌≡◌}
use Rattle.std.proofs.lemmas.Bool.{eqb-true}
use Rattle.jh_query.specs.queries.Bare.{query_tree}
use Rattle.jh_bapa.proofs.decision.Choosing.{vain-block}
use Rattle.jh_bapa.proofs.decision.flagging.is_vain.Goals as goal

pub returns : goal.returns
returns c = λ t.
    vain-block (query_tree c.args.query.now) c.args.spots.now c.args.atoms.now c.args.block c.may_all.result c.truths.result (rw c.items.ensures at c.may_all.ensures) c.truths.ensures (eqb-true _ 0 t)
