use Rattle.std.proofs.Common.{sym, ◌∙◌, arith}
use Rattle.jh_query.specs.queries.Bare.{cond_tree}
use Rattle.jh_bapa.proofs.decision.Known.{found-none, found-place}
use Rattle.jh_bapa.proofs.decision.judging.open_place.Goals as goal

pub returns-then-same_atom-clause-place : goal.returns-then-same_atom-clause-place
returns-then-same_atom-clause-place c = found-place c.if_open.result c.args.atoms.now c.loop-place.place c.index-atoms-place.result c.if_open.ensures (omega arith) c.index-atoms-place.is
