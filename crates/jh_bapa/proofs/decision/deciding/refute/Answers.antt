use Rattle.jh_query.specs.queries.Bare.{query_tree}
use Rattle.jh_bapa.specs.decision.Cases.{conds_of}
use Rattle.jh_bapa.proofs.decision.Known.{none-then}
use Rattle.jh_bapa.proofs.decision.Gatherings.{casing-of}
use Rattle.jh_bapa.proofs.decision.Placements.{none-query, placement-empty}
use Rattle.jh_bapa.proofs.decision.deciding.refute.Goals as goal

pub place-requires-clause-casing : goal.place-requires-clause-casing
place-requires-clause-casing c = casing-of (query_tree c.args.query.now) (conds_of c.in_ok-atoms.atoms.items) c.in_ok-atoms.ensures.conds

pub place-requires-clause-placement : goal.place-requires-clause-placement
place-requires-clause-placement c = placement-empty c.args.query.now.sets c.new-spots.result.items c.new-spots.ensures.items

pub returns-clause-none : goal.returns-clause-none
returns-clause-none c = none-then c.in_ok-found.found _ _ c.in_ok-found.ensures.none (none-query (query_tree c.args.query.now) c.in_ok-atoms.atoms.items c.new-spots.result.items c.requires.formed c.in_ok-atoms.ensures.fresh c.new-spots.ensures.items)
