use Rattle.std.proofs.Common.{sym, ◌∙◌}
use Rattle.jh_query.specs.queries.Bare.{query_tree}
use Rattle.jh_bapa.proofs.decision.Systematic.{hopeless-none}
use Rattle.jh_bapa.proofs.decision.solving.solve_case.Goals as goal

pub returns-then-are_hopeless-clause-none : goal.returns-then-are_hopeless-clause-none
returns-then-are_hopeless-clause-none c = hopeless-none (query_tree c.args.query.now) c.args.atoms.now c.args.spots.now c.requires.full (sym c.are_hopeless.ensures ∙ c.if-are_hopeless.true)
