use Rattle.std.proofs.Common.{◌∙◌}
use Rattle.jh_query.specs.queries.Bare.{query_tree}
use Rattle.jh_digits.specs.solver.Solution as system
use Rattle.jh_bapa.proofs.decision.Systematic.{said-is}
use Rattle.jh_bapa.proofs.decision.solving.sizes_of.Goals as goal

pub returns : goal.returns
returns c = said-is (query_tree c.args.query.now) c.args.atoms.now c.args.spots.now c.of-spots.result c.args.empty.now (system.spelled c.args.digits.now.layers) _ _ _ c.requires.empty
    c.in_ok-rest.ensures (c.of-spots.ensures ∙ c.in_ok-from_slice.ensures.items) c.in_ok-numbers.ensures c.in_ok-flags.ensures
