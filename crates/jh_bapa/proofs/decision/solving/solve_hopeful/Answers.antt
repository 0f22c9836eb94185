use Rattle.std.proofs.Common.{arith}
use Rattle.jh_query.specs.queries.Bare.{query_tree}
use Rattle.jh_query.specs.queries.Sizing.{sizing_of}
use Rattle.jh_digits.specs.solver.Solution as system
use Rattle.jh_bapa.proofs.decision.Bounded.{small-system}
use Rattle.jh_bapa.proofs.decision.Systematic.{frame-few, frame-fit, length-empty, none-left, solution-refutes, system-formed}
use Rattle.jh_bapa.proofs.decision.solving.solve_hopeful.Goals as goal

pub system_of-requires-clause-fit : goal.system_of-requires-clause-fit
system_of-requires-clause-fit c = frame-fit (query_tree c.args.query.now) c.args.atoms.now c.args.spots.now c.requires.formed c.requires.within c.requires.casing c.requires.full c.requires.hopeful

pub system_of-requires-clause-few : goal.system_of-requires-clause-few
system_of-requires-clause-few c = frame-few (query_tree c.args.query.now) c.args.atoms.now c.requires.within c.requires.casing

pub solve-requires : goal.solve-requires
solve-requires c = system-formed (query_tree c.args.query.now) c.args.atoms.now c.args.spots.now c.in_ok-made.made c.in_ok-made.ensures

pub sizes_of-requires-clause-few : goal.sizes_of-requires-clause-few
sizes_of-requires-clause-few c = omega (arith, length-empty c.args.query.now.sets c.args.atoms.now c.args.empty.now c.requires.empty, frame-few (query_tree c.args.query.now) c.args.atoms.now c.requires.within c.requires.casing)

pub returns-in-Solution-clause-some : goal.returns-in-Solution-clause-some
returns-in-Solution-clause-some c =
    solution-refutes (query_tree c.args.query.now) c.args.atoms.now c.args.spots.now c.in_ok-made.made (system.spelled c.in-Solution.digits.layers) (sizing_of c.in_ok-sizes_of-in-Solution.field-0) c.requires.formed c.requires.casing c.requires.placement c.requires.full c.requires.untrue c.requires.hopeful
    c.in_ok-made.ensures c.in-Solution.ensures.solution.1 c.in_ok-sizes_of-in-Solution.ensures

pub returns-in-NoSolution-clause-none : goal.returns-in-NoSolution-clause-none
returns-in-NoSolution-clause-none c = none-left (query_tree c.args.query.now) c.args.atoms.now c.args.spots.now c.in_ok-made.made c.requires.full c.in_ok-made.ensures c.in-NoSolution.ensures.no_solution

pub returns-in-TooLarge-clause-none : goal.returns-in-TooLarge-clause-none
returns-in-TooLarge-clause-none c =
    let few = small-system (query_tree c.args.query.now) c.args.atoms.now c.args.spots.now c.in_ok-made.made c.requires.within c.requires.casing c.requires.full c.requires.hopeful c.requires.told c.in_ok-made.ensures in
    absurd (omega (arith, c.in-TooLarge.ensures.too_large.0, few))
