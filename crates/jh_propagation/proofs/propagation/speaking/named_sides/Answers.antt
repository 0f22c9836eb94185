use Rattle.jh_propagation.proofs.propagation.Names.{name-inside, sides-speak, sides-equation, sides-none}
use Rattle.jh_propagation.proofs.propagation.speaking.named_sides.Goals as goal

pub shape-requires : goal.shape-requires
shape-requires c = name-inside c.args.table.now c.args.problem.now c.requires.problem c.args.atom c.requires.atom c.name.result c.name.ensures

pub returns-clause-speaks : goal.returns-clause-speaks
returns-clause-speaks c = sides-speak c.args.table.now c.args.problem.now c.requires.problem c.args.atom c.requires.atom c.name.result c.name.ensures c.shape.result c.shape.ensures.tree c.shape.ensures.fits c.sides.result c.sides.ensures

pub returns-clause-equation : goal.returns-clause-equation
returns-clause-equation c = sides-equation c.args.table.now c.args.problem.now c.requires.problem c.args.atom c.requires.atom c.name.result c.name.ensures c.shape.result c.shape.ensures.tree c.shape.ensures.fits c.sides.result c.sides.ensures

pub returns-clause-none : goal.returns-clause-none
returns-clause-none c = sides-none c.args.table.now c.args.problem.now c.requires.problem c.args.atom c.requires.atom c.name.result c.name.ensures c.shape.result c.shape.ensures.tree c.shape.ensures.fits c.sides.result c.sides.ensures
