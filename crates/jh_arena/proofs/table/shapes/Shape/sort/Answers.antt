use Rattle.jh_arena.proofs.table.ShapeSorts.{formula-sort}
use Rattle.jh_arena.proofs.table.shapes.Shape.sort.Goals as goal

pub returns-in_default : goal.returns-in_default
returns-in_default c = formula-sort c.args.self c.in_default.not-Bound c.in_default.not-FreeObject c.in_default.not-Null c.in_default.not-ReadObject c.in_default.not-Const c.in_default.not-FreeNumber c.in_default.not-ReadNumber c.in_default.not-Add c.in_default.not-Sub c.in_default.not-Neg c.in_default.not-Scale c.in_default.not-Card c.in_default.not-FreeSet c.in_default.not-ReadSet c.in_default.not-Empty c.in_default.not-Univ c.in_default.not-Single c.in_default.not-Union c.in_default.not-Inter c.in_default.not-Diff c.in_default.not-Compl c.in_default.not-Compr c.in_default.not-FreeField c.in_default.not-Update
