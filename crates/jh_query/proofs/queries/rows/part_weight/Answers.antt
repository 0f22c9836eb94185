use Rattle.std.proofs.Common.{arith, rules}
use Rattle.std.specs.Int.{w128}
use Rattle.std.specs.Int.RustNames.{FitsSigned}
use Rattle.std.proofs.lemmas.Int.{to_z-of_z}
use Rattle.jh_query.specs.queries.Linear.{picked}
use Rattle.jh_query.specs.queries.Sides.{side_tree}
use Rattle.jh_query.proofs.queries.Below.{weight-is}
use Rattle.jh_query.proofs.queries.rows.part_weight.Goals as goal

pub returns : goal.returns
returns c =
    let fits : FitsSigned w128 c.in_ok-part_of_side.field-0 = search rules in
    weight-is (picked c.args.part) (side_tree c.args.side.now) _ _ _ c.part_of_side.ensures c.in_ok-part_of_side.was (simp to_z-of_z at c.unsigned_abs.ensures.value) (omega (arith, c.unsigned_abs.ensures.bound))
