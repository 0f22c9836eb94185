use Rattle.std.proofs.Common.{arith}
use Rattle.jh_query.proofs.queries.Regions.{all-regions}
use Rattle.jh_query.proofs.queries.shaping.is_region.Goals as goal

pub returns-then-sets-ge64 : goal.returns-then-sets-ge64
returns-then-sets-ge64 c = all-regions c.args.region c.args.sets (omega (arith, c.ranges.region)) c.if-sets-ge64.true
