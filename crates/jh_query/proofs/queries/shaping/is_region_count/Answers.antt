use Rattle.std.proofs.Common.{arith}
use Rattle.jh_query.proofs.queries.Regions.{no-count}
use Rattle.jh_query.proofs.queries.shaping.is_region_count.Goals as goal

pub returns-else-sets-lt64 : goal.returns-else-sets-lt64
returns-else-sets-lt64 c = no-count c.args.count c.args.sets (omega (arith, c.ranges.count)) c.if-sets-lt64.false
