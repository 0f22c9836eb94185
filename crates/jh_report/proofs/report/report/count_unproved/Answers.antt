use Rattle.std.proofs.iter.Serving.{serving}
use Rattle.jh_report.proofs.report.report.count_unproved.Goals as goal

pub returns : goal.returns
returns c = grind serving
