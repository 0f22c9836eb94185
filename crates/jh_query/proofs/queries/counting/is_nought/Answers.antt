use Rattle.std.proofs.Common.{ap, ◌∙◌, not}
use Rattle.jh_query.proofs.queries.Digits.{nought}
use Rattle.jh_query.proofs.queries.counting.is_nought.Goals as goal

pub returns : goal.returns
returns c = ap not c.has_one.ensures ∙ nought c.args.digits.now
