use Rattle.std.proofs.Common.{◌∙◌}
use Rattle.jh_report.proofs.causes.Spelling.{zeros-spell}
use Rattle.jh_report.proofs.causes.refuted.is_zero.Goals as goal

pub returns : goal.returns
returns c = c.are_zeros.ensures ∙ zeros-spell c.args.digits.now
