use Rattle.std.proofs.Common.{sym}
use Rattle.jh_arguments.proofs.Numbers.{number-is}
use Rattle.jh_arguments.proofs.setting.number_in.Goals as goal

-- src/setting.rt
pub returns : goal.returns
returns c = number-is c.args.word.now c.value_of.result (sym c.if-not-is_number.ensures) c.value_of.ensures
