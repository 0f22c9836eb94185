use Rattle.std.proofs.Common.{arith}
use Rattle.std.proofs.lemmas.Str.Pattern.{split_parts}
use Rattle.jh_arguments.proofs.Cuts.{cut-from}
use Rattle.jh_arguments.proofs.shape.cut_at_equals.Goals as goal

-- src/shape.rt
pub returns : goal.returns
returns c = cut-from 61 c.args.text.now c.split_once.result (split_parts 61 c.args.text.now c.split_once.result c.split_once.ensures.cases (omega arith))
