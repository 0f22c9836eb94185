use Rattle.std.proofs.Common.{arith}
use Rattle.jh_type.proofs.formula_kinds.Halving.{halved}
use Rattle.std.proofs.lemmas.Str.Pattern.{split_parts}
use Rattle.jh_type.proofs.formula_kinds.spelling.halves.Goals as goal

pub returns : goal.returns
returns c = halved c.args.text.now c.split_once.result (split_parts 46 c.args.text.now c.split_once.result c.split_once.ensures.cases (omega arith))
