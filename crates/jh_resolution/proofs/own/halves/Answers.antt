use Rattle.std.proofs.Common.{arith}
use Rattle.std.proofs.lemmas.Str.Pattern.{split_parts}
use Rattle.jh_resolution.proofs.Parted.{halves-of}
use Rattle.jh_resolution.proofs.own.halves.Goals as goal

-- src/own.rt
pub returns : goal.returns
returns c = halves-of c.args.text.now c.split_once.result (split_parts 46 c.args.text.now _ c.split_once.ensures.cases (omega arith))
