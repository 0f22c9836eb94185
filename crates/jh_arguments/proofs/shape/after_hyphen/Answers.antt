use Rattle.std.proofs.Common.{arith}
use Rattle.std.proofs.lemmas.Str.Pattern.{strip_prefix_char}
use Rattle.jh_arguments.proofs.Cuts.{hyphen-from}
use Rattle.jh_arguments.proofs.shape.after_hyphen.Goals as goal

-- src/shape.rt
pub returns : goal.returns
returns c = hyphen-from c.args.text.now c.strip_prefix.result (strip_prefix_char 45 c.args.text.now c.strip_prefix.result c.strip_prefix.ensures.cases (omega arith))
