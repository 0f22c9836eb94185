use Rattle.std.proofs.Common.{◌∙◌, None, []}
use Rattle.jh_wp.specs.Wp.{wp}
use Rattle.jh_seq.specs.counting.Goals.{ones}
use Rattle.jh_seq.proofs.counting.Backwards.{goals-wp}
use Rattle.jh_seq.proofs.counting.Lengths.{split-length}
use Rattle.jh_seq.proofs.counting.laws.counted_is_exact.Goals as goal

pub returns : goal.returns
returns c = λ a q r method k. split-length method (wp a q r) None [] [] k ∙ goals-wp a q r ones
