use Rattle.jh_semantics.proofs.HeapsWhole.{heaps-are-whole}
use Rattle.jh_semantics.proofs.laws.heaps_are_whole.Goals as goal

pub returns : goal.returns
returns c p = heaps-are-whole p
