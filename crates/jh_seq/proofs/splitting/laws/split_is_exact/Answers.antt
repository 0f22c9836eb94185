use Rattle.std.proofs.Common.{arith, None, []}
use Rattle.jh_seq.specs.splitting.Split.{split_forest}
use Rattle.jh_seq.proofs.splitting.Splitting.{split-sound, split-complete}
use Rattle.jh_seq.proofs.splitting.Forestry.{forest-sound, forest-complete}
use Rattle.jh_seq.proofs.splitting.laws.split_is_exact.Goals as goal

pub returns : goal.returns
returns c = λ method a k passes. (
  λ valid m u. split-sound split_forest method k (forest-sound method k) a None [] [] k (omega arith) passes tt tt valid m u tt,
  λ goal_true. split-complete split_forest method (forest-complete method) a None [] [] k (λ m u h. goal_true m u),
)
