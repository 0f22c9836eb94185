use Rattle.std.proofs.Common.{[], ◌∷◌}
use Rattle.jh_derivation_rules.proofs.Trees.{closes-run, runs-closes, fails-runs, fails-once}
use Rattle.jh_derivation_rules.proofs.laws.closing_is_exact.Goals as goal

pub returns : goal.returns
returns c = record {
  runs = λ fs ss. (closes-run fs ss, runs-closes fs ss);
  apart = λ fs ss n fails closes. fails-runs (fs ∷ []) ss n fails (closes-run fs ss closes);
  first = λ fs ss n k. fails-once (fs ∷ []) ss n k;
}
