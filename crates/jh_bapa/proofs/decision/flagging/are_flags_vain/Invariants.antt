use Rattle.std.proofs.Common.{◌<◌, ℕ}
use Rattle.jh_query.specs.queries.Bare.{query_tree}
use Rattle.jh_bapa.specs.decision.Choices.{IsVain}
use Rattle.jh_bapa.proofs.decision.flagging.are_flags_vain.Given as goal

abbrev pub invariant-loop-block : goal.invariant-loop-block
invariant-loop-block l = (b : ℕ) → b < l.block → IsVain b l.spots l.atoms (query_tree l.query)
