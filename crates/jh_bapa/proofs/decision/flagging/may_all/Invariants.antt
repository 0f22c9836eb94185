use Rattle.std.proofs.Common.{◌≡◌, ◌+◌, ◌*◌, ◌<◌, ℕ, true, map, take}
use Rattle.std.specs.List.{list_all}
use Rattle.std.specs.Int.{bit_at}
use Rattle.jh_query.specs.queries.Bare.{cond_tree}
use Rattle.jh_query.specs.queries.Sizing.{Sizing}
use Rattle.jh_query.specs.queries.Truth.{holds}
use Rattle.jh_query.specs.partial_truth.Judged.{Agrees}
use Rattle.jh_bapa.specs.decision.Choices.{IsChoice}
use Rattle.jh_bapa.proofs.decision.flagging.may_all.Given as goal

abbrev pub invariant-loop-cond : goal.invariant-loop-cond
invariant-loop-cond l = (z : Sizing) (i : ℕ) → i < 64 → Agrees z l.spots l.atoms → IsChoice z (l.block * 64 + i) → list_all (holds z) (map cond_tree (take l.cond-index l.conds)) ≡ true → bit_at l.yes i ≡ 1
