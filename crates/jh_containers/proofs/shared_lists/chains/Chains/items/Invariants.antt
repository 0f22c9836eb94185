use Rattle.std.proofs.Common.{List}
use Rattle.jh_containers.proofs.shared_lists.Linked.{Left}
use Rattle.jh_containers.proofs.shared_lists.chains.Chains.items.Given as goal

abbrev pub invariant-loop-turn : goal.invariant-loop-turn
invariant-loop-turn g l = record {
  left : (xs : List _) → Left l.self l.fn.list l.items.items l.next xs;
}
