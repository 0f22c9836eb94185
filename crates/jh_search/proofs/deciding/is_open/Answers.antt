use Rattle.std.proofs.Common.{◌≡◌, subst, List, ℕ, Some, slice_get}
use Rattle.jh_closure.proofs.congruence_closure.Having.{has-at}
use Rattle.jh_search.proofs.deciding.is_open.Goals as goal

pub is_true-requires : goal.is_true-requires
is_true-requires c = (c.requires.branch.problem.posed.truths c.place_at-instance.result (has-at c.args.problem.now.instances.items c.args.place c.place_at-instance.result (subst (λ (xs : List ℕ). slice_get xs c.args.place ≡ Some c.place_at-instance.result) c.deref.ensures.value c.place_at-instance.ensures)))
