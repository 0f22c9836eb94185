use Rattle.std.proofs.Common.{rules, ◌≡◌, true, Some, sym, ap, ◌∙◌, subst, List, ℕ, slice_set}
use Rattle.jh_sem.specs.Graphs.{IsWalk}
use Rattle.jh_sem.proofs.Walks.{walk-more}
use Rattle.jh_sem.proofs.graph.visit.Goals as goal

pub returns-clause-walk : goal.returns-clause-walk
returns-clause-walk c = λ last fs start walk near.
    subst (λ (xs : List ℕ). IsWalk last fs start (slice_set c.args.marks.now.items c.args.object true) xs) (sym c.in_ok-push.ensures.items)
    (walk-more last fs start c.args.marks.now.items c.args.found.now.items c.args.object (search rules) walk near)
