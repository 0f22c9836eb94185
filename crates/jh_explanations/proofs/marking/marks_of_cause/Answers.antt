use Rattle.std.proofs.Common.{sym, ◌∙◌, subst, ◌<◌, ℕ, List}
use Rattle.jh_closure.specs.congruence_closure.Nodes.{Has}
use Rattle.jh_arena.specs.table.Nodes.{nodes}
use Rattle.jh_explanations.specs.Marks.{AddsMarks}
use Rattle.jh_explanations.proofs.Gathered.{cause-explained}
use Rattle.jh_explanations.proofs.marking.marks_of_cause.Goals as goal

pub places_of_cause-requires-clause-problem : goal.places_of_cause-requires-clause-problem
places_of_cause-requires-clause-problem c = c.requires.history.posed

pub mark_all-requires : goal.mark_all-requires
mark_all-requires c = λ n h. subst (λ k. n < k) (sym (c.in_ok-marks.ensures.long ∙ c.len.ensures)) (c.in_ok-places.ensures.inside n (subst (λ (xs : List ℕ). Has xs n) c.items.ensures h))

pub returns : goal.returns
returns c = cause-explained (nodes c.args.table.now) c.args.problem.now c.args.trail.now c.args.reasons.now c.in_ok-marks.marks.items c.mark_all.new.marks.items c.in_ok-places.places (c.in_ok-marks.ensures.long ∙ c.len.ensures) c.in_ok-places.ensures.inside c.in_ok-marks.ensures.none
    (subst (λ (xs : List ℕ). AddsMarks c.in_ok-marks.marks.items c.mark_all.new.marks.items xs) c.items.ensures c.mark_all.ensures) c.in_ok-places.ensures.clash
