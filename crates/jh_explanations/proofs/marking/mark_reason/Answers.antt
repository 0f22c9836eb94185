use Rattle.std.proofs.Common.{subst, ◌<◌, ℕ, List, arith}
use Rattle.jh_closure.specs.congruence_closure.Nodes.{Has}
use Rattle.jh_arena.specs.table.Nodes.{nodes}
use Rattle.jh_explanations.specs.Marks.{AddsMarks}
use Rattle.jh_explanations.proofs.Gathered.{more-explained}
use Rattle.jh_explanations.proofs.marking.mark_reason.Goals as goal

pub mark_all-requires : goal.mark_all-requires
mark_all-requires c = λ n h.
    let lt : n < c.args.place = c.in_ok-places.ensures.below n (subst (λ (xs : List ℕ). Has xs n) c.items.ensures h) in
    omega (arith, lt, c.requires.inside, c.requires.explained.long)

pub returns-clause-explained : goal.returns-clause-explained
returns-clause-explained c = more-explained (nodes c.args.problem.now.table) c.args.problem.now c.args.trail.now c.args.reasons.now c.args.marks.now.items c.mark_all.new.marks.items c.in_ok-places.places c.args.place c.requires.explained c.in_ok-places.ensures.below
    (subst (λ (xs : List ℕ). AddsMarks c.args.marks.now.items c.mark_all.new.marks.items xs) c.items.ensures c.mark_all.ensures) c.in_ok-places.ensures.rests
