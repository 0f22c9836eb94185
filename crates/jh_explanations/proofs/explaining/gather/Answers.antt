use Rattle.std.proofs.Common.{◌≡◌, sym, subst, ◌≤◌, length, List, arith}
use Rattle.jh_arena.specs.table.Nodes.{nodes}
use Rattle.jh_explanations.specs.declared.step.Step.{Step}
use Rattle.jh_explanations.specs.Marks.{AreGathered}
use Rattle.jh_explanations.proofs.Gathered.{gathered-none}
use Rattle.jh_explanations.proofs.explaining.gather.Goals as goal

pub loop-place-init : goal.loop-place-init
loop-place-init c =
    let b = c.args.branch.now in
    subst (λ (xs : List Step). AreGathered (nodes c.args.problem.now.table) c.args.problem.now b.decisions.items b.trail c.args.marks.now 0 xs) (sym c.new-steps.ensures.items)
    (gathered-none (nodes c.args.problem.now.table) c.args.problem.now b.trail b.reasons.items b.decisions.items c.args.marks.now)

pub returns : goal.returns
returns c =
    let b = c.args.branch.now in
    let low : c.loop-place.place ≤ length b.trail = omega (arith, c.loop-place, c.len-place-end.ensures) in
    let end : c.loop-place.place ≡ length b.trail = omega (arith, c.loop-place-test.false, c.len-place-end.ensures, low) in
    subst (λ n. AreGathered (nodes c.args.problem.now.table) c.args.problem.now b.decisions.items b.trail c.args.marks.now n c.loop-place.steps.items) end c.loop-place.invariant
