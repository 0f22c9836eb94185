use Rattle.std.proofs.Common.{◌≡◌, refl, sym, ◌∙◌, subst, ◌<◌, ◌+◌, ◌-◌, ℕ, length, arith}
use Rattle.jh_arena.specs.table.Nodes.{nodes}
use Rattle.jh_propagation.specs.propagation.Problems.{IsProblem}
use Rattle.jh_explanations.specs.Marks.{AreExplained}
use Rattle.jh_explanations.specs.Resting.{IsToldBelow}
use Rattle.jh_explanations.proofs.marking.mark_down.Goals as goal

down : (n index count : ℕ) → count ≡ n → index < count → n - index ≡ (count - 1 - index) + 1
down n index count e lt = omega (arith, e, lt)

further : (n index count : ℕ) → count ≡ n → index < count → count - 1 - index ≡ n - (index + 1)
further n index count e lt = omega (arith, e, lt)

pub loop-index-init : goal.loop-index-init
loop-index-init c =
    let whole : length c.args.trail.now ≡ length c.args.trail.now - 0 = omega arith in
    record {
      table = refl;
      told = subst (λ n. IsToldBelow (nodes c.args.classes.now.table) (nodes c.args.problem.now.table) c.args.trail.now c.args.reasons.now c.args.classes.now.said n) whole c.requires.told;
      explained = subst (λ n. AreExplained (nodes c.args.problem.now.table) c.args.problem.now c.args.trail.now c.args.reasons.now c.args.marks.now.items n) whole c.requires.explained;
    }

pub mark_before-requires-clause-history : goal.mark_before-requires-clause-history
mark_before-requires-clause-history c = c.requires.history

pub mark_before-requires-clause-told : goal.mark_before-requires-clause-told
mark_before-requires-clause-told c =
    subst (λ t. IsToldBelow (nodes t) (nodes c.args.problem.now.table) c.args.trail.now c.args.reasons.now c.loop-index.classes.said (c.len-count.result - 1 - c.loop-index.index + 1)) (sym c.loop-index.invariant.table)
    (subst (λ n. IsToldBelow (nodes c.args.classes.now.table) (nodes c.args.problem.now.table) c.args.trail.now c.args.reasons.now c.loop-index.classes.said n) (down (length c.args.trail.now) c.loop-index.index c.len-count.result c.len-count.ensures c.loop-index-test.true) c.loop-index.invariant.told)

pub mark_before-requires-clause-explained : goal.mark_before-requires-clause-explained
mark_before-requires-clause-explained c =
    (subst (λ n. AreExplained (nodes c.args.problem.now.table) c.args.problem.now c.args.trail.now c.args.reasons.now c.loop-index.marks.items n) (down (length c.args.trail.now) c.loop-index.index c.len-count.result c.len-count.ensures c.loop-index-test.true) c.loop-index.invariant.explained)

pub loop-index-preserved : goal.loop-index-preserved
loop-index-preserved c =
    let next = further (length c.args.trail.now) c.loop-index.index c.len-count.result c.len-count.ensures c.loop-index-test.true in
    record {
      table = c.mark_before.ensures.table ∙ c.loop-index.invariant.table;
      told = subst (λ n. IsToldBelow (nodes c.args.classes.now.table) (nodes c.args.problem.now.table) c.args.trail.now c.args.reasons.now c.mark_before.new.classes.said n) next
          (subst (λ t. IsToldBelow (nodes t) (nodes c.args.problem.now.table) c.args.trail.now c.args.reasons.now c.mark_before.new.classes.said (c.len-count.result - 1 - c.loop-index.index)) c.loop-index.invariant.table c.in_ok-mark_before.ensures.told);
      explained = subst (λ n. AreExplained (nodes c.args.problem.now.table) c.args.problem.now c.args.trail.now c.args.reasons.now c.mark_before.new.marks.items n) next
          (c.in_ok-mark_before.ensures.explained);
    }

pub returns-clause-explained : goal.returns-clause-explained
returns-clause-explained c =
    let over : length c.args.trail.now - c.loop-index.index ≡ 0 = omega (arith, c.loop-index-test.false, c.len-count.ensures) in
    subst (λ n. AreExplained (nodes c.args.problem.now.table) c.args.problem.now c.args.trail.now c.args.reasons.now c.loop-index.marks.items n) over c.loop-index.invariant.explained

pub mark_before-requires-clause-problem : goal.mark_before-requires-clause-problem
mark_before-requires-clause-problem c = subst (λ t. IsProblem (nodes t) c.args.problem.now) (sym c.loop-index.invariant.table) c.requires.problem
