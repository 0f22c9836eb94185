use Rattle.std.proofs.Common.{◌≡◌, refl, sym, ap, ◌∙◌, subst, arith, [], length, drop}
use Rattle.std.proofs.lemmas.Bool.Decides.{nat_tests}
use Rattle.jh_arena.specs.table.Nodes.{nodes}
use Rattle.jh_cong.specs.classes.Saying.{Asserted, IsUnmet}
use Rattle.jh_propagation.proofs.propagation.Fixes.{is-fixpoint, not-longer}
use Rattle.jh_propagation.proofs.propagation.Longer.{longer-same}
use Rattle.jh_propagation.proofs.propagation.Resting.{resting-unforced}
use Rattle.jh_propagation.proofs.propagation.propagating.is_fixed.Goals as goal

pub returns-clause-fixed : goal.returns-clause-fixed
returns-clause-fixed c = λ e.
    let old = c.args.branch.now in
    let new = c.follow.new.branch in
    let long : length new.trail ≡ length old.trail = sym c.len.ensures ∙ (grind (arith, nat_tests, e) ∙ c.len-count.ensures) in
    let same = not-longer c.args.problem.now old new long c.in_ok-follow.ensures.moved in
    let over : drop new.head new.waiting.items ≡ [] = (λ i. drop (c.in_ok-follow.ensures.head i) (same.1 i)) ∙ c.requires.over in
    let told : length new.classes.said ≡ length new.trail = ap (λ (a : Asserted). length a.said) c.in_ok-follow.ensures.classes ∙ (c.requires.told ∙ sym long) in
    let met = subst (λ (a : Asserted). IsUnmet (nodes a.table) a.said → ⊥) (sym c.in_ok-follow.ensures.classes) c.requires.met in
    record {
      branch = c.in_ok-follow.ensures.branch;
      over = over;
      rested = c.in_ok-follow.ensures.followed;
      fixpoint = is-fixpoint c.args.problem.now new c.in_ok-follow.ensures.branch over told met (λ k at. resting-unforced c.args.problem.now new k (c.in_ok-follow.ensures.followed k at));
    }

pub returns-then-quiet-clause-goes : goal.returns-then-quiet-clause-goes
returns-then-quiet-clause-goes c = record { table = refl; decisions = refl; longer = longer-same c.args.branch.now; count = omega arith }

pub returns-then-quiet-clause-fixed : goal.returns-then-quiet-clause-fixed
returns-then-quiet-clause-fixed c = λ e.
    let old = c.args.branch.now in
    let rested = c.requires.quiet c.if-quiet.true in
    record {
      branch = c.requires.branch;
      over = c.requires.over;
      rested = rested;
      fixpoint = is-fixpoint c.args.problem.now old c.requires.branch c.requires.over c.requires.told c.requires.met (λ k at. resting-unforced c.args.problem.now old k (rested k at));
    }
