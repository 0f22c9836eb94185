use Rattle.std.proofs.Common.{refl, sym, ◌∙◌, subst, ℕ, List, take_all, arith, inl, inr}
use Rattle.jh_closure.specs.congruence_closure.Nodes.{Has}
use Rattle.jh_closure.proofs.congruence_closure.Having.{has-at}
use Rattle.jh_propagation.specs.propagation.Resting.{IsResting}
use Rattle.jh_propagation.proofs.propagation.Quieting.{take-has}
use Rattle.jh_propagation.proofs.propagation.Implied.{moved-twice}
use Rattle.jh_propagation.proofs.propagation.Longer.{longer-same, longer-twice}
use Rattle.jh_propagation.proofs.propagation.following.follow.Goals as goal

pub loop-index-init : goal.loop-index-init
loop-index-init c = record { branch = c.requires.branch; followed = λ k h. absurd h; moved = inl (refl, refl); longer = longer-same c.args.branch.now; classes = refl; head = refl; decisions = refl }

pub follow_one-requires-clause-branch : goal.follow_one-requires-clause-branch
follow_one-requires-clause-branch c = c.loop-index.invariant.branch

pub follow_one-requires-clause-atom : goal.follow_one-requires-clause-atom
follow_one-requires-clause-atom c = subst (λ (xs : List ℕ). Has xs c.atom_at.result) c.atoms-atoms.ensures (has-at c.atoms-atoms.result.now c.loop-index.index c.atom_at.result c.atom_at.ensures)

pub loop-index-preserved : goal.loop-index-preserved
loop-index-preserved c = record {
  branch = c.in_ok-follow_one.ensures.branch;
  followed = λ k h. elim (take-has c.atoms-atoms.result.now c.loop-index.index c.atom_at.result k c.atom_at.ensures h) [
    | inl old ↦ c.in_ok-follow_one.ensures.kept k (c.loop-index.invariant.followed k old)
    | inr e ↦ subst (IsResting c.args.problem.now c.follow_one.new.branch) e c.in_ok-follow_one.ensures.followed
  ];
  moved = moved-twice c.args.problem.now c.args.branch.now c.loop-index.branch c.follow_one.new.branch c.loop-index.invariant.moved c.in_ok-follow_one.ensures.moved;
  longer = longer-twice c.args.branch.now c.loop-index.branch c.follow_one.new.branch c.loop-index.invariant.longer c.in_ok-follow_one.ensures.longer;
  classes = c.in_ok-follow_one.ensures.classes ∙ c.loop-index.invariant.classes;
  head = c.in_ok-follow_one.ensures.head ∙ c.loop-index.invariant.head;
  decisions = c.in_ok-follow_one.ensures.decisions ∙ c.loop-index.invariant.decisions;
}

pub returns-clause-branch : goal.returns-clause-branch
returns-clause-branch c = c.loop-index.invariant.branch

pub returns-clause-followed : goal.returns-clause-followed
returns-clause-followed c = λ k h. c.loop-index.invariant.followed k (subst (λ (xs : List ℕ). Has xs k) (sym (take_all c.loop-index.index c.atoms-atoms.result.now (omega (arith, c.loop-index-test.false)) ∙ c.atoms-atoms.ensures)) h)

pub returns-clause-moved : goal.returns-clause-moved
returns-clause-moved c = c.loop-index.invariant.moved

pub returns-clause-longer : goal.returns-clause-longer
returns-clause-longer c = c.loop-index.invariant.longer

pub returns-clause-classes : goal.returns-clause-classes
returns-clause-classes c = c.loop-index.invariant.classes

pub returns-clause-head : goal.returns-clause-head
returns-clause-head c = c.loop-index.invariant.head

pub returns-clause-decisions : goal.returns-clause-decisions
returns-clause-decisions c = c.loop-index.invariant.decisions
