use Rattle.std.proofs.Common.{arith, refl, ap, ◌∙◌, ◌-◌, ◌∷◌, [], ◌++◌, length, slice_index_or, rules}
use Rattle.jh_splitting.proofs.Closings.{at-place}
use Rattle.jh_splitting.proofs.GoalSteps.{wait-start, wait-step, wait-end}
use Rattle.jh_splitting.proofs.goals.wait_for_all.Goals as goal

pub goals-init : goal.goals-init
goals-init c = record { within = omega arith; waits = wait-start c.args.goal c.args.nodes.now (length c.args.nodes.now) c.args.waiting.now.items refl }

pub goals-preserved : goal.goals-preserved
goals-preserved c = record {
  within = search (rules, arith);
  waits = wait-step c.args.goal c.args.nodes.now (c.goals.at - 1) c.goals.at (slice_index_or c.args.nodes.now (c.goals.at - 1) 0) c.args.waiting.now.items c.goals.waiting.items c.push.new.self.items (search arith)
      (at-place c.args.nodes.now (c.goals.at - 1) 0 (search arith)) c.goals.invariant.waits (c.in_ok-push.ensures.items ∙ ap (λ x. c.goals.waiting.items ++ x ∷ []) c.closed_goal.ensures);
}

pub returns : goal.returns
returns c = wait-end c.args.goal c.args.nodes.now c.goals.at c.args.waiting.now.items c.goals.waiting.items (search arith) c.goals.invariant.waits
