use Rattle.std.proofs.Common.{◌≡◌, refl, ap, ◌∙◌, subst, List, [], ◌∷◌, ◌++◌, None, slice_get, rules}
use Rattle.jh_name.specs.declared.place.MethodId.{MethodId}
use Rattle.jh_arena.specs.table.Entries.{the_truth}
use Rattle.jh_arena.specs.table.Nodes.{nodes}
use Rattle.jh_arena.proofs.table.Children.{it-is-truth}
use Rattle.jh_arena.proofs.table.Listed.{extends-refl, extends-trans}
use Rattle.jh_seq.specs.splitting.Split.{split_of}
use Rattle.jh_splitting.specs.declared.goals.Goal.{Goal}
use Rattle.jh_splitting.specs.Left.{GoalsLeft}
use Rattle.jh_splitting.proofs.Shapes.{formula-there}
use Rattle.jh_splitting.proofs.GoalSteps.{goals-start, goals-end, goals-there}
use Rattle.jh_splitting.proofs.splitting.split_all.Goals as goal

pub loop-turn-init : goal.loop-turn-init
loop-turn-init c =
    let x : Goal = record { node = c.args.node; mark = None; binders = None; facts = record { hyps = None; next = c.args.next } } in
    let one : c.push.new.self.items ≡ x ∷ [] = c.in_ok-push.ensures.items ∙ ap (λ (z : List Goal). z ++ x ∷ []) c.new-waiting.ensures.items in
    record {
      left = λ method. goals-start c.args.table.now c.args.lists.now method c.push.new.self.items c.args.made.now.items x (the_truth (slice_get (nodes c.args.table.now) c.args.node)) one c.requires.none refl refl refl
          (it-is-truth (slice_get (nodes c.args.table.now) c.args.node) c.requires.there);
      grows = extends-refl c.args.table.now;
    }

pub returns-in-None-clause-sequents : goal.returns-in-None-clause-sequents
returns-in-None-clause-sequents c = λ method.
    let none : c.loop-turn.waiting.items ≡ [] = search rules in
    goals-end c.loop-turn.table c.loop-turn.lists method c.loop-turn.waiting.items c.loop-turn.made.items (split_of method (the_truth (slice_get (nodes c.args.table.now) c.args.node)) c.args.next) none (c.loop-turn.invariant.left method)

pub split_one-requires : goal.split_one-requires
split_one-requires c =
    let t0 = c.loop-turn.table in
    let l0 = c.loop-turn.lists in
    let method : MethodId = record { class = 0; method = 0 } in
    let total = split_of method (the_truth (slice_get (nodes c.args.table.now) c.args.node)) c.args.next in
    let left = subst (λ (z : List Goal). GoalsLeft t0 l0 method z c.loop-turn.made.items total) c.in-Some.ensures.items (c.loop-turn.invariant.left method) in
    let there = goals-there t0 l0 method c.pop.new.self.items c.in-Some.goal c.loop-turn.made.items total left in
    record { there = formula-there (nodes t0) c.in-Some.goal.node there.0.formula there.1.formula; some = (method, total, left) }

pub loop-turn-preserved : goal.loop-turn-preserved
loop-turn-preserved c =
    let t0 = c.loop-turn.table in
    let l0 = c.loop-turn.lists in
    record {
      left = λ method. c.in_ok-split_one-in-Some.ensures.left method (split_of method (the_truth (slice_get (nodes c.args.table.now) c.args.node)) c.args.next)
          (subst (λ (z : List Goal). GoalsLeft t0 l0 method z c.loop-turn.made.items (split_of method (the_truth (slice_get (nodes c.args.table.now) c.args.node)) c.args.next)) c.in-Some.ensures.items (c.loop-turn.invariant.left method));
      grows = extends-trans c.args.table.now t0 c.split_one.new.table c.loop-turn.invariant.grows c.split_one.ensures.grows;
    }
