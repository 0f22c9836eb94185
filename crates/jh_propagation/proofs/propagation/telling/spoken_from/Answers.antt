use Rattle.std.proofs.Common.{refl, sym, subst, ◌≤◌, ◌<◌, arith, List, [], length, drop, take, take_all, ◌+◌}
use Rattle.jh_closure.proofs.congruence_closure.Having.{has-at}
use Rattle.jh_arena.specs.table.Nodes.{nodes}
use Rattle.jh_cong.specs.declared.classes.literal.Said.{Said}
use Rattle.jh_propagation.specs.declared.trail.decided.Decided.{Decided}
use Rattle.jh_propagation.specs.propagation.Speaking.{AreSpoken}
use Rattle.jh_propagation.proofs.propagation.Lists.{drop-taken-start}
use Rattle.jh_propagation.proofs.propagation.Talking.{spoken-next}
use Rattle.jh_propagation.proofs.propagation.telling.spoken_from.Goals as goal

pub loop-place-init : goal.loop-place-init
loop-place-init c =
    let ts = nodes c.args.table.now in
    subst (λ (xs : List Said). AreSpoken ts (nodes c.args.problem.now.table) (drop c.args.start (take c.args.start c.args.trail.now)) xs) (sym c.new-batch.ensures.items)
    (subst (λ (xs : List Decided). AreSpoken ts (nodes c.args.problem.now.table) xs []) (sym (drop-taken-start c.args.trail.now c.args.start c.args.start refl)) tt)

pub spoken-requires-clause-atom : goal.spoken-requires-clause-atom
spoken-requires-clause-atom c = c.requires.atoms c.literal.result (has-at c.args.trail.now c.loop-place.place c.literal.result c.literal.ensures)

pub loop-place-preserved : goal.loop-place-preserved
loop-place-preserved c =
    let ts = nodes c.args.table.now in
    let low : c.args.start ≤ c.loop-place.place = omega (arith, c.loop-place.auto.place) in
    let lt : c.loop-place.place < length c.args.trail.now = omega (arith, c.loop-place-test.true, c.len-place-end.ensures) in
    subst (λ (xs : List Said). AreSpoken ts (nodes c.args.problem.now.table) (drop c.args.start (take (c.loop-place.place + 1) c.args.trail.now)) xs) (sym c.in_ok-push.ensures.items)
    (spoken-next ts (nodes c.args.problem.now.table) c.args.trail.now c.args.start c.loop-place.place c.literal.result c.loop-place.batch.items c.spoken.result low lt c.literal.ensures c.loop-place.invariant c.spoken.ensures.speaks)

pub returns : goal.returns
returns c =
    let full : length c.args.trail.now ≤ c.loop-place.place = omega (arith, c.loop-place-test.false, c.len-place-end.ensures) in
    subst (λ (xs : List Decided). AreSpoken (nodes c.args.table.now) (nodes c.args.problem.now.table) (drop c.args.start xs) c.loop-place.batch.items) (take_all c.loop-place.place c.args.trail.now full) c.loop-place.invariant
