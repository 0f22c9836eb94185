use Rattle.std.proofs.Common.{refl, sym, ◌∙◌, subst, ◌∷◌, ℕ, List, take_all, arith}
use Rattle.std.proofs.lemmas.Bool.{true≢false}
use Rattle.jh_closure.specs.congruence_closure.Nodes.{Has}
use Rattle.jh_closure.proofs.congruence_closure.Having.{has-at}
use Rattle.jh_arena.specs.table.Nodes.{nodes}
use Rattle.jh_propagation.specs.trail.Saying.{literals_at, opposite_of}
use Rattle.jh_explanations.proofs.Falses.{at-false}
use Rattle.jh_explanations.proofs.Tests.{none-forced, none-more}
use Rattle.jh_explanations.proofs.testing.is_forced.Goals as goal

pub loop-index-init : goal.loop-index-init
loop-index-init c = λ place n h e f. absurd h

pub instance_at-requires : goal.instance_at-requires
instance_at-requires c = c.requires.problem.occurrences.inside c.args.literal.atom c.place_at.result (subst (λ (xs : List ℕ). Has xs c.place_at.result) c.places-places.ensures (has-at c.places-places.result.now c.loop-index.index c.place_at.result c.place_at.ensures))

pub forces-requires : goal.forces-requires
forces-requires c = c.requires.problem.truths c.instance_at.result (has-at c.args.problem.now.instances.items c.place_at.result c.instance_at.result c.instance_at.ensures)

pub loop-index-preserved : goal.loop-index-preserved
loop-index-preserved c =
    let ts = nodes c.args.table.now in
    none-more ts (literals_at ts (opposite_of c.args.literal ∷ c.args.trail.now)) c.args.problem.now.instances.items c.places-places.result.now c.loop-index.index c.place_at.result c.instance_at.result c.place_at.ensures c.instance_at.ensures (λ f. true≢false (sym (c.in_ok-forces.ensures.1 f) ∙ c.if-branch.false)) c.loop-index.invariant

pub returns-then-branch : goal.returns-then-branch
returns-then-branch c =
    let ts = nodes c.args.table.now in
    (λ is. at-false ts (literals_at ts (opposite_of c.args.literal ∷ c.args.trail.now)) c.args.problem.now.instances.items c.place_at.result c.instance_at.result c.instance_at.ensures (c.in_ok-forces.ensures.0 c.if-branch.true), λ h. refl)

pub returns : goal.returns
returns c =
    let ts = nodes c.args.table.now in (
      λ is. absurd (true≢false (sym is)),
      λ h. absurd (none-forced ts c.args.problem.now c.requires.problem c.forced_stands.ensures c.args.trail.now c.args.literal c.requires.atom c.requires.none_false
          (λ place n g e f. c.loop-index.invariant place n (subst (λ (xs : List ℕ). Has xs place) (sym (take_all c.loop-index.index c.places-places.result.now (omega (arith, c.loop-index-test.false)) ∙ c.places-places.ensures)) g) e f) h),
    )
