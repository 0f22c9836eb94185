use Rattle.std.proofs.Common.{refl, sym, ◌∙◌, subst, ℕ, List, take_all, arith}
use Rattle.std.proofs.lemmas.Bool.{true≢false}
use Rattle.jh_closure.specs.congruence_closure.Nodes.{Has}
use Rattle.jh_closure.proofs.congruence_closure.Having.{has-at}
use Rattle.jh_arena.specs.table.Nodes.{nodes}
use Rattle.jh_propagation.specs.trail.Saying.{literals_at}
use Rattle.jh_explanations.proofs.Tests.{none-more}
use Rattle.jh_explanations.proofs.keeping.some_false.Goals as goal

pub loop-index-init : goal.loop-index-init
loop-index-init c = λ place n h e f. absurd h

pub instance_at-requires : goal.instance_at-requires
instance_at-requires c = c.requires.occurrences.inside c.args.atom c.place_at.result (subst (λ (xs : List ℕ). Has xs c.place_at.result) c.places-places.ensures (has-at c.places-places.result.now c.loop-index.index c.place_at.result c.place_at.ensures))

pub is_false-requires : goal.is_false-requires
is_false-requires c = c.requires.truths c.instance_at.result (has-at c.args.problem.now.instances.items c.place_at.result c.instance_at.result c.instance_at.ensures)

pub loop-index-preserved : goal.loop-index-preserved
loop-index-preserved c =
    let ts = nodes c.args.table.now in
    none-more ts (literals_at ts c.args.trail.now) c.args.problem.now.instances.items c.places-places.result.now c.loop-index.index c.place_at.result c.instance_at.result c.place_at.ensures c.instance_at.ensures (λ f. true≢false (sym (c.in_ok-is_false.ensures.1 f) ∙ c.if-branch.false)) c.loop-index.invariant

pub returns-then-branch : goal.returns-then-branch
returns-then-branch c = (
  λ is. record {
    place = c.place_at.result;
    there = subst (λ (xs : List ℕ). Has xs c.place_at.result) c.places-places.ensures (has-at c.places-places.result.now c.loop-index.index c.place_at.result c.place_at.ensures);
    is_false = record { instance = c.instance_at.result; here = c.instance_at.ensures; is_false = c.in_ok-is_false.ensures.0 c.if-branch.true };
  },
  λ h. refl,
)

pub returns : goal.returns
returns c = (λ is. absurd (true≢false (sym is)), λ h. absurd (c.loop-index.invariant h.place h.is_false.instance (subst (λ (xs : List ℕ). Has xs h.place) (sym (take_all c.loop-index.index c.places-places.result.now (omega (arith, c.loop-index-test.false)) ∙ c.places-places.ensures)) h.there) h.is_false.here h.is_false.is_false))
