use Rattle.std.proofs.Common.{refl, sym, ◌∙◌, subst, ◌+◌, ◌≤◌, length, arith}
use Rattle.jh_arena.specs.table.Nodes.{nodes}
use Rattle.jh_models.specs.ground_models.Clashes.{Clash}
use Rattle.jh_propagation.specs.trail.Saying.{literals_at}
use Rattle.jh_propagation.specs.propagation.Problems.{IsProblem, instances_in}
use Rattle.jh_explanations.proofs.Keeps.{whole, shorter}
use Rattle.jh_explanations.proofs.Readiness.{ready-quiet}
use Rattle.jh_explanations.proofs.shortening.keep_rest.Goals as goal

pub loop-index-init : goal.loop-index-init
loop-index-init c = record { table = refl; trail = c.requires.trail; quiet = c.requires.quiet; kept = c.requires.kept }

pub take-requires-clause-problem : goal.take-requires-clause-problem
take-requires-clause-problem c = subst (λ t. IsProblem (nodes t) c.args.problem.now) (sym c.loop-index.invariant.table) c.requires.problem

pub take-requires-clause-quiet : goal.take-requires-clause-quiet
take-requires-clause-quiet c = c.loop-index.invariant.quiet

pub take-requires-clause-trail : goal.take-requires-clause-trail
take-requires-clause-trail c = c.loop-index.invariant.trail

pub take-requires-clause-kept : goal.take-requires-clause-kept
take-requires-clause-kept c = c.loop-index.invariant.kept

pub loop-index-preserved : goal.loop-index-preserved
loop-index-preserved c = record {
  table = c.take.ensures.table ∙ c.loop-index.invariant.table;
  trail = c.in_ok-clash.ensures.trail;
  quiet = c.in_ok-clash.ensures.quiet c.if-clash.false;
  kept = c.in_ok-clash.ensures.kept;
}

pub returns-then-clash-clause-shorter : goal.returns-then-clash-clause-shorter
returns-then-clash-clause-shorter c = λ is.
    let ts = nodes c.args.problem.now.table in
    let p = c.args.problem.now in
    shorter ts p c.requires.problem.posed c.nodes_differ.ensures.different c.most_is_kept.ensures c.args.steps.now c.requires.over c.args.out c.requires.out (c.loop-index.index + 1) c.take.new.kept.items
    (c.in_ok-clash.ensures.kept)
    ((c.in_ok-clash.ensures.clash c.if-clash.true))

pub returns-clause-whole : goal.returns-clause-whole
returns-clause-whole c = λ is.
    let ts = nodes c.args.problem.now.table in
    let p = c.args.problem.now in
    let low : c.loop-index.index ≤ length c.args.steps.now = omega (arith, c.loop-index, c.requires.inside) in
    whole ts p c.requires.problem.posed c.nodes_differ.ensures.different c.most_is_kept.ensures c.args.steps.now c.requires.over c.args.out c.requires.out c.loop-index.index c.loop-index.kept.items (omega (arith, c.loop-index-test.false, low)) c.loop-index.invariant.kept
    (subst (λ X. X → ⊥) (λ i. Clash (instances_in (nodes c.args.problem.now.table) p) (literals_at (nodes c.args.problem.now.table) (c.loop-index.invariant.trail i))) c.loop-index.invariant.quiet.quiet)

pub returns-then-clash-clause-ready : goal.returns-then-clash-clause-ready
returns-then-clash-clause-ready c = c.in_ok-clash.ensures.ready

pub returns-clause-ready : goal.returns-clause-ready
returns-clause-ready c = ready-quiet c.args.problem.now c.loop-index.classes c.loop-index.trail c.loop-index.invariant.quiet
