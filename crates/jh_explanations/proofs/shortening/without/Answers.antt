use Rattle.std.proofs.Common.{◌∙◌, sym, ap, subst, List, arith}
use Rattle.jh_arena.specs.table.Nodes.{nodes}
use Rattle.jh_propagation.specs.propagation.Problems.{IsProblem}
use Rattle.jh_explanations.specs.declared.step.Step.{Step}
use Rattle.jh_explanations.specs.Keeping.{AreKept}
use Rattle.jh_explanations.specs.Steps.{literals_of}
use Rattle.jh_explanations.proofs.Keeps.{kept-first, shorter}
use Rattle.jh_explanations.proofs.shortening.without.Goals as goal

pub keep_first-requires-clause-problem : goal.keep_first-requires-clause-problem
keep_first-requires-clause-problem c = subst (λ t. IsProblem (nodes t) c.args.problem.now) (sym c.rewind-count.ensures.table) c.requires.problem

pub keep_first-requires-clause-quiet : goal.keep_first-requires-clause-quiet
keep_first-requires-clause-quiet c = c.rewind-count.ensures.quiet

pub keep_first-requires-clause-trail : goal.keep_first-requires-clause-trail
keep_first-requires-clause-trail c = c.rewind-count.ensures.trail ∙ ap literals_of (sym c.in_ok-kept.ensures)

pub keep_first-requires-clause-kept : goal.keep_first-requires-clause-kept
keep_first-requires-clause-kept c = c.in_ok-kept.ensures

pub returns-then-branch-clause-tried : goal.returns-then-branch-clause-tried
returns-then-branch-clause-tried c =
    let ts = nodes c.args.problem.now.table in
    let p = c.args.problem.now in
    let end = c.in_ok-keep_first.ensures.kept in
    let le = end.1.0 in
    shorter ts p c.requires.problem.posed c.nodes_differ.ensures.different c.most_is_kept.ensures c.args.steps.now c.requires.over c.args.out c.requires.out end.0 c.keep_first.new.kept.items
    (subst (λ (ks : List Step). AreKept ts p c.args.steps.now c.args.out end.0 ks) (sym end.1.1)
    (kept-first ts p c.requires.problem.posed c.nodes_differ.ensures.different c.most_is_kept.ensures c.args.steps.now c.requires.over c.args.out c.requires.out c.requires.following end.0 (omega (arith, le, c.steps_before-before.ensures.inside)) (λ n s lt. c.steps_before-before.ensures.before n s (omega (arith, lt, le)))))
    (c.in_ok-keep_first.ensures.clash c.if-branch.true)

pub keep_rest-requires-clause-problem : goal.keep_rest-requires-clause-problem
keep_rest-requires-clause-problem c = subst (λ t. IsProblem (nodes t) c.args.problem.now) (sym (c.keep_first.ensures.table ∙ c.rewind-count.ensures.table)) c.requires.problem

pub keep_rest-requires-clause-quiet : goal.keep_rest-requires-clause-quiet
keep_rest-requires-clause-quiet c = c.in_ok-keep_first.ensures.quiet c.if-branch.false

pub keep_rest-requires-clause-trail : goal.keep_rest-requires-clause-trail
keep_rest-requires-clause-trail c = c.in_ok-keep_first.ensures.trail

pub keep_rest-requires-clause-kept : goal.keep_rest-requires-clause-kept
keep_rest-requires-clause-kept c =
    let ts = nodes c.args.problem.now.table in
    let p = c.args.problem.now in
    subst (λ (ks : List Step). AreKept ts p c.args.steps.now c.args.out c.steps_before-before.result ks) (sym (c.in_ok-keep_first.ensures.all c.if-branch.false))
    (kept-first ts p c.requires.problem.posed c.nodes_differ.ensures.different c.most_is_kept.ensures c.args.steps.now c.requires.over c.args.out c.requires.out c.requires.following c.steps_before-before.result c.steps_before-before.ensures.inside c.steps_before-before.ensures.before)
