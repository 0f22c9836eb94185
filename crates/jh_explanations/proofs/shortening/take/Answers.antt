use Rattle.std.proofs.Common.{refl, sym, ap, ◌∙◌, subst, true, false, List, ◌+◌}
use Rattle.jh_closure.proofs.congruence_closure.Having.{has-at}
use Rattle.jh_cong.proofs.classes.Oks.{on-ok}
use Rattle.jh_arena.specs.table.Nodes.{nodes}
use Rattle.jh_models.specs.ground_models.Clashes.{Clash}
use Rattle.jh_propagation.specs.declared.trail.decided.Decided.{Decided}
use Rattle.jh_propagation.specs.trail.Listing.{IsUndecided}
use Rattle.jh_propagation.specs.propagation.Problems.{IsProblem, instances_in}
use Rattle.jh_explanations.specs.declared.step.Step.{Step}
use Rattle.jh_explanations.specs.Keeping.{IsQuiet, IsKept, AreKept}
use Rattle.jh_explanations.specs.Steps.{literals_of, trees_of}
use Rattle.jh_explanations.proofs.Lists.{has-literal}
use Rattle.jh_explanations.proofs.Keeps.{kept-more, kept-less, new-literal}
use Rattle.jh_explanations.proofs.Readiness.{ready-quiet}
use Rattle.jh_explanations.proofs.Tests.{ok-both, ok-two}
use Rattle.jh_explanations.proofs.shortening.take.Goals as goal

pub is_kept-requires-clause-atom : goal.is_kept-requires-clause-atom
is_kept-requires-clause-atom c = c.requires.over.over_atoms c.step_at-step.result.literal (has-literal c.args.steps.now c.step_at-step.result (has-at c.args.steps.now c.args.index c.step_at-step.result c.step_at-step.ensures))

pub keep_step-requires-clause-problem : goal.keep_step-requires-clause-problem
keep_step-requires-clause-problem c = subst (λ t. IsProblem (nodes t) c.args.problem.now) (sym c.is_kept.ensures.table) c.requires.problem

pub keep_step-requires-clause-atom : goal.keep_step-requires-clause-atom
keep_step-requires-clause-atom c = c.requires.over.over_atoms c.step_at-step.result.literal (has-literal c.args.steps.now c.step_at-step.result (has-at c.args.steps.now c.args.index c.step_at-step.result c.step_at-step.ensures))

pub keep_step-requires-clause-quiet : goal.keep_step-requires-clause-quiet
keep_step-requires-clause-quiet c = subst (λ X. X) (λ i. IsQuiet c.args.problem.now (sym c.in_ok-keeps.ensures.classes i) c.args.trail.now) c.requires.quiet

pub keep_step-requires-clause-undecided : goal.keep_step-requires-clause-undecided
keep_step-requires-clause-undecided c =
    subst (λ (xs : List Decided). IsUndecided xs c.step_at-step.result.literal.atom) (sym c.requires.trail)
    (new-literal (nodes c.args.problem.now.table) c.args.problem.now c.requires.problem.posed c.nodes_differ.ensures.different c.most_is_kept.ensures c.args.steps.now c.requires.over c.args.out c.requires.out c.args.index c.args.kept.now.items c.requires.kept c.step_at-step.result c.step_at-step.ensures)

pub keep_step-requires-clause-trail : goal.keep_step-requires-clause-trail
keep_step-requires-clause-trail c = c.requires.trail

pub returns-then-keeps-clause-trail : goal.returns-then-keeps-clause-trail
returns-then-keeps-clause-trail c = ok-two c.keep_step.result (λ e f. e ∙ ap literals_of (sym f)) c.keep_step.ensures.trail c.keep_step.ensures.kept

pub returns-then-keeps-clause-kept : goal.returns-then-keeps-clause-kept
returns-then-keeps-clause-kept c =
    let ts = nodes c.args.problem.now.table in
    let p = c.args.problem.now in
    let may = subst (λ (xs : List Decided). IsKept ts p xs c.step_at-step.result c.args.out true) c.requires.trail (subst (IsKept ts p c.args.trail.now c.step_at-step.result c.args.out) c.if-keeps.true c.in_ok-keeps.ensures.stands) in
    on-ok c.keep_step.result (λ f. subst (λ (ks : List Step). AreKept ts p c.args.steps.now c.args.out (c.args.index + 1) ks) (sym f)
    (kept-more ts p c.requires.problem.posed c.nodes_differ.ensures.different c.most_is_kept.ensures c.args.steps.now c.requires.over c.args.out c.requires.out c.args.index c.args.kept.now.items c.requires.kept c.step_at-step.result c.step_at-step.ensures may)) c.keep_step.ensures.kept

pub returns-then-keeps-clause-clash : goal.returns-then-keeps-clause-clash
returns-then-keeps-clause-clash c =
    let p = c.args.problem.now in
    let ts = nodes c.args.problem.now.table in
    ok-both c.keep_step.result (λ b e f is. subst (λ (ks : List Step). Clash (instances_in ts p) (trees_of ts ks)) (sym e) ((f is))) c.keep_step.ensures.kept c.keep_step.ensures.clash

pub returns-else-keeps-clause-trail : goal.returns-else-keeps-clause-trail
returns-else-keeps-clause-trail c = c.requires.trail

pub returns-else-keeps-clause-kept : goal.returns-else-keeps-clause-kept
returns-else-keeps-clause-kept c =
    let ts = nodes c.args.problem.now.table in
    let p = c.args.problem.now in
    let why = subst (λ (xs : List Decided). IsKept ts p xs c.step_at-step.result c.args.out false) c.requires.trail (subst (IsKept ts p c.args.trail.now c.step_at-step.result c.args.out) c.if-keeps.false c.in_ok-keeps.ensures.stands) in
    kept-less ts p c.requires.problem.posed c.nodes_differ.ensures.different c.most_is_kept.ensures c.args.steps.now c.requires.over c.args.out c.requires.out c.args.index c.args.kept.now.items c.requires.kept c.step_at-step.result c.step_at-step.ensures why

pub returns-else-keeps-clause-quiet : goal.returns-else-keeps-clause-quiet
returns-else-keeps-clause-quiet c = λ e. subst (λ X. X) (λ i. IsQuiet c.args.problem.now (sym c.in_ok-keeps.ensures.classes i) c.args.trail.now) c.requires.quiet

pub returns-else-keeps-clause-ready : goal.returns-else-keeps-clause-ready
returns-else-keeps-clause-ready c = ready-quiet c.args.problem.now c.is_kept.new.classes c.args.trail.now (returns-else-keeps-clause-quiet c refl)
