use Rattle.std.proofs.Common.{sym, subst, List}
use Rattle.jh_arena.specs.table.Nodes.{nodes}
use Rattle.jh_explanations.specs.declared.step.Step.{Step}
use Rattle.jh_explanations.specs.Keeping.{AreFollowing, IsTried, kept_items}
use Rattle.jh_explanations.specs.Steps.{literals_of, AreOverAtoms}
use Rattle.jh_explanations.proofs.Keeps.{tries-whole, tries-shorter}
use Rattle.jh_explanations.proofs.shortening.taken_out.Goals as goal

pub without-requires-clause-over : goal.without-requires-clause-over
without-requires-clause-over c = subst (λ (xs : List Step). AreOverAtoms c.args.problem.now.ground (literals_of xs)) (sym c.as_slice.ensures.value) c.requires.over

pub returns-in-Some-clause-tries : goal.returns-in-Some-clause-tries
returns-in-Some-clause-tries c =
    let ts = nodes c.args.problem.now.table in
    let p = c.args.problem.now in
    let tried = subst (λ (xs : List Step). IsTried ts p xs c.args.out (kept_items c.in_ok-found.found)) c.as_slice.ensures.value c.in_ok-found.ensures.tried in
    let shorter = subst (λ o. IsTried ts p c.args.steps.items c.args.out (kept_items o)) c.in-Some.is tried in
    λ ds before h. tries-shorter ts p c.requires.problem.posed c.nodes_differ.ensures.different c.shortening_is_exact.ensures c.most_is_kept.ensures ds before c.args.steps.items c.args.out h c.requires.out c.in-Some.kept.items shorter

pub returns-in-None-clause-tries : goal.returns-in-None-clause-tries
returns-in-None-clause-tries c =
    let ts = nodes c.args.problem.now.table in
    let p = c.args.problem.now in
    let tried = subst (λ (xs : List Step). IsTried ts p xs c.args.out (kept_items c.in_ok-found.found)) c.as_slice.ensures.value c.in_ok-found.ensures.tried in
    let whole = subst (λ o. IsTried ts p c.args.steps.items c.args.out (kept_items o)) c.in-None.is tried in
    λ ds before h. tries-whole ts p c.requires.problem.posed c.nodes_differ.ensures.different c.shortening_is_exact.ensures c.most_is_kept.ensures ds before c.args.steps.items c.args.out h c.requires.out whole

pub without-requires-clause-following : goal.without-requires-clause-following
without-requires-clause-following c = subst (λ (xs : List Step). AreFollowing (nodes c.args.problem.now.table) c.args.problem.now xs) (sym c.as_slice.ensures.value) c.requires.following
