use Rattle.std.proofs.Common.{refl, sym, ◌∙◌, ◌∷◌, inr}
use Rattle.std.proofs.lemmas.Bool.{true≢false}
use Rattle.jh_cong.proofs.classes.Oks.{if-ok}
use Rattle.jh_arena.specs.table.Nodes.{nodes}
use Rattle.jh_propagation.specs.trail.Saying.{literals_at, opposite_of}
use Rattle.jh_explanations.proofs.Tests.{clash-front}
use Rattle.jh_explanations.proofs.testing.clashes.Goals as goal

pub is_forced-requires-clause-problem : goal.is_forced-requires-clause-problem
is_forced-requires-clause-problem c = c.requires.problem.posed

pub is_forced-requires-clause-none_false : goal.is_forced-requires-clause-none_false
is_forced-requires-clause-none_false c = λ h. c.requires.quiet.quiet (inr h)

pub returns-then-branch-clause-clash : goal.returns-then-branch-clause-clash
returns-then-branch-clause-clash c =
    (λ is. inr (c.in_ok-is_forced.ensures.0 c.if-branch.true), λ h. refl)

pub returns-clause-clash : goal.returns-clause-clash
returns-clause-clash c =
    let ts = nodes c.args.problem.now.table in
    let ls = literals_at ts (opposite_of c.args.literal ∷ c.args.trail.now) in
    if-ok c.is_equal.result (λ b f. clash-front ts c.args.problem.now ls b
    (λ h. true≢false (sym (c.in_ok-is_forced.ensures.1 h) ∙ c.if-branch.false))
    (f c.args.trail.now c.requires.quiet.spoken)) c.is_equal.ensures.unmet
