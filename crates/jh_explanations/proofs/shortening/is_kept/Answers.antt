use Rattle.std.proofs.Common.{sym, ◌∙◌, inl}
use Rattle.std.proofs.lemmas.Bool.{true≢false}
use Rattle.jh_cong.proofs.classes.Oks.{if-ok}
use Rattle.jh_arena.specs.table.Nodes.{nodes}
use Rattle.jh_explanations.proofs.Keeps.{asked-kept}
use Rattle.jh_explanations.proofs.shortening.is_kept.Goals as goal

pub returns-then-is_one-clause-stands : goal.returns-then-is_one-clause-stands
returns-then-is_one-clause-stands c = inl (c.is_one.ensures.0 c.if-is_one.true)

pub returns-then-step-clause-stands : goal.returns-then-step-clause-stands
returns-then-step-clause-stands c = ((λ same. true≢false (sym (c.is_one.ensures.1 same) ∙ c.if-is_one.false)), inl c.if-step.true)

pub returns-clause-stands : goal.returns-clause-stands
returns-clause-stands c = if-ok c.clashes.result (λ b h. asked-kept (nodes c.args.problem.now.table) c.args.problem.now c.args.trail.now c.args.step c.args.out b (λ same. true≢false (sym (c.is_one.ensures.1 same) ∙ c.if-is_one.false)) c.if-step.false h) c.clashes.ensures.clash
