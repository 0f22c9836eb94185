use Rattle.std.proofs.Common.{sym, ap, ◌∙◌, subst, List, [], ◌∷◌, ◌++◌}
use Rattle.jh_cong.proofs.classes.Oks.{if-ok, on-ok}
use Rattle.jh_arena.specs.table.Nodes.{nodes}
use Rattle.jh_models.specs.ground_models.Clashes.{Clash}
use Rattle.jh_propagation.specs.declared.trail.decided.Decided.{Decided}
use Rattle.jh_propagation.specs.trail.Saying.{literals_at}
use Rattle.jh_propagation.specs.propagation.Problems.{instances_in}
use Rattle.jh_explanations.specs.Keeping.{IsQuiet, IsReady}
use Rattle.jh_explanations.proofs.Lists.{literals-more}
use Rattle.jh_explanations.proofs.Tests.{ok-both, ok-two}
use Rattle.jh_explanations.proofs.shortening.keep_step.Goals as goal

pub returns-clause-trail : goal.returns-clause-trail
returns-clause-trail c =
    let longer = ap (λ (xs : List Decided). xs ++ c.args.step.literal ∷ []) c.requires.trail ∙ sym (literals-more c.args.kept.now.items c.args.step) in
    on-ok c.keep.result (λ e. e ∙ longer) c.keep.ensures.trail

pub returns-clause-clash : goal.returns-clause-clash
returns-clause-clash c =
    let ts = nodes c.args.problem.now.table in
    let longer = ap (λ (xs : List Decided). xs ++ c.args.step.literal ∷ []) c.requires.trail ∙ sym (literals-more c.args.kept.now.items c.args.step) in
    if-ok c.keep.result (λ b f is. subst (λ (xs : List Decided). Clash (instances_in ts c.args.problem.now) (literals_at ts xs)) longer (f is)) c.keep.ensures.clash

pub returns-clause-quiet : goal.returns-clause-quiet
returns-clause-quiet c = ok-both c.keep.result (λ b e f is. subst (IsQuiet c.args.problem.now c.keep.new.classes) (sym e) (f is)) c.keep.ensures.trail c.keep.ensures.quiet

pub returns-clause-ready : goal.returns-clause-ready
returns-clause-ready c = ok-two c.keep.result (λ e r. subst (IsReady c.args.problem.now c.keep.new.classes) (sym e) r) c.keep.ensures.trail c.keep.ensures.ready
