use Rattle.std.proofs.Common.{sym, ap, ◌∙◌, subst, ◌+◌, Some, arith, List}
use Rattle.jh_cong.proofs.classes.Oks.{on-ok}
use Rattle.jh_arena.specs.table.Nodes.{nodes}
use Rattle.jh_explanations.specs.declared.step.Step.{Step}
use Rattle.jh_explanations.specs.Marks.{AreGathered}
use Rattle.jh_explanations.proofs.Gathered.{gathered-next, gathered-more}
use Rattle.jh_explanations.proofs.explaining.add_marked.Goals as goal

pub is_marked-requires : goal.is_marked-requires
is_marked-requires c = omega (arith, c.requires.inside, c.requires.explained.long)

pub returns-then-is_marked : goal.returns-then-is_marked
returns-then-is_marked c =
    let b = c.args.branch.now in
    let ts = nodes c.args.problem.now.table in
    on-ok c.add.result (λ e. subst (λ (xs : List Step). AreGathered ts c.args.problem.now b.decisions.items b.trail c.args.marks.now (c.args.place + 1) xs) (sym e)
    (gathered-more ts c.args.problem.now b.trail b.reasons.items b.decisions.items c.most_is_kept.ensures c.requires.history c.requires.decided c.decides_once.ensures c.args.marks.now c.requires.explained c.args.place c.args.steps.now.items c.requires.gathered c.step_of.result c.step_of.ensures.literal (c.is_marked.ensures ∙ ap Some c.if-is_marked.true) c.step_of.ensures.marked)) c.add.ensures

pub returns-else-is_marked : goal.returns-else-is_marked
returns-else-is_marked c =
    let b = c.args.branch.now in
    gathered-next (nodes c.args.problem.now.table) c.args.problem.now b.trail b.reasons.items b.decisions.items c.most_is_kept.ensures c.requires.history c.requires.decided c.decides_once.ensures c.args.marks.now c.requires.explained c.args.place c.args.steps.now.items c.requires.gathered (c.is_marked.ensures ∙ ap Some c.if-is_marked.false)
