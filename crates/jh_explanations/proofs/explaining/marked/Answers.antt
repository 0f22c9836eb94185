use Rattle.std.proofs.Common.{sym, subst, length, List}
use Rattle.jh_cong.proofs.classes.Oks.{if-ok}
use Rattle.jh_arena.specs.table.Nodes.{nodes}
use Rattle.jh_propagation.specs.declared.propagation.branch.Reason.{Reason}
use Rattle.jh_explanations.specs.Marks.{AreExplained}
use Rattle.jh_explanations.specs.Resting.{IsHistory, IsToldBelow}
use Rattle.jh_explanations.proofs.Follows.{history-of, told-of}
use Rattle.jh_explanations.proofs.explaining.marked.Goals as goal

pub marks_of-requires-clause-history : goal.marks_of-requires-clause-history
marks_of-requires-clause-history c =
    let b = c.args.branch.now in
    subst (λ (xs : List Reason). IsHistory (nodes c.args.problem.now.table) c.args.problem.now b.trail xs) (sym c.as_slice.ensures.value) (history-of c.args.problem.now c.requires.branch.0 b c.requires.branch.1)

pub marks_of-requires-clause-told : goal.marks_of-requires-clause-told
marks_of-requires-clause-told c =
    let b = c.args.branch.now in
    subst (λ (xs : List Reason). IsToldBelow (nodes b.classes.table) (nodes c.args.problem.now.table) b.trail xs b.classes.said (length b.trail)) (sym c.as_slice.ensures.value) (told-of c.args.problem.now c.requires.branch.0 b c.requires.branch.1)

pub returns-clause-explained : goal.returns-clause-explained
returns-clause-explained c =
    let b = c.args.branch.now in
    if-ok c.marks_of.result (λ marks h. subst (λ (xs : List Reason). AreExplained (nodes c.args.problem.now.table) c.args.problem.now b.trail xs marks.items 0) c.as_slice.ensures.value h) c.marks_of.ensures.explained
