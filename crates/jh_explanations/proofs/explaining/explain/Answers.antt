use Rattle.std.proofs.Common.{sym, subst, length}
use Rattle.jh_cong.proofs.classes.Oks.{if-ok}
use Rattle.jh_arena.specs.table.Nodes.{nodes}
use Rattle.jh_explanations.specs.Marks.{AreExplained, AreGathered}
use Rattle.jh_explanations.specs.Resting.{IsHistory, AreDecided}
use Rattle.jh_explanations.proofs.Follows.{history-of, decided-of}
use Rattle.jh_explanations.proofs.Gathered.{gathered-close, gathered-right}
use Rattle.jh_explanations.proofs.explaining.explain.Goals as goal

pub gather-requires-clause-history : goal.gather-requires-clause-history
gather-requires-clause-history c =
    let e = c.marked.ensures in
    subst (λ X. X) (λ i. IsHistory (nodes c.args.problem.now.table) c.args.problem.now (sym e.trail i) (sym e.reasons i)) (history-of c.args.problem.now c.requires.branch.0 c.args.branch.now c.requires.branch.1)

pub gather-requires-clause-decided : goal.gather-requires-clause-decided
gather-requires-clause-decided c =
    let e = c.marked.ensures in
    subst (λ X. X) (λ i. AreDecided (sym e.decisions i) (sym e.trail i) (sym e.reasons i)) (decided-of c.args.problem.now c.requires.branch.0 c.args.branch.now c.requires.branch.1)

pub gather-requires-clause-explained : goal.gather-requires-clause-explained
gather-requires-clause-explained c =
    let e = c.marked.ensures in
    subst (λ xs. AreExplained (nodes c.args.problem.now.table) c.args.problem.now c.marked.new.branch.trail c.marked.new.branch.reasons.items xs 0) (sym c.as_slice.ensures.value)
    (subst (λ X. X) (λ i. AreExplained (nodes c.args.problem.now.table) c.args.problem.now (sym e.trail i) (sym e.reasons i) c.in_ok-marks.marks.items 0) c.in_ok-marks.ensures.explained)

pub returns-clause-closes : goal.returns-clause-closes
returns-clause-closes c =
    let b = c.args.branch.now in
    let e = c.marked.ensures in
    let h = c.requires.branch.1 in
    let p = c.args.problem.now in
    let busy = c.requires.branch.0 in
    if-ok c.gather.result (λ steps g. gathered-close (nodes c.args.problem.now.table) p b.trail b.reasons.items b.decisions.items c.most_is_kept.ensures (history-of p busy b h) (decided-of p busy b h) c.decides_once.ensures c.in_ok-marks.marks.items c.in_ok-marks.ensures.explained steps.items
    (subst (λ X. X) (λ i. AreGathered (nodes c.args.problem.now.table) p (e.decisions i) (e.trail i) (c.as_slice.ensures.value i) (length (e.trail i)) steps.items) g)) c.gather.ensures

pub returns-clause-right : goal.returns-clause-right
returns-clause-right c =
    let b = c.args.branch.now in
    let e = c.marked.ensures in
    let h = c.requires.branch.1 in
    let p = c.args.problem.now in
    let busy = c.requires.branch.0 in
    if-ok c.gather.result (λ steps g. gathered-right (nodes c.args.problem.now.table) p b.trail b.reasons.items b.decisions.items c.most_is_kept.ensures (history-of p busy b h) (decided-of p busy b h) c.decides_once.ensures c.in_ok-marks.marks.items c.in_ok-marks.ensures.explained steps.items
    (subst (λ X. X) (λ i. AreGathered (nodes c.args.problem.now.table) p (e.decisions i) (e.trail i) (c.as_slice.ensures.value i) (length (e.trail i)) steps.items) g) h.decided) c.gather.ensures
