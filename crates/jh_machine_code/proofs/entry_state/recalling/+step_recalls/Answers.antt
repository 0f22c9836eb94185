use Rattle.std.proofs.Common.{◌≡◌, sym, ap, ◌∙◌, ◌+◌, true, ◌&&◌, List, drop}
use Rattle.std.proofs.lemmas.List.{drop_all}
use Rattle.jh_machine_code.specs.declared.code.step.Step.{Step}
use Rattle.jh_machine_code.specs.entry_state.Now.{reads_now, step_now, steps_now}
use Rattle.jh_machine_code.proofs.entry_state.RecallSteps.{left-at}
use Rattle.jh_machine_code.proofs.entry_state.Unkept.{block-now, branch-now, loop-now, ask-now, ghost-now, ghost_at-now, empty-now, assign-now, new-now, call-now, return-now}
use Rattle.jh_machine_code.proofs.entry_state.recalling.+step_recalls.Goals as goal

pub step_recalls-returns-in-Block : goal.step_recalls-returns-in-Block
step_recalls-returns-in-Block t c = λ no.
    let table = c.args.table.now in
    ap (step_now table) c.in-Block.is ∙ block-now table c.in-Block.steps ∙ ap (steps_now table) (sym c.items.ensures) ∙ c.steps_recall.ensures no

pub step_recalls-returns-else-step_recalls : goal.step_recalls-returns-else-step_recalls
step_recalls-returns-else-step_recalls t c = λ no.
    let table = c.args.table.now in
    let first : step_now table c.in-Branch.first.value ≡ true = ap (step_now table) (sym c.deref.ensures) ∙ c.step_recalls.ensures c.if-step_recalls.false in
    let second : steps_now table c.in-Branch.second ≡ true = ap (steps_now table) (sym c.items-else-step_recalls.ensures) ∙ c.steps_recall-else-step_recalls.ensures no in
    ap (step_now table) c.in-Branch.is ∙ branch-now table c.in-Branch.field-0 c.in-Branch.first c.in-Branch.second ∙ (λ i. first i && second i)

pub step_recalls-returns-in-Loop : goal.step_recalls-returns-in-Loop
step_recalls-returns-in-Loop t c = λ no.
    let table = c.args.table.now in
    ap (step_now table) c.in-Loop.is ∙ loop-now table c.in-Loop.field-0 c.in-Loop.body ∙ ap (step_now table) (sym c.deref-in-Loop.ensures) ∙ c.step_recalls-in-Loop.ensures no

pub step_recalls-returns-in-Ask : goal.step_recalls-returns-in-Ask
step_recalls-returns-in-Ask t c = λ no.
    let table = c.args.table.now in
    ap (step_now table) c.in-Ask.is ∙ ask-now table c.in-Ask.field-0 c.in-Ask.node ∙ c.node_recalls.ensures no

pub step_recalls-returns-in-Ghost : goal.step_recalls-returns-in-Ghost
step_recalls-returns-in-Ghost t c = λ no.
    let table = c.args.table.now in
    ap (step_now table) c.in-Ghost.is ∙ ghost-now table c.in-Ghost.field-0 c.in-Ghost.field-1 c.in-Ghost.node ∙ c.node_recalls-in-Ghost.ensures no

pub step_recalls-returns-else-node_recalls : goal.step_recalls-returns-else-node_recalls
step_recalls-returns-else-node_recalls t c = λ no.
    let table = c.args.table.now in
    let object : reads_now table c.in-GhostAt.assigned.object ≡ true = c.node_recalls-in-GhostAt.ensures c.if-node_recalls.false in
    let value : reads_now table c.in-GhostAt.assigned.value ≡ true = c.node_recalls-else-node_recalls.ensures no in
    ap (step_now table) c.in-GhostAt.is ∙ ghost_at-now table c.in-GhostAt.assigned ∙ (λ i. object i && value i)

pub step_recalls-returns-in-Empty : goal.step_recalls-returns-in-Empty
step_recalls-returns-in-Empty t c = λ no. ap (step_now c.args.table.now) c.in-Empty.is ∙ empty-now c.args.table.now

pub step_recalls-returns-in-Assign : goal.step_recalls-returns-in-Assign
step_recalls-returns-in-Assign t c = λ no. ap (step_now c.args.table.now) c.in-Assign.is ∙ assign-now c.args.table.now c.in-Assign.field-0 c.in-Assign.field-1

pub step_recalls-returns-in-New : goal.step_recalls-returns-in-New
step_recalls-returns-in-New t c = λ no. ap (step_now c.args.table.now) c.in-New.is ∙ new-now c.args.table.now c.in-New.field-0 c.in-New.field-1 c.in-New.field-2

pub step_recalls-returns-in-Call : goal.step_recalls-returns-in-Call
step_recalls-returns-in-Call t c = λ no. ap (step_now c.args.table.now) c.in-Call.is ∙ call-now c.args.table.now c.in-Call.field-0

pub step_recalls-returns-in-Return : goal.step_recalls-returns-in-Return
step_recalls-returns-in-Return t c = λ no. ap (step_now c.args.table.now) c.in-Return.is ∙ return-now c.args.table.now c.in-Return.field-0

pub steps_recall-loop-step-init : goal.steps_recall-loop-step-init
steps_recall-loop-step-init t c = λ all. all

pub steps_recall-loop-step-preserved : goal.steps_recall-loop-step-preserved
steps_recall-loop-step-preserved t c = λ more.
    let table = c.args.table.now in
    let here : step_now table c.step-item.result ≡ true = c.step_recalls.ensures c.if-step_recalls.false in
    c.loop-step.invariant (ap (steps_now table) (left-at c.args.steps.now c.loop-step.step-index c.step-item.result c.loop-step-test.true c.step-item.is) ∙ (λ i. here i && more i))

pub steps_recall-returns : goal.steps_recall-returns
steps_recall-returns t c = λ no. c.loop-step.invariant (ap (steps_now c.args.table.now) (drop_all c.loop-step.step-index c.args.steps.now c.loop-step-test.false))
