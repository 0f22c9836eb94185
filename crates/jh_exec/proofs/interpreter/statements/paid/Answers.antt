use Rattle.std.proofs.Common.{◌≡◌, sym, ap, subst, ◌∙◌, refl, ◌∷◌, is_some, List}
use Rattle.std.proofs.lemmas.Result.{on_ok_weaker, IfErr-weaker}
use Rattle.jh_semantics.specs.Code as code
use Rattle.jh_semantics.specs.Progress.{goes_on}
use Rattle.jh_semantics.specs.Execution.{asked}
use Rattle.jh_operands.specs.Exprs.{any_in, truth_in, text_at}
use Rattle.jh_machine_code.specs.declared.code.step.Step.{Step}
use Rattle.jh_machine_code.specs.code.Steps.{IsStep, AreSteps}
use Rattle.jh_machine.specs.declared.continuation.stop.Stop.TheVariants as stop
use Rattle.jh_machine.specs.continuation.Stops.{StopsAs}
use Rattle.jh_machine.specs.continuation.Overflows.{OwnOverflows, ClaimOverflows}
use Rattle.jh_machine.specs.continuation.Todos.{resume, rest, turn, EndsAs}
use Rattle.jh_machine.specs.continuation.Done.{done, Else}
use Rattle.jh_machine.specs.machine.Machines.{stands}
use Rattle.jh_exec.specs.frames.Frames.{WorkIs}
use Rattle.jh_exec.proofs.frames.Standing.{memory_ends, simple_stands, pushed_work}
use Rattle.jh_exec.proofs.frames.Called.{own_ends}
use Rattle.jh_exec.proofs.interpreter.Leading.{stands_there, stands_as, ends_as}
use Rattle.jh_exec.proofs.interpreter.StepCases.{does_return, step_empty, step_block, step_assign, step_new, step_call, step_branch, step_loop, step_ask, step_ghost, step_ghost_at}
use Rattle.jh_exec.proofs.interpreter.Simple.{simple_on, simple_stop, asked_done, asked_stops}
use Rattle.jh_exec.proofs.interpreter.statements.paid.Goals as goal

pub returns-in-Empty-clause-on : goal.returns-in-Empty-clause-on
unfolding done
returns-in-Empty-clause-on c = λ p numbered s ks a run is.
    let m = c.args.machine.now in
    let x = c.args.prepared.now in
    simple_stands p numbered x c.args.frames.now.items s ks a m m (record { names = refl; last = refl; entry = refl }) run
    (ap (λ z. done p z (stands m s)) (step_empty m.now.names x.table.now numbered (is_some m.entry) c.args.step.now a is c.in-Empty.is))

pub returns-in-Return-clause-on : goal.returns-in-Return-clause-on
returns-in-Return-clause-on c = λ p numbered s ks a run is. does_return c.args.step.now c.requires.not_return _ c.in-Return.is

pub returns-in-Call-clause-on : goal.returns-in-Call-clause-on
returns-in-Call-clause-on c = λ p numbered s ks a run is.
    let m = c.args.machine.now in
    let x = c.args.prepared.now in
    c.call.ensures.on p numbered s ks a run (step_call m.now.names x.table.now numbered (is_some m.entry) c.args.step.now a is c.in-Call.step c.in-Call.is)

pub returns-in-Call-clause-stop : goal.returns-in-Call-clause-stop
returns-in-Call-clause-stop c = λ p numbered s ks a run is.
    let m = c.args.machine.now in
    let x = c.args.prepared.now in
    c.call.ensures.stop p numbered s ks a run (step_call m.now.names x.table.now numbered (is_some m.entry) c.args.step.now a is c.in-Call.step c.in-Call.is)

pub returns-in-Block-clause-on : goal.returns-in-Block-clause-on
unfolding WorkIs
returns-in-Block-clause-on c = λ p numbered s ks a run is.
    let m = c.args.machine.now in
    let x = c.args.prepared.now in
    let law = c.runs_are_resumed.ensures p in
    let block = step_block m.now.names x.table.now numbered (is_some m.entry) c.args.step.now a is c.in-Block.steps c.in-Block.is in
    on_ok_weaker c.push.result
    (λ pushed. stands_as p a (code.block block.0) (stands m s) ks block.2 numbered x m c.push.new.frames.items _
    (stands_there p (resume p ks (done p (code.block block.0) (stands m s))) (Else p (code.block block.0) (stands m s) ks) (rest block.0 ∷ ks) (goes_on (stands m s)) (law.block block.0 (stands m s) ks)
    numbered x m c.push.new.frames.items s refl (pushed_work p numbered x m.now.names m.now.last m.entry c.args.frames.now.items c.push.new.frames.items s ks _ (rest block.0) pushed (block.0, subst (λ (xs : List Step). AreSteps m.now.names x.table.now numbered (is_some m.entry) xs block.0) (sym c.items.ensures) block.1, refl) run)))
    c.push.ensures.on

pub returns-in-Block-clause-stop : goal.returns-in-Block-clause-stop
returns-in-Block-clause-stop c = λ p numbered s ks a run is.
    let x = resume p ks (done p a (stands c.args.machine.now s)) in
    let over = Else p a (stands c.args.machine.now s) ks in
    IfErr-weaker c.push.result (λ why. why ≡ stop.Memory) (EndsAs x over) (λ why h. memory_ends x over why h) c.push.ensures.stop

pub returns-in-Assign-clause-on : goal.returns-in-Assign-clause-on
unfolding done
returns-in-Assign-clause-on c = λ p numbered s ks a run is.
    let m = c.args.machine.now in
    let x = c.args.prepared.now in
    let got = step_assign m.now.names x.table.now numbered (is_some m.entry) c.args.step.now a is c.in-Assign.destination c.in-Assign.code c.in-Assign.is in
    let new = record m { now = c.assign.new.memory } in
    on_ok_weaker c.assign.result
    (λ goes. simple_stands p numbered x c.args.frames.now.items s ks a m new (record { names = c.assign.ensures.names; last = c.assign.ensures.last; entry = refl }) run (ap (λ z. done p z (stands m s)) got.3 ∙ goes))
    (c.assign.ensures.on got.0 got.1 got.2 (stands m s) refl)

pub returns-in-Assign-clause-stop : goal.returns-in-Assign-clause-stop
unfolding done OwnOverflows
returns-in-Assign-clause-stop c = λ p numbered s ks a run is.
    let m = c.args.machine.now in
    let x = c.args.prepared.now in
    let got = step_assign m.now.names x.table.now numbered (is_some m.entry) c.args.step.now a is c.in-Assign.destination c.in-Assign.code c.in-Assign.is in
    simple_stop p numbered x c.args.frames.now.items s ks a (code.assign got.0 (any_in m.now.names c.in-Assign.code)) got.3 m c.assign.result (c.assign.ensures.stop got.0 got.1 got.2 (stands m s) refl)

pub returns-in-New-clause-on : goal.returns-in-New-clause-on
unfolding done
returns-in-New-clause-on c = λ p numbered s ks a run is.
    let m = c.args.machine.now in
    let x = c.args.prepared.now in
    let got = step_new m.now.names x.table.now numbered (is_some m.entry) c.args.step.now a is c.in-New.place c.in-New.destination c.in-New.class c.in-New.is in
    simple_on p numbered x c.args.frames.now.items s ks a (code.new_object c.in-New.place got.0 (text_at m.now.names c.in-New.class)) got.3 m c.make.result c.make.new.machine run c.make.ensures.beside
    (c.make.ensures.on run.prepared.all got.2 got.0 s got.1)

pub returns-in-New-clause-stop : goal.returns-in-New-clause-stop
unfolding done OwnOverflows
returns-in-New-clause-stop c = λ p numbered s ks a run is.
    let m = c.args.machine.now in
    let x = c.args.prepared.now in
    let got = step_new m.now.names x.table.now numbered (is_some m.entry) c.args.step.now a is c.in-New.place c.in-New.destination c.in-New.class c.in-New.is in
    simple_stop p numbered x c.args.frames.now.items s ks a (code.new_object c.in-New.place got.0 (text_at m.now.names c.in-New.class)) got.3 m c.make.result
    (c.make.ensures.stop run.prepared.all got.2 got.0 s got.1)

pub returns-in-Branch-clause-on : goal.returns-in-Branch-clause-on
returns-in-Branch-clause-on c = λ p numbered s ks a run is.
    let m = c.args.machine.now in
    let x = c.args.prepared.now in
    let got = step_branch m.now.names x.table.now numbered (is_some m.entry) c.args.step.now a is c.in-Branch.test c.in-Branch.first c.in-Branch.second c.in-Branch.is in
    let first = subst (λ (z : Step). IsStep m.now.names x.table.now numbered (is_some m.entry) z got.1) (sym c.deref.ensures) got.4 in
    let second = subst (λ (zs : List Step). AreSteps m.now.names x.table.now numbered (is_some m.entry) zs got.2) (sym c.items-in-Branch.ensures) got.5 in
    on_ok_weaker c.branch-machine.result
    (λ h. stands_as p a (code.branch got.0 (truth_in m.now.names c.in-Branch.test) got.1 got.2) (stands m s) ks got.6 numbered x m c.branch-machine.new.frames.items _ h)
    (c.branch-machine.ensures.on x p numbered s ks got.0 got.1 got.2 run got.3 first second)

pub returns-in-Branch-clause-stop : goal.returns-in-Branch-clause-stop
returns-in-Branch-clause-stop c = λ p numbered s ks a run is.
    let m = c.args.machine.now in
    let x = c.args.prepared.now in
    let got = step_branch m.now.names x.table.now numbered (is_some m.entry) c.args.step.now a is c.in-Branch.test c.in-Branch.first c.in-Branch.second c.in-Branch.is in
    let b = code.branch got.0 (truth_in m.now.names c.in-Branch.test) got.1 got.2 in
    IfErr-weaker c.branch-machine.result (EndsAs (resume p ks (done p b (stands m s))) (Else p b (stands m s) ks)) (EndsAs (resume p ks (done p a (stands m s))) (Else p a (stands m s) ks))
    (λ why h. ends_as p a b (stands m s) ks got.6 why h) (c.branch-machine.ensures.stop p s ks got.0 got.1 got.2 got.3)

pub returns-in-Loop-clause-on : goal.returns-in-Loop-clause-on
unfolding WorkIs
returns-in-Loop-clause-on c = λ p numbered s ks a run is.
    let m = c.args.machine.now in
    let x = c.args.prepared.now in
    let law = c.runs_are_resumed.ensures p in
    let got = step_loop m.now.names x.table.now numbered (is_some m.entry) c.args.step.now a is c.in-Loop.test c.in-Loop.body c.in-Loop.is in
    let body = subst (λ (z : Step). IsStep m.now.names x.table.now numbered (is_some m.entry) z got.2) (sym c.deref-in-Loop.ensures) got.4 in
    let e = truth_in m.now.names c.in-Loop.test in
    let b = code.loop got.0 got.1 e got.2 in
    let new = c.push-in-Loop.new.frames.items in
    on_ok_weaker c.push-in-Loop.result
    (λ pushed. stands_as p a b (stands m s) ks got.5 numbered x m new _
    (stands_there p (resume p ks (done p b (stands m s))) (Else p b (stands m s) ks) (turn e got.2 ∷ ks) (goes_on (stands m s)) (law.loop got.0 got.1 e got.2 (stands m s) ks)
    numbered x m new s refl (pushed_work p numbered x m.now.names m.now.last m.entry c.args.frames.now.items new s ks _ (turn e got.2) pushed (got.2, got.3, body, refl) run)))
    c.push-in-Loop.ensures.on

pub returns-in-Loop-clause-stop : goal.returns-in-Loop-clause-stop
returns-in-Loop-clause-stop c = λ p numbered s ks a run is.
    let x = resume p ks (done p a (stands c.args.machine.now s)) in
    let over = Else p a (stands c.args.machine.now s) ks in
    IfErr-weaker c.push-in-Loop.result (λ why. why ≡ stop.Memory) (EndsAs x over) (λ why h. memory_ends x over why h) c.push-in-Loop.ensures.stop

pub returns-in-Ask-clause-on : goal.returns-in-Ask-clause-on
returns-in-Ask-clause-on c = λ p numbered s ks a run is.
    let m = c.args.machine.now in
    let x = c.args.prepared.now in
    let got = step_ask m.now.names x.table.now numbered (is_some m.entry) c.args.step.now a is c.in-Ask.place c.in-Ask.node c.in-Ask.is in
    on_ok_weaker c.ask.result
    (λ goes. simple_stands p numbered x c.args.frames.now.items s ks a m m (record { names = refl; last = refl; entry = refl }) run (asked_done p a got.claim (stands m s) got.is ∙ goes))
    (c.ask.ensures.on got.claim s got.there run.entry_is)

pub returns-in-Ask-clause-stop : goal.returns-in-Ask-clause-stop
returns-in-Ask-clause-stop c = λ p numbered s ks a run is.
    let m = c.args.machine.now in
    let x = c.args.prepared.now in
    let got = step_ask m.now.names x.table.now numbered (is_some m.entry) c.args.step.now a is c.in-Ask.place c.in-Ask.node c.in-Ask.is in
    IfErr-weaker c.ask.result (StopsAs (asked got.claim (stands m s)) (λ q. ClaimOverflows q got.claim (stands m s))) (EndsAs (resume p ks (done p a (stands m s))) (Else p a (stands m s) ks))
    (λ why h. own_ends p a (stands m s) ks why (asked_stops p a got.claim (stands m s) got.is why h)) (c.ask.ensures.stop got.claim s got.there got.at run.entry_is)

pub returns-in-Ghost-clause-on : goal.returns-in-Ghost-clause-on
unfolding done
returns-in-Ghost-clause-on c = λ p numbered s ks a run is.
    let m = c.args.machine.now in
    let x = c.args.prepared.now in
    let got = step_ghost m.now.names x.table.now numbered (is_some m.entry) c.args.step.now a is c.in-Ghost.name c.in-Ghost.place c.in-Ghost.node c.in-Ghost.is in
    simple_on p numbered x c.args.frames.now.items s ks a (code.ghost (text_at m.now.names c.in-Ghost.name) c.in-Ghost.place got.value) got.is m c.ghost_step.result c.ghost_step.new.machine run c.ghost_step.ensures.beside
    (c.ghost_step.ensures.on got.value s got.named got.there run.entry_is)

pub returns-in-Ghost-clause-stop : goal.returns-in-Ghost-clause-stop
unfolding done OwnOverflows
returns-in-Ghost-clause-stop c = λ p numbered s ks a run is.
    let m = c.args.machine.now in
    let x = c.args.prepared.now in
    let got = step_ghost m.now.names x.table.now numbered (is_some m.entry) c.args.step.now a is c.in-Ghost.name c.in-Ghost.place c.in-Ghost.node c.in-Ghost.is in
    let b = code.ghost (text_at m.now.names c.in-Ghost.name) c.in-Ghost.place got.value in
    simple_stop p numbered x c.args.frames.now.items s ks a b got.is m c.ghost_step.result (c.ghost_step.ensures.stop got.value s got.there run.entry_is (done p b (stands m s)))

pub returns-in-GhostAt-clause-on : goal.returns-in-GhostAt-clause-on
unfolding done
returns-in-GhostAt-clause-on c = λ p numbered s ks a run is.
    let m = c.args.machine.now in
    let x = c.args.prepared.now in
    let g = c.in-GhostAt.to in
    let got = step_ghost_at m.now.names x.table.now numbered (is_some m.entry) c.args.step.now a is g c.in-GhostAt.is in
    simple_on p numbered x c.args.frames.now.items s ks a (code.ghost_at g.left (text_at m.now.names g.class) (text_at m.now.names g.field) got.object g.right got.value) got.is m c.ghost_at.result c.ghost_at.new.machine run c.ghost_at.ensures.beside
    (c.ghost_at.ensures.on got.object got.value s got.class got.field got.at got.there run.entry_is)

pub returns-in-GhostAt-clause-stop : goal.returns-in-GhostAt-clause-stop
unfolding done OwnOverflows
returns-in-GhostAt-clause-stop c = λ p numbered s ks a run is.
    let m = c.args.machine.now in
    let x = c.args.prepared.now in
    let g = c.in-GhostAt.to in
    let got = step_ghost_at m.now.names x.table.now numbered (is_some m.entry) c.args.step.now a is g c.in-GhostAt.is in
    simple_stop p numbered x c.args.frames.now.items s ks a (code.ghost_at g.left (text_at m.now.names g.class) (text_at m.now.names g.field) got.object g.right got.value) got.is m c.ghost_at.result
    (c.ghost_at.ensures.stop got.object got.value s got.class got.at got.there run.entry_is)

pub ask-requires : goal.ask-requires
ask-requires c = c.requires.sees

pub ghost_step-requires : goal.ghost_step-requires
ghost_step-requires c = c.requires.sees

pub ghost_at-requires : goal.ghost_at-requires
ghost_at-requires c = c.requires.sees
