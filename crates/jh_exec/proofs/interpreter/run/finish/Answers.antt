use Rattle.std.proofs.Common.{◌≡◌, sym, ap, ◌∙◌, refl, rules, [], ◌∷◌, ◌++◌, option_map}
use Rattle.jh_semantics.specs.Progress.{goes_on, returned}
use Rattle.jh_store.specs.memory.Held.{state_of}
use Rattle.jh_operands.specs.Scalars.{datum_of}
use Rattle.jh_machine.specs.continuation.Todos.{resume, StackOverflows, EndsAs}
use Rattle.jh_machine.specs.declared.continuation.stop.Stop.TheVariants as stop
use Rattle.jh_machine.specs.machine.Machines.{stands}
use Rattle.jh_exec.specs.frames.Frames.{progress}
use Rattle.jh_exec.proofs.frames.Standing.{run_sees, memory_ends}
use Rattle.jh_exec.proofs.interpreter.Leading.{leads, leads_end}
use Rattle.jh_exec.proofs.interpreter.Whole.{begins_there, same_frames, run_ended}
use Rattle.jh_exec.proofs.interpreter.run.finish.Goals as goal

pub loop-turn-init : goal.loop-turn-init
loop-turn-init c = λ p numbered s ks run. begins_there p numbered c.args.prepared.now c.args.machine.now c.args.frames.now.items s ks run

pub advance-requires : goal.advance-requires
advance-requires c =
    let all = c.requires in
    let h = c.loop-turn.invariant all.0 all.1 all.2 all.3 all.4 in
    run_sees all.0 all.1 c.args.prepared.now c.loop-turn.machine c.loop-turn.frames.items h.entry h.todos h.is_run

pub returns-in-None-clause-on : goal.returns-in-None-clause-on
returns-in-None-clause-on c = λ p numbered s ks run.
    let none : c.loop-turn.frames.items ≡ [] = search rules in
    let x = c.args.prepared.now in
    let m = c.args.machine.now in
    run_ended p numbered x c.loop-turn.machine c.loop-turn.frames.items c.loop-turn.way (resume p ks (goes_on (stands m s))) (λ q. StackOverflows p q ks (goes_on (stands m s)))
    (c.loop-turn.invariant p numbered s ks run) none
    ∙ ap (λ v. returned (state_of c.loop-turn.machine.now) (option_map datum_of v)) (sym c.result_of.ensures)

pub returns-in-None-clause-names : goal.returns-in-None-clause-names
returns-in-None-clause-names c =
    let all = c.requires in
    let h = c.loop-turn.invariant all.0 all.1 all.2 all.3 all.4 in
    h.is_run.prepared.known

pub returns-in_err-way-in-Some-clause-stop : goal.returns-in_err-way-in-Some-clause-stop
returns-in_err-way-in-Some-clause-stop c = λ p numbered s ks run.
    let x = c.args.prepared.now in
    let m = c.args.machine.now in
    let now = c.loop-turn.machine in
    let h = c.loop-turn.invariant p numbered s ks run in
    let u = progress c.loop-turn.way (stands now h.entry) in
    let popped = same_frames p numbered x now.now.names now.now.last now.entry c.loop-turn.frames.items (c.pop.new.self.items ++ c.in-Some.frame ∷ []) h.entry h.todos c.in-Some.ensures.items h.is_run in
    let why = c.in_err-way-in-Some.field-0.0 in
    let whole : EndsAs (resume p ks (goes_on (stands m s))) (λ q. StackOverflows p q ks (goes_on (stands m s))) why =
    leads_end p (resume p ks (goes_on (stands m s))) (λ q. StackOverflows p q ks (goes_on (stands m s))) h.todos u h.reaches why (c.in_err-way-in-Some.ensures.stop p numbered h.entry h.todos popped) in
    search rules

pub loop-turn-preserved : goal.loop-turn-preserved
loop-turn-preserved c = λ p numbered s ks run.
    let x = c.args.prepared.now in
    let m = c.args.machine.now in
    let now = c.loop-turn.machine in
    let h = c.loop-turn.invariant p numbered s ks run in
    let u = progress c.loop-turn.way (stands now h.entry) in
    let popped = same_frames p numbered x now.now.names now.now.last now.entry c.loop-turn.frames.items (c.pop.new.self.items ++ c.in-Some.frame ∷ []) h.entry h.todos c.in-Some.ensures.items h.is_run in
    leads p (resume p ks (goes_on (stands m s))) (λ q. StackOverflows p q ks (goes_on (stands m s))) h.todos u h.reaches numbered x c.advance.new.machine c.advance.new.frames.items c.in_ok-way-in-Some.way
    (c.in_ok-way-in-Some.ensures.on p numbered h.entry h.todos popped h.inside)

pub returns-clause-stop : goal.returns-clause-stop
returns-clause-stop c = λ p numbered s ks run. memory_ends (resume p ks (goes_on (stands c.args.machine.now s))) (λ q. StackOverflows p q ks (goes_on (stands c.args.machine.now s))) stop.Memory refl
