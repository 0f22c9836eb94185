use Rattle.std.proofs.Common.{rules, [], map, option_map}
use Rattle.jh_semantics.specs.Execution as run
use Rattle.jh_store.specs.memory.Held.{state_of}
use Rattle.jh_operands.specs.Scalars.{datum_of}
use Rattle.jh_machine.specs.continuation.Overflows.{RunOverflows}
use Rattle.jh_machine.specs.continuation.Todos.{EndsAs}
use Rattle.jh_machine.specs.machine.Machines.{EntryIs}
use Rattle.jh_exec.proofs.interpreter.Whole.{waits_first, run_ends, run_returns, run_stops}
use Rattle.jh_exec.proofs.interpreter.run.run_prepared.Goals as goal

pub returns-in_err-enter-clause-stop : goal.returns-in_err-enter-clause-stop
returns-in_err-enter-clause-stop c = λ p numbered m prepared number.
    let first = state_of c.args.memory in
    let ds = map datum_of c.args.args.now in
    let why = c.in_err-enter.field-0.0 in
    let whole : EndsAs (run.run p m first c.args.on ds c.args.picks.items c.args.steps) (λ q. RunOverflows p q m first c.args.on ds c.args.picks.items c.args.steps) why =
    run_ends p (c.runs_are_resumed.ensures p) m first c.args.on ds c.args.picks.items c.args.steps why (c.in_err-enter.ensures.stop p first [] m) in
    search rules

pub finish-requires : goal.finish-requires
unfolding EntryIs
finish-requires c =
    let all = c.requires.prepared in
    let x = c.args.prepared.now in
    let waits = waits_first all.0 all.1 x c.args.memory.names c.args.memory.last c.new-frames.result.items c.new-frames.ensures.items all.3 in
    let h = c.in_ok-enter.ensures.on all.0 all.1 (state_of c.args.memory) [] all.2 waits tt all.4 c.requires.on c.requires.args in
    (all.0, all.1, h.entry, h.todos, h.is_run)

pub returns-in_err-result-clause-stop : goal.returns-in_err-result-clause-stop
unfolding EntryIs
returns-in_err-result-clause-stop c = λ p numbered m prepared number.
    let x = c.args.prepared.now in
    let first = state_of c.args.memory in
    let ds = map datum_of c.args.args.now in
    let waits = waits_first p numbered x c.args.memory.names c.args.memory.last c.new-frames.result.items c.new-frames.ensures.items prepared in
    let h = c.in_ok-enter.ensures.on p numbered first [] m waits tt number c.requires.on c.requires.args in
    let why = c.in_err-result.field-0.0 in
    let whole : EndsAs (run.run p m first c.args.on ds c.args.picks.items c.args.steps) (λ q. RunOverflows p q m first c.args.on ds c.args.picks.items c.args.steps) why =
    run_stops p (c.runs_are_resumed.ensures p) m first c.args.on ds c.args.picks.items c.args.steps numbered x c.enter.new.machine c.enter.new.frames.items h why
    (c.in_err-result.ensures.stop p numbered h.entry h.todos h.is_run) in
    search rules

pub returns-clause-on : goal.returns-clause-on
unfolding EntryIs
returns-clause-on c = λ p numbered m prepared number.
    let x = c.args.prepared.now in
    let first = state_of c.args.memory in
    let ds = map datum_of c.args.args.now in
    let waits = waits_first p numbered x c.args.memory.names c.args.memory.last c.new-frames.result.items c.new-frames.ensures.items prepared in
    let h = c.in_ok-enter.ensures.on p numbered first [] m waits tt number c.requires.on c.requires.args in
    run_returns p (c.runs_are_resumed.ensures p) m first c.args.on ds c.args.picks.items c.args.steps numbered x c.enter.new.machine c.enter.new.frames.items h
    (state_of c.finish.new.machine.now) (option_map datum_of c.in_ok-result.result) (c.in_ok-result.ensures.on p numbered h.entry h.todos h.is_run)

pub returns-clause-names : goal.returns-clause-names
returns-clause-names c = c.in_ok-result.ensures.names
