use Rattle.std.proofs.Common.{◌≡◌, ap, ◌∙◌, rules, ◌∷◌, ◌⊎◌}
use Rattle.std.proofs.lemmas.Result.{IfErr-weaker}
use Rattle.jh_semantics.specs.Values.{value}
use Rattle.jh_semantics.specs.Progress.{goes_on}
use Rattle.jh_operands.specs.Exprs.{truth_in}
use Rattle.jh_machine.specs.declared.continuation.stop.Stop.TheVariants as stop
use Rattle.jh_machine.specs.continuation.Stops.{stop_of}
use Rattle.jh_machine.specs.continuation.Todos.{turn, resume, StackOverflows, EndsAs}
use Rattle.jh_machine.specs.machine.Machines.{stands}
use Rattle.jh_exec.proofs.interpreter.Turns.{turn_stop}
use Rattle.jh_exec.proofs.interpreter.Choosing.{ended_stands, turned_stands, again_ends, on_both}
use Rattle.jh_exec.proofs.interpreter.branching.turn.Goals as goal

pub returns-in_err-is_true-clause-stop : goal.returns-in_err-is_true-clause-stop
returns-in_err-is_true-clause-stop c = λ p s ks a fits.
    let m = c.args.machine.now in
    let e = truth_in m.now.names c.args.test.now in
    let why = c.in_err-is_true.field-0.0 in
    let whole : EndsAs (resume p (turn e a ∷ ks) (goes_on (stands m s))) (λ q. StackOverflows p q (turn e a ∷ ks) (goes_on (stands m s))) (stop_of why) =
    turn_stop p e a (stands m s) ks (c.loops_are_turns.ensures p) why (c.in_err-is_true.ensures.fault fits) in
    search rules

pub returns-then-is_true-clause-on : goal.returns-then-is_true-clause-on
returns-then-is_true-clause-on c = λ prepared p numbered s ks a run fits is.
    let m = c.args.machine.now in
    on_both c.again.result
    (λ paid run. turned_stands p (c.runs_are_resumed.ensures p) numbered prepared m s ks (truth_in m.now.names c.args.test.now) a (c.in_ok-is_true.ensures.value fits ∙ ap value c.if-is_true.true) c.again.new.machine paid c.again.new.frames.items run)
    c.again.ensures.paid (c.again.ensures.run prepared p numbered s ks a run fits is)

pub returns-then-is_true-clause-stop : goal.returns-then-is_true-clause-stop
returns-then-is_true-clause-stop c = λ p s ks a fits.
    let m = c.args.machine.now in
    let e = truth_in m.now.names c.args.test.now in
    IfErr-weaker c.again.result (λ why. (why ≡ stop.Memory) ⊎ ((why ≡ stop.StepsOut) × (m.steps ≡ 0))) (EndsAs (resume p (turn e a ∷ ks) (goes_on (stands m s))) (λ q. StackOverflows p q (turn e a ∷ ks) (goes_on (stands m s))))
    (λ why h. again_ends p e a (stands m s) ks (c.loops_are_turns.ensures p) (c.in_ok-is_true.ensures.value fits ∙ ap value c.if-is_true.true) why h) c.again.ensures.stop

pub returns-else-is_true-clause-on : goal.returns-else-is_true-clause-on
returns-else-is_true-clause-on c = λ prepared p numbered s ks a run fits is.
    let m = c.args.machine.now in
    ended_stands p (c.runs_are_resumed.ensures p) numbered prepared m s ks (truth_in m.now.names c.args.test.now) a (c.in_ok-is_true.ensures.value fits ∙ ap value c.if-is_true.false) c.args.frames.now.items run
