use Rattle.std.proofs.Common.{◌≡◌, ap, ◌∙◌, refl, rules}
use Rattle.std.proofs.lemmas.Result.{on_ok_weaker, IfErr-weaker}
use Rattle.jh_semantics.specs.Code as code
use Rattle.jh_semantics.specs.Values.{value}
use Rattle.jh_operands.specs.Exprs.{truth_in}
use Rattle.jh_machine.specs.declared.continuation.stop.Stop.TheVariants as stop
use Rattle.jh_machine.specs.continuation.Stops.{stop_of}
use Rattle.jh_machine.specs.continuation.Todos.{one, rest, resume, EndsAs}
use Rattle.jh_machine.specs.continuation.Done.{done, Else}
use Rattle.jh_machine.specs.machine.Machines.{stands}
use Rattle.jh_exec.specs.frames.Frames.{WorkIs}
use Rattle.jh_exec.proofs.frames.Standing.{memory_ends, pushed_work}
use Rattle.jh_exec.proofs.interpreter.Turns.{branch_stop}
use Rattle.jh_exec.proofs.interpreter.Choosing.{first_stands, second_stands}
use Rattle.jh_exec.proofs.interpreter.branching.branch.Goals as goal

pub returns-in_err-is_true-clause-stop : goal.returns-in_err-is_true-clause-stop
returns-in_err-is_true-clause-stop c = λ p s ks q a b fits.
    let m = c.args.machine.now in
    let e = truth_in m.now.names c.args.test.now in
    let why = c.in_err-is_true.field-0.0 in
    let whole : EndsAs (resume p ks (done p (code.branch q e a b) (stands m s))) (Else p (code.branch q e a b) (stands m s) ks) (stop_of why) = branch_stop p q e a b (stands m s) ks why (c.in_err-is_true.ensures.fault fits) in
    search rules

pub returns-then-is_true-clause-on : goal.returns-then-is_true-clause-on
unfolding WorkIs
returns-then-is_true-clause-on c = λ prepared p numbered s ks q a b run fits is other.
    let m = c.args.machine.now in
    on_ok_weaker c.push.result
    (λ pushed. first_stands p (c.runs_are_resumed.ensures p) numbered prepared m s ks (truth_in m.now.names c.args.test.now) a q b (c.in_ok-is_true.ensures.value fits ∙ ap value c.if-is_true.true) c.push.new.frames.items
    (pushed_work p numbered prepared m.now.names m.now.last m.entry c.args.frames.now.items c.push.new.frames.items s ks _ (one a) pushed (a, is, refl) run))
    c.push.ensures.on

pub returns-then-is_true-clause-stop : goal.returns-then-is_true-clause-stop
returns-then-is_true-clause-stop c = λ p s ks q a b fits.
    let m = c.args.machine.now in
    let e = truth_in m.now.names c.args.test.now in
    let x = resume p ks (done p (code.branch q e a b) (stands m s)) in
    let over = Else p (code.branch q e a b) (stands m s) ks in
    IfErr-weaker c.push.result (λ why. why ≡ stop.Memory) (EndsAs x over) (λ why h. memory_ends x over why h) c.push.ensures.stop

pub returns-else-is_true-clause-on : goal.returns-else-is_true-clause-on
unfolding WorkIs
returns-else-is_true-clause-on c = λ prepared p numbered s ks q a b run fits is other.
    let m = c.args.machine.now in
    on_ok_weaker c.push-else-is_true.result
    (λ pushed. second_stands p (c.runs_are_resumed.ensures p) numbered prepared m s ks (truth_in m.now.names c.args.test.now) a q b (c.in_ok-is_true.ensures.value fits ∙ ap value c.if-is_true.false) c.push-else-is_true.new.frames.items
    (pushed_work p numbered prepared m.now.names m.now.last m.entry c.args.frames.now.items c.push-else-is_true.new.frames.items s ks _ (rest b) pushed (b, other, refl) run))
    c.push-else-is_true.ensures.on

pub returns-else-is_true-clause-stop : goal.returns-else-is_true-clause-stop
returns-else-is_true-clause-stop c = λ p s ks q a b fits.
    let m = c.args.machine.now in
    let e = truth_in m.now.names c.args.test.now in
    let x = resume p ks (done p (code.branch q e a b) (stands m s)) in
    let over = Else p (code.branch q e a b) (stands m s) ks in
    IfErr-weaker c.push-else-is_true.result (λ why. why ≡ stop.Memory) (EndsAs x over) (λ why h. memory_ends x over why h) c.push-else-is_true.ensures.stop
