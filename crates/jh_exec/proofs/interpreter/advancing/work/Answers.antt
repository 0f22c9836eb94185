use Rattle.std.proofs.Common.{rules, ◌∷◌, is_some}
use Rattle.std.proofs.lemmas.Result.{IfOk-weaker, IfErr-weaker}
use Rattle.jh_semantics.specs.Progress.{goes_on}
use Rattle.jh_operands.specs.Exprs.{truth_in}
use Rattle.jh_machine.specs.continuation.Todos.{rest, one, turn, resume, StackOverflows, EndsAs}
use Rattle.jh_machine.specs.machine.Machines.{stands}
use Rattle.jh_exec.specs.declared.frames.frames.Way.TheVariants as way
use Rattle.jh_exec.specs.frames.Frames.{Stands}
use Rattle.jh_exec.proofs.interpreter.Popping.{work_rest, work_one, work_turn, stands_work, ends_work}
use Rattle.jh_exec.proofs.interpreter.advancing.work.Goals as goal

pub returns-in-Rest-clause-on : goal.returns-in-Rest-clause-on
returns-in-Rest-clause-on c = λ p numbered s ks k run is.
    let m = c.args.machine.now in
    let x = c.args.prepared.now in
    let u = goes_on (stands m s) in
    let got = work_rest m.now.names m.now.last x numbered (is_some m.entry) c.args.work k is c.in-Rest.steps c.in-Rest.is in
    IfOk-weaker c.rest.result (λ w. Stands p numbered x c.rest.new.machine c.rest.new.frames.items w (resume p (rest got.0 ∷ ks) u) (λ q. StackOverflows p q (rest got.0 ∷ ks) u))
    (λ w. Stands p numbered x c.rest.new.machine c.rest.new.frames.items w (resume p (k ∷ ks) u) (λ q. StackOverflows p q (k ∷ ks) u))
    (λ w h. stands_work p numbered x k (rest got.0) ks u got.2 c.rest.new.machine c.rest.new.frames.items w h)
    (c.rest.ensures.on p numbered s ks got.0 run got.1)

pub returns-in-Rest-clause-stop : goal.returns-in-Rest-clause-stop
returns-in-Rest-clause-stop c = λ p numbered s ks k run is.
    let m = c.args.machine.now in
    let x = c.args.prepared.now in
    let u = goes_on (stands m s) in
    let got = work_rest m.now.names m.now.last x numbered (is_some m.entry) c.args.work k is c.in-Rest.steps c.in-Rest.is in
    IfErr-weaker c.rest.result (EndsAs (resume p (rest got.0 ∷ ks) u) (λ q. StackOverflows p q (rest got.0 ∷ ks) u)) (EndsAs (resume p (k ∷ ks) u) (λ q. StackOverflows p q (k ∷ ks) u))
    (λ why h. ends_work p k (rest got.0) ks u got.2 why h)
    (c.rest.ensures.stop p numbered s ks got.0 run got.1)

pub returns-in-One-clause-on : goal.returns-in-One-clause-on
returns-in-One-clause-on c = λ p numbered s ks k run is.
    let m = c.args.machine.now in
    let x = c.args.prepared.now in
    let u = goes_on (stands m s) in
    let got = work_one m.now.names m.now.last x numbered (is_some m.entry) c.args.work k is c.in-One.step c.in-One.is in
    IfOk-weaker c.one.result (λ w. Stands p numbered x c.one.new.machine c.one.new.frames.items w (resume p (one got.0 ∷ ks) u) (λ q. StackOverflows p q (one got.0 ∷ ks) u))
    (λ w. Stands p numbered x c.one.new.machine c.one.new.frames.items w (resume p (k ∷ ks) u) (λ q. StackOverflows p q (k ∷ ks) u))
    (λ w h. stands_work p numbered x k (one got.0) ks u got.2 c.one.new.machine c.one.new.frames.items w h)
    (c.one.ensures.on p numbered s ks got.0 run got.1)

pub returns-in-One-clause-stop : goal.returns-in-One-clause-stop
returns-in-One-clause-stop c = λ p numbered s ks k run is.
    let m = c.args.machine.now in
    let x = c.args.prepared.now in
    let u = goes_on (stands m s) in
    let got = work_one m.now.names m.now.last x numbered (is_some m.entry) c.args.work k is c.in-One.step c.in-One.is in
    IfErr-weaker c.one.result (EndsAs (resume p (one got.0 ∷ ks) u) (λ q. StackOverflows p q (one got.0 ∷ ks) u)) (EndsAs (resume p (k ∷ ks) u) (λ q. StackOverflows p q (k ∷ ks) u))
    (λ why h. ends_work p k (one got.0) ks u got.2 why h)
    (c.one.ensures.stop p numbered s ks got.0 run got.1)

pub returns-in_ok-turn-in-Turn-clause-on : goal.returns-in_ok-turn-in-Turn-clause-on
returns-in_ok-turn-in-Turn-clause-on c = λ p numbered s ks k run is.
    let m = c.args.machine.now in
    let x = c.args.prepared.now in
    let u = goes_on (stands m s) in
    let got = work_turn m.now.names m.now.last x numbered (is_some m.entry) c.args.work k is c.in-Turn.test c.in-Turn.body c.in-Turn.is in
    stands_work p numbered x k (turn (truth_in m.now.names c.in-Turn.test.now) got.0) ks u got.3 c.turn.new.machine c.turn.new.frames.items way.On
    (c.in_ok-turn-in-Turn.ensures.on x p numbered s ks got.0 run got.1 got.2)

pub returns-in_err-turn-in-Turn-clause-stop : goal.returns-in_err-turn-in-Turn-clause-stop
returns-in_err-turn-in-Turn-clause-stop c = λ p numbered s ks k run is.
    let m = c.args.machine.now in
    let x = c.args.prepared.now in
    let u = goes_on (stands m s) in
    let got = work_turn m.now.names m.now.last x numbered (is_some m.entry) c.args.work k is c.in-Turn.test c.in-Turn.body c.in-Turn.is in
    let why = c.in_err-turn-in-Turn.field-0.0 in
    let whole : EndsAs (resume p (k ∷ ks) u) (λ q. StackOverflows p q (k ∷ ks) u) why =
    ends_work p k (turn (truth_in m.now.names c.in-Turn.test.now) got.0) ks u got.3 why (c.in_err-turn-in-Turn.ensures.stop p s ks got.0 got.1) in
    search rules
