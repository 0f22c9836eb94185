use Rattle.std.proofs.Common.{ap, refl, rules, ◌∷◌, is_some}
use Rattle.std.proofs.lemmas.Result.{IfOk-weaker, IfErr-weaker}
use Rattle.jh_semantics.specs.Code as code
use Rattle.jh_semantics.specs.Progress.{goes_on}
use Rattle.jh_machine.specs.continuation.Todos.{one, rest, resume, StackOverflows, EndsAs}
use Rattle.jh_machine.specs.machine.Machines.{stands}
use Rattle.jh_exec.specs.declared.frames.frames.Way.TheVariants as way
use Rattle.jh_exec.specs.frames.Frames.{Stands, WorkIs}
use Rattle.jh_exec.proofs.frames.Standing.{memory_ends, pushed_work}
use Rattle.jh_exec.proofs.interpreter.Leading.{leads, leads_end, stands_there}
use Rattle.jh_exec.proofs.interpreter.StepCases.{first_step, no_step}
use Rattle.jh_exec.proofs.interpreter.Popping.{stands_work, ends_work}
use Rattle.jh_exec.proofs.interpreter.statements.rest.Goals as goal

pub returns-in-empty-clause-on : goal.returns-in-empty-clause-on
returns-in-empty-clause-on c = λ p numbered s ks ss run are.
    let m = c.args.machine.now in
    let x = c.args.prepared.now in
    let u = goes_on (stands m s) in
    let law = c.runs_are_resumed.ensures p in
    let none = no_step m.now.names x.table.now numbered (is_some m.entry) c.args.steps.now ss are c.in-empty.len_below in
    stands_work p numbered x (rest ss) (rest code.none) ks u (ap rest none) m c.args.frames.now.items way.On
    (stands_there p (resume p (rest code.none ∷ ks) u) (λ q. StackOverflows p q (rest code.none ∷ ks) u) ks u (law.none (stands m s) ks) numbered x m c.args.frames.now.items s refl run)

pub returns-in_err-push-in-len1-up-clause-stop : goal.returns-in_err-push-in-len1-up-clause-stop
returns-in_err-push-in-len1-up-clause-stop c = λ p numbered s ks ss run are.
    let u = goes_on (stands c.args.machine.now s) in
    let why = c.in_err-push-in-len1-up.field-0.0 in
    let whole : EndsAs (resume p (rest ss ∷ ks) u) (λ q. StackOverflows p q (rest ss ∷ ks) u) why = memory_ends (resume p (rest ss ∷ ks) u) (λ q. StackOverflows p q (rest ss ∷ ks) u) why c.in_err-push-in-len1-up.ensures.stop in
    search rules

pub returns-in_ok-push-in-len1-up-clause-on : goal.returns-in_ok-push-in-len1-up-clause-on
unfolding WorkIs
returns-in_ok-push-in-len1-up-clause-on c = λ p numbered s ks ss run are.
    let m = c.args.machine.now in
    let x = c.args.prepared.now in
    let u = goes_on (stands m s) in
    let law = c.runs_are_resumed.ensures p in
    let new = c.one.new.machine in
    let fs = c.one.new.frames.items in
    let got = first_step m.now.names x.table.now numbered (is_some m.entry) c.args.steps.now ss are c.first-item.result c.in-len1-up.len_at_least c.first-item.is in
    let all = code.more got.0 got.1 in
    let pushed = pushed_work p numbered x m.now.names m.now.last m.entry c.args.frames.now.items c.push.new.frames.items s ks _ (rest got.1) c.in_ok-push-in-len1-up.ensures.on (got.1, got.3, refl) run in
    IfOk-weaker c.one.result (λ w. Stands p numbered x new fs w (resume p (one got.0 ∷ rest got.1 ∷ ks) u) (λ q. StackOverflows p q (one got.0 ∷ rest got.1 ∷ ks) u))
    (λ w. Stands p numbered x new fs w (resume p (rest ss ∷ ks) u) (λ q. StackOverflows p q (rest ss ∷ ks) u))
    (λ w h. stands_work p numbered x (rest ss) (rest all) ks u (ap rest got.4) new fs w
    (leads p (resume p (rest all ∷ ks) u) (λ q. StackOverflows p q (rest all ∷ ks) u) (one got.0 ∷ rest got.1 ∷ ks) u (law.more got.0 got.1 (stands m s) ks) numbered x new fs w h))
    (c.one.ensures.on p numbered s (rest got.1 ∷ ks) got.0 pushed got.2)

pub returns-in_ok-push-in-len1-up-clause-stop : goal.returns-in_ok-push-in-len1-up-clause-stop
unfolding WorkIs
returns-in_ok-push-in-len1-up-clause-stop c = λ p numbered s ks ss run are.
    let m = c.args.machine.now in
    let x = c.args.prepared.now in
    let u = goes_on (stands m s) in
    let law = c.runs_are_resumed.ensures p in
    let got = first_step m.now.names x.table.now numbered (is_some m.entry) c.args.steps.now ss are c.first-item.result c.in-len1-up.len_at_least c.first-item.is in
    let all = code.more got.0 got.1 in
    let pushed = pushed_work p numbered x m.now.names m.now.last m.entry c.args.frames.now.items c.push.new.frames.items s ks _ (rest got.1) c.in_ok-push-in-len1-up.ensures.on (got.1, got.3, refl) run in
    IfErr-weaker c.one.result (EndsAs (resume p (one got.0 ∷ rest got.1 ∷ ks) u) (λ q. StackOverflows p q (one got.0 ∷ rest got.1 ∷ ks) u)) (EndsAs (resume p (rest ss ∷ ks) u) (λ q. StackOverflows p q (rest ss ∷ ks) u))
    (λ why h. ends_work p (rest ss) (rest all) ks u (ap rest got.4) why
    (leads_end p (resume p (rest all ∷ ks) u) (λ q. StackOverflows p q (rest all ∷ ks) u) (one got.0 ∷ rest got.1 ∷ ks) u (law.more got.0 got.1 (stands m s) ks) why h))
    (c.one.ensures.stop p numbered s (rest got.1 ∷ ks) got.0 pushed got.2)
