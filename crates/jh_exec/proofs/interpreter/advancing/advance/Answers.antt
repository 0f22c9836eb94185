use Rattle.std.proofs.Common.{sym, subst, rules, [], ◌∷◌, ◌++◌, IfOk, IfErr}
use Rattle.std.proofs.lemmas.Result.{IfOk-weaker, IfErr-weaker}
use Rattle.jh_semantics.specs.Progress.{goes_on}
use Rattle.jh_machine.specs.continuation.Todos.{resume, StackOverflows, EndsAs}
use Rattle.jh_machine.specs.machine.Machines.{stands}
use Rattle.jh_exec.specs.declared.frames.frames.Frame.{Frame}
use Rattle.jh_exec.specs.declared.frames.frames.Way.{Way}
use Rattle.jh_exec.specs.declared.frames.frames.Way.TheVariants as way
use Rattle.jh_exec.specs.frames.Frames.{IsRun, Stands, WayInside, progress}
use Rattle.jh_exec.proofs.frames.Standing.{popped_work}
use Rattle.jh_exec.proofs.interpreter.Popping.{popped, left_stands, left_ends, passed_stands, stands_todos, ends_todos}
use Rattle.jh_exec.proofs.interpreter.advancing.advance.Goals as goal

pub returns-in_err-leave-in-Back-clause-stop : goal.returns-in_err-leave-in-Back-clause-stop
returns-in_err-leave-in-Back-clause-stop c = λ p numbered s ks run.
    let m = c.args.machine.now in
    let x = c.args.prepared.now in
    let b = c.in-Back.back in
    let v = c.args.way in
    let fs = c.args.frames.now.items in
    let here = subst (λ (z : Frame). IsRun p numbered x m.now.names m.now.last m.entry (fs ++ z ∷ []) s ks) c.in-Back.is run in
    let law = c.runs_are_resumed.ensures p in
    let got = popped p law numbered x m fs s ks b here in
    let whole : EndsAs (resume p ks (progress v (stands m s))) (λ q. StackOverflows p q ks (progress v (stands m s))) c.in_err-leave-in-Back.field-0.0 =
    left_ends p law numbered x m fs s ks b here v c.in_err-leave-in-Back.field-0.0 (c.in_err-leave-in-Back.ensures.stop numbered got.0 s got.2 run.prepared.locals) in
    search rules

pub returns-in_ok-leave-in-Back-clause-on : goal.returns-in_ok-leave-in-Back-clause-on
returns-in_ok-leave-in-Back-clause-on c = λ p numbered s ks run inside.
    let m = c.args.machine.now in
    let x = c.args.prepared.now in
    let b = c.in-Back.back in
    let v = c.args.way in
    let fs = c.args.frames.now.items in
    let here = subst (λ (z : Frame). IsRun p numbered x m.now.names m.now.last m.entry (fs ++ z ∷ []) s ks) c.in-Back.is run in
    let law = c.runs_are_resumed.ensures p in
    let got = popped p law numbered x m fs s ks b here in
    let left = c.in_ok-leave-in-Back.ensures in
    left_stands p law numbered x m fs s ks b here v c.leave.new.machine left.names left.last left.entry (left.on numbered got.0 s got.2 run.prepared.locals inside)

pub returns-in-On-clause-on : goal.returns-in-On-clause-on
unfolding progress
returns-in-On-clause-on c = λ p numbered s ks run inside.
    let m = c.args.machine.now in
    let x = c.args.prepared.now in
    let fs = c.args.frames.now.items in
    let z = c.in-Work.next in
    let here = subst (λ (z : Frame). IsRun p numbered x m.now.names m.now.last m.entry (fs ++ z ∷ []) s ks) c.in-Work.is run in
    let got = popped_work p numbered x m.now.names m.now.last m.entry fs s ks z here in
    let u = goes_on (stands m s) in
    subst (λ (v : Way). IfOk c.work.result (λ w. Stands p numbered x c.work.new.machine c.work.new.frames.items w (resume p ks (progress v (stands m s))) (λ q. StackOverflows p q ks (progress v (stands m s))))) (sym c.in-On.is)
    (IfOk-weaker c.work.result (λ w. Stands p numbered x c.work.new.machine c.work.new.frames.items w (resume p (got.0 ∷ got.1) u) (λ q. StackOverflows p q (got.0 ∷ got.1) u))
    (λ w. Stands p numbered x c.work.new.machine c.work.new.frames.items w (resume p ks u) (λ q. StackOverflows p q ks u))
    (λ w h. stands_todos p numbered x ks (got.0 ∷ got.1) u got.4 c.work.new.machine c.work.new.frames.items w h)
    (c.work.ensures.on p numbered s got.1 got.0 got.3 got.2))

pub returns-in-On-clause-stop : goal.returns-in-On-clause-stop
unfolding progress
returns-in-On-clause-stop c = λ p numbered s ks run.
    let m = c.args.machine.now in
    let x = c.args.prepared.now in
    let fs = c.args.frames.now.items in
    let z = c.in-Work.next in
    let here = subst (λ (z : Frame). IsRun p numbered x m.now.names m.now.last m.entry (fs ++ z ∷ []) s ks) c.in-Work.is run in
    let got = popped_work p numbered x m.now.names m.now.last m.entry fs s ks z here in
    let u = goes_on (stands m s) in
    subst (λ (v : Way). IfErr c.work.result (EndsAs (resume p ks (progress v (stands m s))) (λ q. StackOverflows p q ks (progress v (stands m s))))) (sym c.in-On.is)
    (IfErr-weaker c.work.result (EndsAs (resume p (got.0 ∷ got.1) u) (λ q. StackOverflows p q (got.0 ∷ got.1) u)) (EndsAs (resume p ks u) (λ q. StackOverflows p q ks u))
    (λ why h. ends_todos p ks (got.0 ∷ got.1) u got.4 why h)
    (c.work.ensures.stop p numbered s got.1 got.0 got.3 got.2))

pub returns-in-Return-clause-on : goal.returns-in-Return-clause-on
returns-in-Return-clause-on c = λ p numbered s ks run inside.
    let m = c.args.machine.now in
    let x = c.args.prepared.now in
    let fs = c.args.frames.now.items in
    let here = subst (λ (z : Frame). IsRun p numbered x m.now.names m.now.last m.entry (fs ++ z ∷ []) s ks) c.in-Work.is run in
    let v = c.in-Return.value in
    subst (λ (w : Way). Stands p numbered x m fs (way.Return v) (resume p ks (progress w (stands m s))) (λ q. StackOverflows p q ks (progress w (stands m s)))) (sym c.in-Return.is)
    (passed_stands p (c.runs_are_resumed.ensures p) numbered x m fs s ks c.in-Work.next here v (subst (λ (w : Way). WayInside m.now.last w) c.in-Return.is inside))
