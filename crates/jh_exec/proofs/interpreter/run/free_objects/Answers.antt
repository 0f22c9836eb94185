use Rattle.std.proofs.Common.{◌≡◌, sym, ap, ◌∙◌, arith, ℕ, suc, add-one, filter}
use Rattle.std.specs.declared.alloc.Global.{Global}
use Rattle.std.specs.declared.vec.Vec.{Vec}
use Rattle.jh_semantics.specs.Objects.{is_free, below}
use Rattle.jh_store.specs.memory.Held.{state_of, state_in}
use Rattle.jh_exec.proofs.interpreter.Whole.{one_free, none_free}
use Rattle.jh_exec.proofs.interpreter.run.free_objects.Goals as goal
use Rattle.jh_exec.proofs.interpreter.run.free_objects.Goals.{else-loop-object-test, then-loop-object-test+else-object-object-end, then-is_free+in_ok-push, else-is_free}

pub loop-object-init : goal.loop-object-init
loop-object-init c = λ named. c.new-objects.ensures.items

pub loop-object-preserved : goal.loop-object-preserved
loop-object-preserved c = λ named.
    let s = state_of c.args.memory.now in
    let n = c.loop-object.object in
    let made = c.loop-object.objects.items in
    elim c.if-is_free.branch [
      | then-is_free+in_ok-push w ↦
          ap (λ (v : Vec ℕ Global). v.items) w.objects-is
          ∙ one_free s n made w.push.new.self.items (c.loop-object.invariant named) (sym (c.is_free.ensures.free named) ∙ w.if-is_free.true) w.in_ok-push.ensures.items
          ∙ ap (λ k. filter (is_free s) (below k)) (sym (add-one n))
      | else-is_free w ↦
          ap (λ (v : Vec ℕ Global). v.items) w.objects-is
          ∙ none_free s n made (c.loop-object.invariant named) (sym (c.is_free.ensures.free named) ∙ w.if-is_free.false)
          ∙ ap (λ k. filter (is_free s) (below k)) (sym (add-one n))
    ]

pub returns : goal.returns
unfolding state_in
returns c = λ named.
    let s = state_of c.args.memory.now in
    let n = c.loop-object.object in
    let made = c.loop-object.objects.items in
    elim c.loop-object-test.branch [
      | else-loop-object-test w ↦ absurd (omega (arith, w.loop-object-test.false, c.loop-object.auto.object-end))
      | then-loop-object-test+else-object-object-end w ↦
          let end : n ≡ c.args.memory.now.last = omega (arith, c.last-object-end.ensures, w.loop-object-test.true) in
          ap (λ (v : Vec ℕ Global). v.items) w.objects-is
          ∙ (elim w.if-is_free.branch [
            | then-is_free+in_ok-push w' ↦
                ap (λ (v : Vec ℕ Global). v.items) w'.objects-is
                ∙ one_free s n made w'.push.new.self.items (c.loop-object.invariant named) (sym (w.is_free.ensures.free named) ∙ w'.if-is_free.true) w'.in_ok-push.ensures.items
            | else-is_free w' ↦ ap (λ (v : Vec ℕ Global). v.items) w'.objects-is ∙ none_free s n made (c.loop-object.invariant named) (sym (w.is_free.ensures.free named) ∙ w'.if-is_free.false)
          ])
          ∙ ap (λ k. filter (is_free s) (below (suc k))) end
    ]
