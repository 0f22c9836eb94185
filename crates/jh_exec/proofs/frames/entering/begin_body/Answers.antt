use Rattle.std.proofs.Common.{◌≡◌, sym, subst, refl, ℕ, Bool, List, is_some}
use Rattle.std.proofs.lemmas.Result.{on_ok_weaker}
use Rattle.jh_name.specs.declared.naming.Name.{Name}
use Rattle.jh_store.specs.memory.Held.{state_of}
use Rattle.jh_machine_code.specs.declared.code.step.Step.{Step}
use Rattle.jh_machine_code.specs.code.Steps.{AreSteps}
use Rattle.jh_machine.specs.continuation.Todos.{rest}
use Rattle.jh_machine.specs.machine.Machines.{EntryIs}
use Rattle.jh_exec.specs.frames.Frames.{IsWaiting, WorkIs}
use Rattle.jh_exec.proofs.frames.Standing.{run_begun}
use Rattle.jh_exec.proofs.frames.entering.begin_body.Goals as goal

pub returns-clause-on : goal.returns-clause-on
unfolding WorkIs
returns-clause-on c = λ p numbered ks m h body on args.
    let x = c.args.prepared.now in
    let old = c.args.machine.now in
    let new = c.begin.new.memory in
    let entry = c.in_ok-entry.entry in
    let names : new.names ≡ old.now.names = c.begin.ensures.names in
    let last : new.last ≡ old.now.last = c.begin.ensures.last in
    let s = state_of old.now in
    let waits = subst (λ (ns : List Name). IsWaiting p numbered x ns new.last c.args.frames.now.items ks) (sym names) (subst (λ (l : ℕ). IsWaiting p numbered x old.now.names l c.args.frames.now.items ks) (sym last) h) in
    let known = subst (λ (ns : List Name). EntryIs ns new.last entry s) (sym names) (subst (λ (l : ℕ). EntryIs old.now.names l entry s) (sym last) c.in_ok-entry.ensures.entry) in
    let steps = subst (λ (ns : List Name). AreSteps ns x.table.now numbered (is_some entry) c.items.result.now m.body) (sym names)
    (subst (λ (b : Bool). AreSteps old.now.names x.table.now numbered b c.items.result.now m.body) (sym c.in_ok-entry.ensures.keeps)
    (subst (λ (xs : List Step). AreSteps old.now.names x.table.now numbered c.args.body.now.keeps_entry xs m.body) (sym c.items.ensures) body.steps)) in
    on_ok_weaker c.push.result
    (λ pushed. record {
      same = refl;
      state = c.begin.ensures.state m h.prepared.locals h.prepared.own body.params on args;
      is_run = run_begun p numbered x new.names new.last entry c.args.frames.now.items c.push.new.frames.items s ks _ (rest m.body) pushed (m.body, steps, refl) known waits;
    })
    c.push.ensures.on
