use Rattle.std.proofs.Common.{refl, sym, subst, Option}
use Rattle.std.proofs.lemmas.Result.{on_ok_weaker}
use Rattle.jh_machine.specs.continuation.Todos.{return_to}
use Rattle.jh_store.specs.memory.Held.{Held}
use Rattle.jh_machine.specs.machine.Machines.{stands, EntryIs}
use Rattle.jh_exec.proofs.frames.Standing.{pushed_back}
use Rattle.jh_exec.proofs.frames.calling.wait_for.Goals as goal

pub returns-clause-entry : goal.returns-clause-entry
unfolding EntryIs
returns-clause-entry c = λ s.
    let m = c.args.machine.now.now in
    on_ok_weaker c.push.result (λ pushed. subst (λ (o : Option Held). EntryIs m.names m.last o s) (sym c.take-entry.ensures.after) tt) c.push.ensures.on

pub returns-clause-waits : goal.returns-clause-waits
returns-clause-waits c = λ p numbered s ks t run goes.
    let x = c.args.prepared.now in
    let m = c.args.machine.now in
    let k = return_to (stands m s) t c.args.object in
    on_ok_weaker c.push.result
    (λ h. pushed_back p numbered x m.now.names m.now.last m.entry c.args.frames.now.items c.push.new.frames.items s ks _ k h
    (record {
      caller = stands m s;
      target = t;
      goes = goes;
      saved = c.in_ok-saved.ensures.saved run.prepared.locals;
      inside = c.in_ok-saved.ensures.inside;
      known = c.in_ok-saved.ensures.known;
      entry = subst (λ (o : Option Held). EntryIs m.now.names m.now.last o s) (sym c.take-entry.ensures.value) run.entry_is;
      is = refl;
    }) c.take-entry.ensures.value run)
    c.push.ensures.on
