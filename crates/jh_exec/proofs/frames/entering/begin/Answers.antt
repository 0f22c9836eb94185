use Rattle.std.proofs.Common.{◌≡◌, sym, ap, subst, ◌∙◌, ℕ, suc, ◌<◌, List, map, slice_get}
use Rattle.jh_name.specs.declared.naming.Name.{Name}
use Rattle.jh_semantics.specs.State.{this_name}
use Rattle.jh_store.specs.memory.Held.{state_of}
use Rattle.jh_operands.specs.Scalars.{datum_of}
use Rattle.jh_machine_code.specs.code.Steps.{AreParams}
use Rattle.jh_machine.specs.locals.Locals.{AllInside}
use Rattle.jh_exec.proofs.frames.Called.{begins}
use Rattle.jh_exec.proofs.frames.entering.begin.Goals as goal

pub returns-clause-state : goal.returns-clause-state
returns-clause-state c = λ m locals own params on args.
    let first = c.args.memory.now in
    let clear = c.clear.new.memory in
    let named = c.put_this.new.memory in
    let names : named.names ≡ first.names = c.put_this.ensures.names ∙ c.clear.ensures.names in
    let last : named.last ≡ first.last = c.put_this.ensures.last ∙ c.clear.ensures.last in
    begins m c.args.on (map datum_of c.args.args.now) (state_of first) (state_of clear) (state_of named) (state_of c.put_args.new.memory) (c.clear.ensures.state locals)
    (c.put_this.ensures.state this_name (ap (λ (ns : List Name). slice_get ns c.args.prepared.now.this) c.clear.ensures.names ∙ own) (subst (λ (l : ℕ). c.args.on < suc l) (sym c.clear.ensures.last) on))
    (c.put_args.ensures.state m.params (subst (λ (ks : List ℕ). AreParams named.names ks m.params) (sym c.items.ensures) (subst (λ (ns : List Name). AreParams ns c.args.body.now.params m.params) (sym names) params)) (subst (λ (l : ℕ). AllInside l c.args.args.now) (sym last) args))
