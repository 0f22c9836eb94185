use Rattle.std.proofs.Common.{◌≡◌, subst, ◌∙◌}
use Rattle.jh_name.specs.declared.naming.Name.{Name}
use Rattle.jh_store.specs.memory.Cells.{Cells}
use Rattle.jh_store.specs.memory.Held.{Held, state_of, state_in, IsNamed}
use Rattle.jh_store.proofs.memory.Writes as w
use Rattle.jh_store.proofs.memory.memory.Memory.object.Goals as goal

-- src/memory.rt
pub returns-clause-value : goal.returns-clause-value
unfolding state_in
returns-clause-value c =
    subst
    (λ (m : Held). (x : Name) → IsNamed m c.args.name x → c.object.result ≡ (state_of m).object x)
    c.self.view_is
    (λ x at. c.object.ensures ∙ w.read (record { names = c.self.inside.names.now; last = c.self.inside.last; cells = c.self.inside.slots.items }) c.self.invariant c.args.name x at c.index.result.now c.index.ensures (λ (z : Cells). z.object))
