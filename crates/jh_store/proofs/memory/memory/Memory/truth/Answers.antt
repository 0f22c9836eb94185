use Rattle.std.proofs.Common.{◌≡◌, subst, ◌∙◌}
use Rattle.jh_name.specs.declared.naming.Name.{Name}
use Rattle.jh_store.specs.memory.Cells.{Cells}
use Rattle.jh_store.specs.memory.Held.{Held, state_of, state_in, IsNamed}
use Rattle.jh_store.proofs.memory.Writes as w
use Rattle.jh_store.proofs.memory.memory.Memory.truth.Goals as goal

-- src/memory.rt
pub returns : goal.returns
unfolding state_in
returns c =
    subst
    (λ (m : Held). (x : Name) → IsNamed m c.args.name x → c.truth.result ≡ (state_of m).truth x)
    c.self.view_is
    (λ x at. c.truth.ensures ∙ w.read (record { names = c.self.inside.names.now; last = c.self.inside.last; cells = c.self.inside.slots.items }) c.self.invariant c.args.name x at c.index.result.now c.index.ensures (λ (z : Cells). z.truth))
