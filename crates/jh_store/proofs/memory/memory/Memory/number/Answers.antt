use Rattle.std.proofs.Common.{rules, ◌≡◌, subst, ◌∙◌}
use Rattle.jh_name.specs.declared.naming.Name.{Name}
use Rattle.jh_store.specs.memory.Held.{Held, state_of, IsNamed}
use Rattle.jh_store.proofs.memory.Writes as w
use Rattle.jh_store.proofs.memory.memory.Memory.number.Goals as goal

-- src/memory.rt
pub returns : goal.returns
returns c =
    let read : (x : Name) → IsNamed c.args.self.now c.args.name x → c.number.result ≡ (state_of c.args.self.now).number x =
    subst
    (λ (m : Held). (x : Name) → IsNamed m c.args.name x → c.number.result ≡ (state_of m).number x)
    c.self.view_is
    (λ x at. c.number.ensures ∙ w.number_read (record { names = c.self.inside.names.now; last = c.self.inside.last; cells = c.self.inside.slots.items }) c.self.invariant c.args.name x at c.index.result.now c.index.ensures) in
    λ x at. let e = read x at in search rules
