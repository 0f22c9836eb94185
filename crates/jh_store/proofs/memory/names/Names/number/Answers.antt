use Rattle.std.proofs.Common.{rules, ◌≡◌, Some, slice_get, ℕ, List, ap, subst, ◌∙◌}
use Rattle.jh_name.specs.declared.naming.Name.{Name}
use Rattle.jh_store.proofs.memory.Apart.{found-there, stays}
use Rattle.jh_store.proofs.memory.names.Names.number.Goals as goal

-- src/names.rt
pub returns-in-Some-clause-number : goal.returns-in-Some-clause-number
returns-in-Some-clause-number c =
    let named : c.in_ok-named.named ≡ record { text = c.args.text.now; turn = 0 } = search rules in
    subst (λ (names : List Name). slice_get names c.in-Some.number ≡ Some (record { text = c.args.text.now; turn = 0 })) c.self.view_is (found-there c.self.inside.names.keys c.in_ok-named.named c.in-Some.number c.in-Some.ensures.index ∙ ap Some named)

-- src/names.rt
pub returns-in_ok-number-in-None-clause-grows : goal.returns-in_ok-number-in-None-clause-grows
returns-in_ok-number-in-None-clause-grows c =
    subst
    (λ (names : List Name). (n : ℕ) (x : Name) → slice_get names n ≡ Some x → slice_get c.insert_full.new.self.keys n ≡ Some x)
    c.self.view_is
    (λ n x at. ap (λ ks. slice_get ks n) c.in_ok-number-in-None.ensures.keys ∙ stays c.self.inside.names.keys c.in_ok-named.named n x at)
