use Rattle.std.proofs.Common.{◌≡◌, sym, ap, ◌∙◌, Some, slice_get}
use Rattle.std.proofs.lemmas.Result.{IfOk-weaker}
use Rattle.jh_name.specs.declared.naming.Name.{Name}
use Rattle.jh_arena.specs.table.Entries.{the_name}
use Rattle.jh_call_commands.specs.contract_instances.Calling.{name_at, turn_at}
use Rattle.jh_call_commands.proofs.contract_instances.Callings.{name-is}
use Rattle.jh_call_commands.proofs.contract_instances.renaming.called_name.Goals as goal

pub returns-clause-name : goal.returns-clause-name
returns-clause-name c =
    let o = slice_get c.args.table.now.pools.names c.args.number in
    let first : c.name_at.result.now ≡ the_name o = sym (name-is o c.name_at.result.now c.name_at.ensures) in
    let again : c.name_at-2.result.now ≡ the_name o = sym (name-is o c.name_at-2.result.now c.name_at-2.ensures) in
    IfOk-weaker
    c.name-2.result
    (λ made. slice_get c.name-2.new.self.pools.names made ≡ Some c.in_ok-called.called)
    (λ made. slice_get c.name-2.new.self.pools.names made ≡ Some (name_at c.args.calling.now (the_name o)))
    (λ made e. e ∙ ap Some (c.in_ok-called.ensures ∙ (λ i. record { text = (c.text.ensures ∙ ap (λ (x : Name). x.text) again) i; turn = (c.in_ok-turn.ensures ∙ ap (turn_at c.args.calling.now) first) i })))
    c.name-2.ensures.number
