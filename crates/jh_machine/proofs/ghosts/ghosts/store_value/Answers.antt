use Rattle.std.proofs.Common.{sym, ap, ◌∙◌, suc, ◌&&◌, nat_lt}
use Rattle.jh_form.specs.Meaning.{Datum}
use Rattle.jh_semantics.specs.State.{named, stored}
use Rattle.jh_store.specs.memory.Held.{state_of, state_in}
use Rattle.jh_operands.specs.Exprs.{text_at}
use Rattle.jh_machine.proofs.ghosts.NodeSteps.{scalar_is, set_members, field_stored}
use Rattle.jh_machine.proofs.ghosts.ghosts.store_value.Goals as goal

pub returns-in-Scalar-clause-state : goal.returns-in-Scalar-clause-state
returns-in-Scalar-clause-state c = λ d plain inside is.
    let m = c.args.memory.now in
    let h = scalar_is m.last c.args.value d inside is c.in-Scalar.value c.in-Scalar.is in
    c.put_name.ensures.state plain h.0 ∙ ap (λ (z : Datum). stored (state_of m) (text_at m.names c.args.name) z) (sym h.1)

pub returns-in-Set-clause-state : goal.returns-in-Set-clause-state
unfolding state_in
returns-in-Set-clause-state c = λ d plain inside is.
    let m = c.args.memory.now in
    let h = set_members m.last c.args.value d inside is c.in-Set.members c.in-Set.is in
    c.put_set.ensures.state (named (text_at m.names c.args.name)) plain (λ a. nat_lt a (suc m.last) && h.0 a) h.2 ∙ ap (λ (z : Datum). stored (state_of m) (text_at m.names c.args.name) z) (sym h.1)

pub returns-in-Field-clause-state : goal.returns-in-Field-clause-state
returns-in-Field-clause-state c = λ d plain inside is.
    let m = c.args.memory.now in
    field_stored m.last c.args.value d inside is c.in-Field.is (state_of m) (text_at m.names c.args.name)
