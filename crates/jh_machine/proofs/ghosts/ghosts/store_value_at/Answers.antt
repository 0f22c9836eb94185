use Rattle.std.proofs.Common.{sym, ap, ◌∙◌, suc, ◌&&◌, nat_lt}
use Rattle.std.proofs.lemmas.Result.{on_ok_weaker}
use Rattle.jh_form.specs.Meaning.{Datum}
use Rattle.jh_semantics.specs.State.{named, stored_at}
use Rattle.jh_store.specs.memory.Held.{state_of, state_in}
use Rattle.jh_operands.specs.Exprs.{text_at}
use Rattle.jh_machine.proofs.ghosts.NodeSteps.{scalar_is, set_members, field_stored_at}
use Rattle.jh_machine.proofs.ghosts.ghosts.store_value_at.Goals as goal

pub returns-in-Scalar-clause-state : goal.returns-in-Scalar-clause-state
returns-in-Scalar-clause-state c = λ d plain inside is.
    let m = c.args.memory.now in
    let h = scalar_is m.last c.args.value d inside is c.in-Scalar.value c.in-Scalar.is in
    on_ok_weaker c.put_field.result (λ q. q plain h.0 ∙ ap (λ (z : Datum). stored_at (state_of m) (text_at m.names c.args.field) c.args.at z) (sym h.1)) c.put_field.ensures.state

pub returns-in-Set-clause-state : goal.returns-in-Set-clause-state
unfolding state_in
returns-in-Set-clause-state c = λ d plain inside is.
    let m = c.args.memory.now in
    let h = set_members m.last c.args.value d inside is c.in-Set.members c.in-Set.is in
    on_ok_weaker c.put_set_at.result
    (λ q. q (named (text_at m.names c.args.field)) plain (λ a. nat_lt a (suc m.last) && h.0 a) h.2 ∙ ap (λ (z : Datum). stored_at (state_of m) (text_at m.names c.args.field) c.args.at z) (sym h.1)) c.put_set_at.ensures.state

pub returns-in-Field-clause-state : goal.returns-in-Field-clause-state
returns-in-Field-clause-state c = λ d plain inside is.
    let m = c.args.memory.now in
    field_stored_at m.last c.args.value d is c.in-Field.is (state_of m) (text_at m.names c.args.field) c.args.at
