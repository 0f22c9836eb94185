use Rattle.std.proofs.Common.{sym, ap, ◌∙◌, ◌++◌, append-nil}
use Rattle.std.proofs.lemmas.List.{drop_all}
use Rattle.jh_effects.specs.jh_vars.Written.{all_state, written_name}
use Rattle.jh_boxed_calls.proofs.state_lists.Selecting.{names_of, named}
use Rattle.jh_boxed_calls.proofs.state_lists.naming.names_at.Goals as goal

pub returns : goal.returns
returns c = λ p test same at.
    named (written_name p) c.args.states.now (all_state p) same test c.args.places.now c.loop-place.names.items
    (sym (append-nil c.loop-place.names.items) ∙ ap (λ l. c.loop-place.names.items ++ names_of c.args.states.now l) (sym (drop_all c.loop-place.place-index c.args.places.now c.loop-place-test.false)) ∙ c.loop-place.invariant)
    at
