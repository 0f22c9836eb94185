use Rattle.std.proofs.Common.{sym, ap, ◌∙◌, ◌++◌, ◌∷◌, [], append-nil}
use Rattle.std.specs.Option.{option_map_or}
use Rattle.jh_effects.specs.jh_vars.declared.state_names.state.StateName.{StateName}
use Rattle.jh_boxed_calls.proofs.state_lists.Selecting.{none-at, some-at}
use Rattle.jh_boxed_calls.proofs.state_lists.naming.push_name.Goals as goal

pub returns-in-None : goal.returns-in-None
returns-in-None c =
    sym (ap (λ o. c.args.names.now.items ++ option_map_or (λ (s : StateName). s.name ∷ []) o []) (none-at c.args.states.now c.args.place c.in-None.ensures.lookup.3) ∙ append-nil c.args.names.now.items)

pub returns-in_ok-push-in-Some : goal.returns-in_ok-push-in-Some
returns-in_ok-push-in-Some c =
    c.in_ok-push-in-Some.ensures.items ∙ ap (λ n. c.args.names.now.items ++ n ∷ []) c.in_ok-name-in-Some.ensures
    ∙ sym (ap (λ o. c.args.names.now.items ++ option_map_or (λ (s : StateName). s.name ∷ []) o []) (some-at c.args.states.now c.args.place c.in-Some.state.now c.in-Some.ensures.lookup.3.0 c.in-Some.ensures.lookup.1))
