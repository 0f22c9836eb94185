use Rattle.std.proofs.Common.{◌≡◌, ap, ◌∙◌, map}
use Rattle.std.proofs.lemmas.Result.{IfOk-weaker}
use Rattle.jh_ast.specs.Bare.{program_tree}
use Rattle.jh_vars.specs.Written.{all_state}
use Rattle.jh_effects.specs.written_state.Keys.{key_of, key_of_state}
use Rattle.jh_effects.proofs.written_state.Keying.{states-keyed}
use Rattle.jh_effects.proofs.written_state.keys.key_list.Goals as goal

-- src/keys.rt
pub returns : goal.returns
returns c =
    let p = program_tree c.args.program.now in
    IfOk-weaker
    c.keys_of.result
    (λ made. made.items ≡ map key_of_state c.in_ok-states.states.items)
    (λ made. made.items ≡ map (key_of p) (all_state p))
    (λ made e. e ∙ ap (map key_of_state) c.in_ok-states.ensures.list ∙ states-keyed p)
    c.keys_of.ensures
