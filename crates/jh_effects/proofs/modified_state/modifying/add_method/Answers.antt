use Rattle.std.proofs.Common.{◌≡◌, sym, ap, subst, ◌∙◌, false, List, OnOk}
use Rattle.jh_ast.specs.Bare.{program_tree}
use Rattle.jh_definitions.specs.reads.Listed.{states_in}
use Rattle.jh_rules.specs.Names.{Declared, declared_in}
use Rattle.jh_vars.specs.Reading.{fields_read}
use Rattle.jh_vars.specs.States.{State}
use Rattle.jh_effects.specs.written_state.Methods.{Adds, callee_of}
use Rattle.jh_effects.specs.modified_state.Modifying.{given_states, link_states, named_in}
use Rattle.jh_effects.proofs.modified_state.Parts.{named-is}
use Rattle.jh_effects.proofs.modified_state.modifying.add_method.Goals as goal

-- src/modifying.rt
pub returns : goal.returns
returns c =
    let p = program_tree c.args.program.now in
    let n = c.args.number in
    let listed = c.args.listed.now in
    let named : states_in c.as_slice.result.now ≡ named_in p (callee_of listed) =
    ap states_in c.as_slice.ensures.value ∙ c.in_ok-named.ensures ∙ ap (λ (l : Declared). fields_read l listed.class c.items.result.now) c.requires.declared ∙ ap (fields_read (declared_in p) listed.class) c.items.ensures ∙ sym (named-is p (callee_of listed) listed.method.now c.requires.sound) in
    subst (λ (ys : List State). OnOk c.add_states.result (Adds c.args.flow.now c.add_states.new.flow (given_states p n ys) (link_states c.args.numbers.now false n ys))) named c.add_states.ensures
