use Rattle.std.proofs.Common.{◌≡◌, sym, ap, subst, ◌∙◌, true, List, [], ◌++◌, OnOk}
use Rattle.jh_ast.specs.Bare.{form_tree, program_tree}
use Rattle.jh_symbols.specs.scopes.Lookings.{declared_by}
use Rattle.jh_definitions.specs.expansion.Opening.{defined_by}
use Rattle.jh_definitions.specs.declared.reads.naming.Read.{Read}
use Rattle.jh_definitions.specs.reads.Listed.{states_in}
use Rattle.jh_rules.specs.Names.{Declared}
use Rattle.jh_vars.specs.Reading.{reads, definition_reads}
use Rattle.jh_vars.specs.States.{State}
use Rattle.jh_effects.specs.written_state.Methods.{Adds}
use Rattle.jh_effects.specs.modified_state.Modifying.{given_states, link_states}
use Rattle.jh_effects.proofs.modified_state.Parts.{reads-are}
use Rattle.jh_effects.proofs.modified_state.modifying.add_definition.Goals as goal

-- src/modifying.rt
pub returns : goal.returns
returns c =
    let p = program_tree c.args.program.now in
    let n = c.args.number in
    let d = c.args.definition.now in
    let read : states_in c.as_slice.result.now ≡ definition_reads p (defined_by d) =
    ap states_in c.as_slice.ensures.value ∙ c.in_ok-add_reads.ensures ∙ ap (λ (xs : List Read). states_in xs ++ reads (declared_by c.args.lookups.now) (form_tree d.body.now) d.class []) c.new-reads.ensures.items ∙ ap (λ (l : Declared). reads l (form_tree d.body.now) d.class []) c.requires.declared ∙ sym (reads-are p d c.requires.sound) in
    subst (λ (ys : List State). OnOk c.add_states.result (Adds c.args.flow.now c.add_states.new.flow (given_states p n ys) (link_states c.args.numbers.now true n ys))) read c.add_states.ensures
