use Rattle.std.proofs.Common.{◌≡◌, ◌⊎◌, ap, subst, ◌∙◌, ℕ, List, Some, length}
use Rattle.jh_rules.specs.Words.{text_of}
use Rattle.jh_symbols.specs.scopes.Lookings.{declared_by}
use Rattle.jh_symbols.specs.member_numbers.Numbering.{number_in}
use Rattle.jh_definitions.specs.declared.expansion.opening.Definition.{Definition}
use Rattle.jh_definitions.proofs.dependency_order.Collected.{numbered-push, definitions-push, definition-is}
use Rattle.jh_definitions.proofs.dependency_order.collecting.add_new.Goals as goal

-- src/collecting.rt
pub returns-clause-numbered : goal.returns-clause-numbered
returns-clause-numbered c =
    let old = c.args.made.now.numbers in
    let new = c.put.new.self in
    let def = c.args.def.now in
    let noted = subst (λ (x : List ℕ). number_in new c.args.class x ≡ Some (length c.as_slice-place.result.now)) c.text.ensures c.in_ok-put.ensures.noted ∙ ap (λ (xs : List Definition). Some (length xs)) c.as_slice-place.ensures.value in
    let others = subst (λ (x : List ℕ). (e : ℕ) (y : List ℕ) → ((e ≡ c.args.class) × (y ≡ x)) ⊎ (number_in new e y ≡ number_in old e y)) c.text.ensures c.in_ok-put.ensures.others in
    numbered-push old new c.args.made.now.list.items c.push.new.self.items c.args.class (text_of def.name) c.definition_of-next.result c.in_ok-push.ensures.items noted others c.definition_of-next.ensures.of_class (ap text_of c.definition_of-next.ensures.word) c.requires.numbered

-- src/collecting.rt
pub returns-clause-sound : goal.returns-clause-sound
returns-clause-sound c = λ p declared inside found all.
    definitions-push p c.args.made.now.list.items c.push.new.self.items c.definition_of-next.result c.in_ok-push.ensures.items
    (definition-is p (declared_by c.args.lookups.now) c.args.class c.args.def.now c.definition_of-next.result declared inside found c.definition_of-next.ensures) all
