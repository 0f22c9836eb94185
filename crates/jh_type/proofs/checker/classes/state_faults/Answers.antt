use Rattle.std.proofs.Common.{ap, ◌∙◌, map}
use Rattle.std.specs.List.{flat_map}
use Rattle.jh_ast.specs.Bare.{class_part, labelled_part, field_part, var_part}
use Rattle.jh_rules.specs.Found.{least, lesser}
use Rattle.jh_rules.specs.Statements.{field_faults, var_faults}
use Rattle.jh_symbols.specs.scopes.Lookings.{declared_by}
use Rattle.jh_type.specs.checker.Parts as parts
use Rattle.jh_type.proofs.checker.classes.state_faults.Goals as goal

pub returns : goal.returns
unfolding class_part
returns c =
    c.least_of_three.ensures
    ∙ (λ i. lesser (lesser ((c.least_of_three-state.ensures
    ∙ (λ j. lesser (lesser c.args.found ((c.all_fields-fields.ensures ∙ ap (λ xs. least (flat_map (field_faults (declared_by c.args.lookups.now)) (map field_part xs))) c.items.ensures) j)) ((c.all_vars-vars.ensures ∙ ap (λ xs. least (flat_map (var_faults (declared_by c.args.lookups.now) c.args.number) (map var_part xs))) c.items-2.ensures) j))) i)
    (c.in_ok-defs.ensures i)) ((c.in_ok-invariants.ensures ∙ ap (λ xs. least (flat_map (parts.invariant_faults (declared_by c.args.lookups.now) c.args.number) (map labelled_part xs))) c.items-3.ensures) i))
