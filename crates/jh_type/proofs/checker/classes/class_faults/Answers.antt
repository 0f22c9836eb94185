use Rattle.std.proofs.Common.{ap, ◌∙◌, map}
use Rattle.std.specs.List.{flat_map}
use Rattle.jh_ast.specs.Bare.{class_part, labelled_part, field_part, var_part, method_part}
use Rattle.jh_rules.specs.Found.{least, lesser}
use Rattle.jh_rules.specs.Statements.{field_faults, var_faults, method_faults}
use Rattle.jh_symbols.specs.scopes.Firsts.{is_behind}
use Rattle.jh_symbols.specs.scopes.Lookings.{declared_by}
use Rattle.jh_type.specs.checker.Parts as parts
use Rattle.jh_type.specs.checker.Wholes as wholes
use Rattle.jh_type.proofs.checker.Joining.{eight}
use Rattle.jh_type.proofs.checker.classes.class_faults.Goals as goal

pub returns : goal.returns
unfolding class_part
returns c =
    let name = parts.class_name_faults (is_behind c.args.names.now) c.args.class.now.name in
    let labels = wholes.label_names (map labelled_part c.args.class.now.invariants) in
    c.lesser.ensures
    ∙ (λ i. lesser ((c.in_ok-state.ensures ∙ ap (wholes.with_state (declared_by c.args.lookups.now) c.args.number (class_part c.args.class.now))
    (c.least_of_three-found.ensures ∙ (λ j. lesser (lesser (c.class_name_fault-name.ensures j) (c.in_ok-members.ensures j)) ((c.in_ok-labels.ensures ∙ ap (λ xs. least (wholes.label_names (map labelled_part xs))) c.items.ensures) j)))) i)
    ((c.in_ok-methods.ensures ∙ ap (λ xs. least (flat_map (method_faults (declared_by c.args.lookups.now) c.args.number) (map method_part xs))) c.items-2.ensures) i))
    ∙ eight name (wholes.member_names (class_part c.args.class.now)) labels (flat_map (field_faults (declared_by c.args.lookups.now)) (map field_part c.args.class.now.fields)) (flat_map (var_faults (declared_by c.args.lookups.now) c.args.number) (map var_part c.args.class.now.vars)) (wholes.all_defs (declared_by c.args.lookups.now) c.args.number (class_part c.args.class.now))
    (flat_map (parts.invariant_faults (declared_by c.args.lookups.now) c.args.number) (map labelled_part c.args.class.now.invariants)) (flat_map (method_faults (declared_by c.args.lookups.now) c.args.number) (map method_part c.args.class.now.methods))
