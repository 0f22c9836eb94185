use Rattle.std.proofs.Common.{ap, ◌∙◌}
use Rattle.std.specs.List.{flat_map}
use Rattle.jh_rules.specs.Found.{least}
use Rattle.jh_symbols.specs.scopes.Firsts.{is_behind}
use Rattle.jh_type.specs.checker.Parts as parts
use Rattle.jh_type.proofs.checker.Joining.{members-is}
use Rattle.jh_ast.specs.declared.program.Field.{Field}
use Rattle.jh_ast.specs.declared.program.Method.{Method}
use Rattle.jh_ast.specs.declared.program.SpecVar.{SpecVar}
use Rattle.jh_type.proofs.checker.classes.member_names.Goals as goal

pub returns : goal.returns
returns c = members-is (is_behind c.in_ok-words.words) c.args.class.now c.field_names-fields.result c.method_names-methods.result c.var_names-vars.result _ c.in_ok-words.ensures
    (c.field_names-fields.ensures ∙ ap (λ xs. least (flat_map (λ (f : Field). parts.member_faults (is_behind c.in_ok-words.words) f.name) xs)) c.items.ensures)
    (c.method_names-methods.ensures ∙ ap (λ xs. least (flat_map (λ (f : Method). parts.member_faults (is_behind c.in_ok-words.words) f.name) xs)) c.items-2.ensures)
    (c.var_names-vars.ensures ∙ ap (λ xs. least (flat_map (λ (f : SpecVar). parts.member_faults (is_behind c.in_ok-words.words) f.name) xs)) c.items-3.ensures)
    c.least_of_three.ensures
