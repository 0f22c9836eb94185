use Rattle.std.proofs.Common.{subst, sym, ap, ◌∙◌}
use Rattle.jh_rules.specs.Found.{Finds}
use Rattle.jh_rules.specs.Rules.{rule_30_shape}
use Rattle.jh_rules.specs.Faults.{◌>>=◌}
use Rattle.jh_symbols.specs.scopes.Lookings.{declared_by}
use Rattle.jh_type.specs.formula_kinds.Parts as parts
use Rattle.jh_type.proofs.formula_kinds.shapes.path_fields.Goals as goal

pub returns-in-Some : goal.returns-in-Some
returns-in-Some c = subst (Finds c.fields_kind.result)
    (ap (parts.fields_kind (declared_by c.args.lookups.now) c.args.class c.args.place) c.items.ensures ∙ ap (λ o. rule_30_shape c.args.place o >>= parts.fields_kind (declared_by c.args.lookups.now) c.args.class c.args.place) (sym c.in-Some.is ∙ c.in_ok-body_fields.ensures))
    c.fields_kind.ensures
