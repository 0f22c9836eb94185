use Rattle.std.proofs.Common.{subst}
use Rattle.jh_ast.specs.Bare.{form_trees}
use Rattle.jh_name.specs.declared.place.Kind.TheVariants as k
use Rattle.jh_rules.specs.Found.{Finds}
use Rattle.jh_rules.specs.Rules.{rule_28}
use Rattle.jh_type.specs.formula_kinds.Parts as parts
use Rattle.jh_type.proofs.formula_kinds.formulas.braces.Goals as goal

pub returns-in-Some : goal.returns-in-Some
returns-in-Some c = λ j h. c.after.ensures j (parts.braces c.args.place (form_trees c.args.items.now)) _ h c.in-Some.is (subst (λ p. Finds c.needs.result (rule_28 c.in-Some.good p k.Set)) c.first_place.ensures c.needs.ensures)
