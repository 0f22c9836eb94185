use Rattle.std.proofs.Common.{subst}
use Rattle.jh_ast.specs.Bare.{form_tree}
use Rattle.jh_ast.specs.Forms as f
use Rattle.jh_rules.specs.Found.{Finds}
use Rattle.jh_rules.specs.Rules.{rule_28}
use Rattle.jh_rules.specs.Kinds.{is_number_or_set}
use Rattle.jh_type.proofs.formula_kinds.operators.complement.Goals as goal

pub returns-in-Some : goal.returns-in-Some
returns-in-Some c = λ j h. c.after.ensures j (λ u. rule_28 (is_number_or_set u) (f.place_of (form_tree c.args.form.now)) u) c.in-Some.known h c.in-Some.is (subst (λ b. Finds c.needs_kind.result (rule_28 b (f.place_of (form_tree c.args.form.now)) c.in-Some.known)) c.is_number_or_set.ensures c.needs_kind.ensures)
