use Rattle.std.proofs.Common.{subst}
use Rattle.jh_name.specs.declared.place.Kind.TheVariants as k
use Rattle.jh_rules.specs.Found.{Finds}
use Rattle.jh_rules.specs.Rules.{rule_28}
use Rattle.jh_rules.specs.Kinds.{is_number}
use Rattle.jh_type.proofs.formula_kinds.operators.number_at.Goals as goal

pub returns-in-Some : goal.returns-in-Some
returns-in-Some c = λ j h. c.after.ensures j (λ u. rule_28 (is_number u) c.args.place k.Bool) _ h c.in-Some.is (subst (λ b. Finds c.needs.result (rule_28 b c.args.place k.Bool)) c.is_number.ensures c.needs.ensures)
