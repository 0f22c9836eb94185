use Rattle.std.proofs.Common.{subst, false}
use Rattle.jh_rules.specs.Faults.{right}
use Rattle.jh_rules.specs.Found.{Finds}
use Rattle.jh_rules.specs.Kinds.{class_of}
use Rattle.jh_symbols.proofs.scopes.expressions.value_class.Goals as goal

-- src/expressions.rt
pub returns-in-Some : goal.returns-in-Some
returns-in-Some c = λ j h. c.after.ensures j (λ t. right (class_of t, false)) c.in-Some.ty h c.in-Some.is (subst (λ k. Finds c.right.result (right (k, false))) c.class_of.ensures c.right.ensures)
