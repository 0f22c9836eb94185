use Rattle.std.proofs.Common.{subst, sym}
use Rattle.jh_ast.specs.Bare.{call_tree, rhs_tree}
use Rattle.jh_rules.specs.Found.{Finds, asked_of}
use Rattle.jh_rules.specs.Exprs.{call_type}
use Rattle.jh_rules.specs.Rules.{rule_24_value}
use Rattle.jh_rules.specs.Statements.{rhs_type}
use Rattle.jh_symbols.specs.scopes.Lookings.{declared_by, scope_by}
use Rattle.jh_type.proofs.method_bodies.assigning.rhs_type.Goals as goal

pub returns-in-Call : goal.returns-in-Call
unfolding rhs_tree
returns-in-Call c = subst (λ x. Finds c.call_value.result (rhs_type (declared_by c.args.lookups.now) (scope_by c.args.at.now) (rhs_tree x))) (sym c.in-Call.is) (subst (λ p. Finds c.call_value.result (asked_of (call_type (declared_by c.args.lookups.now) (scope_by c.args.at.now) (call_tree c.in-Call.call)) (rule_24_value p))) c.call_place.ensures (c.call_value.ensures _ c.call_type.ensures))
