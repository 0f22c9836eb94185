use Rattle.std.proofs.Common.{None}
use Rattle.jh_rules.specs.Rules.{rule_15}
use Rattle.jh_rules.specs.Exprs.{receiver}
use Rattle.jh_symbols.specs.scopes.Lookings.{declared_by, scope_by}
use Rattle.jh_symbols.proofs.scopes.expressions.value_member.Goals as goal

-- src/expressions.rt
pub returns-in-None : goal.returns-in-None
returns-in-None c = λ j h. c.stop.ensures (receiver (declared_by c.args.lookups.now) (scope_by c.args.at.now) None j) (λ r. rule_15 (declared_by c.args.lookups.now) r.0 r.1 c.args.place c.args.text.now) (c.value_class-class.ensures j h) c.in-None.is

-- src/expressions.rt
pub returns-in-Some : goal.returns-in-Some
returns-in-Some c = λ j h. c.after.ensures (receiver (declared_by c.args.lookups.now) (scope_by c.args.at.now) None j) (λ r. rule_15 (declared_by c.args.lookups.now) r.0 r.1 c.args.place c.args.text.now) _ (c.value_class-class.ensures j h) c.in-Some.is c.member_of.ensures
