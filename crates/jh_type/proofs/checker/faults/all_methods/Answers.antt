use Rattle.std.proofs.Common.{sym, ap, ◌∙◌, refl}
use Rattle.jh_ast.specs.Bare.{method_part}
use Rattle.jh_rules.specs.Found.{least, lesser}
use Rattle.jh_rules.specs.Statements as statements
use Rattle.jh_symbols.specs.scopes.Lookings.{declared_by}
use Rattle.jh_symbols.proofs.scopes.Lists.{least-next, least-end}
use Rattle.jh_type.proofs.checker.Leasts.{flat-mapped}
use Rattle.jh_type.proofs.checker.faults.all_methods.Goals as goal

pub loop-method-init : goal.loop-method-init
loop-method-init c = refl

pub loop-method-preserved : goal.loop-method-preserved
loop-method-preserved c = least-next (λ x. (statements.method_faults (declared_by c.args.lookups.now) c.args.number) (method_part x)) c.args.methods.now c.loop-method.method-index c.method-item.result c.loop-method.found c.lesser-found.result c.loop-method-test.true c.method-item.is (c.lesser-found.ensures ∙ ap (lesser c.loop-method.found) c.in_ok-next.ensures) ∙ c.loop-method.invariant

pub returns : goal.returns
returns c = sym (least-end (λ x. (statements.method_faults (declared_by c.args.lookups.now) c.args.number) (method_part x)) c.args.methods.now c.loop-method.method-index c.loop-method.found c.loop-method-test.false) ∙ c.loop-method.invariant ∙ ap least (sym (flat-mapped (statements.method_faults (declared_by c.args.lookups.now) c.args.number) method_part c.args.methods.now))
