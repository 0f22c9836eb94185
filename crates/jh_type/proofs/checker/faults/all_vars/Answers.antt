use Rattle.std.proofs.Common.{sym, ap, ◌∙◌, refl}
use Rattle.jh_ast.specs.Bare.{var_part}
use Rattle.jh_rules.specs.Found.{least, lesser}
use Rattle.jh_rules.specs.Statements as statements
use Rattle.jh_symbols.specs.scopes.Lookings.{declared_by}
use Rattle.jh_symbols.proofs.scopes.Lists.{least-next, least-end}
use Rattle.jh_type.proofs.checker.Leasts.{flat-mapped}
use Rattle.jh_type.proofs.checker.faults.all_vars.Goals as goal

pub loop-var-init : goal.loop-var-init
loop-var-init c = refl

pub loop-var-preserved : goal.loop-var-preserved
loop-var-preserved c = least-next (λ x. (statements.var_faults (declared_by c.args.lookups.now) c.args.number) (var_part x)) c.args.vars.now c.loop-var.var-index c.var-item.result c.loop-var.found c.lesser-found.result c.loop-var-test.true c.var-item.is (c.lesser-found.ensures ∙ ap (lesser c.loop-var.found) c.var_fault.ensures) ∙ c.loop-var.invariant

pub returns : goal.returns
returns c = sym (least-end (λ x. (statements.var_faults (declared_by c.args.lookups.now) c.args.number) (var_part x)) c.args.vars.now c.loop-var.var-index c.loop-var.found c.loop-var-test.false) ∙ c.loop-var.invariant ∙ ap least (sym (flat-mapped (statements.var_faults (declared_by c.args.lookups.now) c.args.number) var_part c.args.vars.now))
