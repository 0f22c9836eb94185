use Rattle.std.proofs.Common.{sym, ap, ◌∙◌, refl}
use Rattle.jh_ast.specs.declared.program.SpecVar.{SpecVar}
use Rattle.jh_rules.specs.Found.{lesser}
use Rattle.jh_symbols.specs.scopes.Firsts.{is_behind}
use Rattle.jh_symbols.proofs.scopes.Lists.{least-next, least-end}
use Rattle.jh_type.specs.checker.Parts as parts
use Rattle.jh_type.proofs.checker.faults.var_names.Goals as goal

pub loop-var-init : goal.loop-var-init
loop-var-init c = refl

pub loop-var-preserved : goal.loop-var-preserved
loop-var-preserved c = least-next (λ (x : SpecVar). parts.member_faults (is_behind c.args.words.now) x.name) c.args.vars.now c.loop-var.var-index c.var-item.result c.loop-var.found c.lesser-found.result c.loop-var-test.true c.var-item.is (c.lesser-found.ensures ∙ ap (lesser c.loop-var.found) c.member_fault.ensures) ∙ c.loop-var.invariant

pub returns : goal.returns
returns c = sym (least-end (λ (x : SpecVar). parts.member_faults (is_behind c.args.words.now) x.name) c.args.vars.now c.loop-var.var-index c.loop-var.found c.loop-var-test.false) ∙ c.loop-var.invariant
