use Rattle.std.proofs.Common.{sym, ap, ◌∙◌, refl}
use Rattle.jh_ast.specs.declared.program.Method.{Method}
use Rattle.jh_rules.specs.Found.{lesser}
use Rattle.jh_symbols.specs.scopes.Firsts.{is_behind}
use Rattle.jh_symbols.proofs.scopes.Lists.{least-next, least-end}
use Rattle.jh_type.specs.checker.Parts as parts
use Rattle.jh_type.proofs.checker.faults.method_names.Goals as goal

pub loop-method-init : goal.loop-method-init
loop-method-init c = refl

pub loop-method-preserved : goal.loop-method-preserved
loop-method-preserved c = least-next (λ (x : Method). parts.member_faults (is_behind c.args.words.now) x.name) c.args.methods.now c.loop-method.method-index c.method-item.result c.loop-method.found c.lesser-found.result c.loop-method-test.true c.method-item.is (c.lesser-found.ensures ∙ ap (lesser c.loop-method.found) c.member_fault.ensures) ∙ c.loop-method.invariant

pub returns : goal.returns
returns c = sym (least-end (λ (x : Method). parts.member_faults (is_behind c.args.words.now) x.name) c.args.methods.now c.loop-method.method-index c.loop-method.found c.loop-method-test.false) ∙ c.loop-method.invariant
