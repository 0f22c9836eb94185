use Rattle.std.proofs.Common.{sym, ap, ◌∙◌, refl}
use Rattle.jh_ast.specs.Bare.{def_part}
use Rattle.jh_rules.specs.Found.{least, lesser}
use Rattle.jh_symbols.specs.scopes.Firsts.{is_behind}
use Rattle.jh_symbols.specs.scopes.Lookings.{declared_by}
use Rattle.jh_symbols.proofs.scopes.Lists.{least-next, least-end}
use Rattle.jh_type.specs.checker.Parts as parts
use Rattle.jh_type.proofs.checker.Leasts.{flat-mapped}
use Rattle.jh_type.proofs.checker.faults.all_defs.Goals as goal

pub loop-definition-init : goal.loop-definition-init
loop-definition-init c = refl

pub loop-definition-preserved : goal.loop-definition-preserved
loop-definition-preserved c = least-next (λ x. (parts.def_faults (declared_by c.args.lookups.now) c.args.number (is_behind c.args.words.now)) (def_part x)) c.args.defs.now c.loop-definition.definition-index c.definition-item.result c.loop-definition.found c.lesser-found.result c.loop-definition-test.true c.definition-item.is (c.lesser-found.ensures ∙ ap (lesser c.loop-definition.found) c.in_ok-next.ensures) ∙ c.loop-definition.invariant

pub returns : goal.returns
returns c = sym (least-end (λ x. (parts.def_faults (declared_by c.args.lookups.now) c.args.number (is_behind c.args.words.now)) (def_part x)) c.args.defs.now c.loop-definition.definition-index c.loop-definition.found c.loop-definition-test.false) ∙ c.loop-definition.invariant ∙ ap least (sym (flat-mapped (parts.def_faults (declared_by c.args.lookups.now) c.args.number (is_behind c.args.words.now)) def_part c.args.defs.now))
