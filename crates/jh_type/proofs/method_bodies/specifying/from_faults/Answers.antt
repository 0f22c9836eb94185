use Rattle.std.proofs.Common.{sym, ap, ◌∙◌, refl}
use Rattle.jh_rules.specs.Found.{lesser}
use Rattle.jh_rules.specs.Rules.{rule_27_from}
use Rattle.jh_symbols.specs.scopes.Lookings.{declared_by, scope_by}
use Rattle.jh_symbols.proofs.scopes.Lists.{least-next, least-end}
use Rattle.jh_type.proofs.method_bodies.specifying.from_faults.Goals as goal

pub loop-word-init : goal.loop-word-init
loop-word-init c = refl

pub loop-word-preserved : goal.loop-word-preserved
loop-word-preserved c = least-next (rule_27_from (declared_by c.args.lookups.now) (scope_by c.args.at.now)) c.args.words.now c.loop-word.word-index c.word-item.result c.loop-word.found c.lesser-found.result c.loop-word-test.true c.word-item.is (c.lesser-found.ensures ∙ ap (lesser c.loop-word.found) c.from_fault.ensures) ∙ c.loop-word.invariant

pub returns : goal.returns
returns c = sym (least-end (rule_27_from (declared_by c.args.lookups.now) (scope_by c.args.at.now)) c.args.words.now c.loop-word.word-index c.loop-word.found c.loop-word-test.false) ∙ c.loop-word.invariant
