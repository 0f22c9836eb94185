use Rattle.std.proofs.Common.{sym, ap, ◌∙◌, refl}
use Rattle.std.specs.List.{flat_map}
use Rattle.jh_rules.specs.Found.{lesser}
use Rattle.jh_symbols.specs.scopes.Firsts.{is_behind}
use Rattle.jh_symbols.proofs.scopes.Lists.{least-next, least-end}
use Rattle.jh_type.specs.checker.Parts as parts
use Rattle.jh_type.proofs.checker.faults.label_names.Goals as goal

pub loop-invariant-init : goal.loop-invariant-init
loop-invariant-init c = refl

pub loop-invariant-preserved : goal.loop-invariant-preserved
loop-invariant-preserved c = least-next (λ x. flat_map (parts.label_faults (is_behind c.args.words.now)) (parts.words_of x)) c.args.invariants.now c.loop-invariant.invariant-index c.invariant-item.result c.loop-invariant.found c.lesser-found.result c.loop-invariant-test.true c.invariant-item.is (c.lesser-found.ensures ∙ ap (lesser c.loop-invariant.found) c.label_fault.ensures) ∙ c.loop-invariant.invariant

pub returns : goal.returns
returns c = sym (least-end (λ x. flat_map (parts.label_faults (is_behind c.args.words.now)) (parts.words_of x)) c.args.invariants.now c.loop-invariant.invariant-index c.loop-invariant.found c.loop-invariant-test.false) ∙ c.loop-invariant.invariant
