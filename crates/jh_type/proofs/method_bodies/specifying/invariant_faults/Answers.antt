use Rattle.std.proofs.Common.{sym, ap, ◌∙◌, refl}
use Rattle.jh_ast.specs.Bare.{labelled_part}
use Rattle.jh_rules.specs.Found.{least, lesser}
use Rattle.jh_symbols.specs.scopes.Lookings.{declared_by, scope_by}
use Rattle.jh_symbols.proofs.scopes.Lists.{least-next, least-end}
use Rattle.jh_type.specs.method_bodies.Parts as parts
use Rattle.jh_type.proofs.method_bodies.Leasts.{flat-mapped}
use Rattle.jh_type.proofs.method_bodies.specifying.invariant_faults.Goals as goal

pub loop-invariant-init : goal.loop-invariant-init
loop-invariant-init c = refl

pub loop-invariant-preserved : goal.loop-invariant-preserved
loop-invariant-preserved c = least-next (λ x. parts.invariant (declared_by c.args.lookups.now) (scope_by c.args.at.now) (labelled_part x)) c.args.invariants.now c.loop-invariant.invariant-index c.invariant-item.result c.loop-invariant.found c.lesser-found.result c.loop-invariant-test.true c.invariant-item.is (c.lesser-found.ensures ∙ ap (lesser c.loop-invariant.found) c.in_ok-truth.ensures) ∙ c.loop-invariant.invariant

pub returns : goal.returns
returns c = sym (least-end (λ x. parts.invariant (declared_by c.args.lookups.now) (scope_by c.args.at.now) (labelled_part x)) c.args.invariants.now c.loop-invariant.invariant-index c.loop-invariant.found c.loop-invariant-test.false) ∙ c.loop-invariant.invariant ∙ ap least (sym (flat-mapped (parts.invariant (declared_by c.args.lookups.now) (scope_by c.args.at.now)) labelled_part c.args.invariants.now))
