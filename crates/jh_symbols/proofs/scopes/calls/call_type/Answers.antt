use Rattle.std.proofs.Common.{refl, ap, ◌∙◌}
use Rattle.jh_rules.specs.Found.{least, lesser}
use Rattle.jh_symbols.specs.scopes.Lookings.{declared_by, scope_by}
use Rattle.jh_symbols.specs.scopes.Asking.{all_faults}
use Rattle.jh_symbols.proofs.scopes.Results.{finds-call}
use Rattle.jh_symbols.proofs.scopes.calls.call_type.Goals as goal

-- src/calls.rt
pub returns : goal.returns
returns c = finds-call (declared_by c.args.lookups.now) (scope_by c.args.at.now) c.args.call.now c.callee_type-found.result _ c.callee_type-found.ensures refl
    (c.lesser.ensures ∙ ap (λ x. lesser x c.callee_type-found.result.least) (c.least_in.ensures ∙ ap (λ es. least (all_faults (declared_by c.args.lookups.now) (scope_by c.args.at.now) es)) c.items.ensures))
