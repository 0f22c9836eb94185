use Rattle.std.proofs.Common.{subst, ap, ◌∙◌, ◌≡◌, IfOk}
use Rattle.jh_ast.specs.Bare.{method_part}
use Rattle.jh_symbols.specs.scopes.Lookings.{declared_by}
use Rattle.jh_type.specs.method_bodies.Parts as parts
use Rattle.jh_type.proofs.method_bodies.Wholes.{method-is}
use Rattle.jh_type.proofs.method_bodies.methods.method_faults.Goals as goal

pub returns : goal.returns
unfolding method_part
returns c = subst (λ o. IfOk c.faults_in.result (λ found. found ≡ o))
    (ap (λ s. parts.method_least (declared_by c.args.lookups.now) c.args.class s (method_part c.args.method.now)) c.outermost-at.ensures ∙ method-is (declared_by c.args.lookups.now) c.args.class (method_part c.args.method.now))
    c.faults_in.ensures
