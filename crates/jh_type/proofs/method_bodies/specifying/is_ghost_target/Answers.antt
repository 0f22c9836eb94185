use Rattle.jh_symbols.specs.scopes.Lookings.{declared_by, scope_by}
use Rattle.jh_type.proofs.method_bodies.Others.{not-ghost}
use Rattle.jh_type.proofs.method_bodies.specifying.is_ghost_target.Goals as goal

-- src/specifying.rt
pub returns-in_default : goal.returns-in_default
returns-in_default c = not-ghost (declared_by c.args.lookups.now) (scope_by c.args.at.now) c.args.form.now.place c.args.form.now.body c.in_default.not-Name c.in_default.not-Member
