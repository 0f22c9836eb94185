use Rattle.std.proofs.Common.{refl}
use Rattle.jh_ast.specs.Bare.{stmt_tree}
use Rattle.jh_symbols.specs.scopes.Lookings.{declared_by, scope_by}
use Rattle.jh_effects.proofs.direct_effects.Adding.{on-ok, adds-of}
use Rattle.jh_effects.proofs.direct_effects.gathering.GatheringVisit.visit.Goals as goal

pub returns-clause-visited : goal.returns-clause-visited
returns-clause-visited c = on-ok c.add_statement.result (λ h. record {
  lookups = refl;
  adds = λ p e. adds-of c.args.self.now.effects c.add_statement.new.effects (declared_by c.args.self.now.lookups.now) p (scope_by c.args.at.now) (stmt_tree c.args.stmt.now) e h;
}) c.add_statement.ensures
