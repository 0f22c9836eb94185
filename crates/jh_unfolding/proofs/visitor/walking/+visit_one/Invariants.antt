use Rattle.std.proofs.Common.{◌≡◌, ◌++◌, drop}
use Rattle.jh_ast.specs.Bare.{stmt_trees}
use Rattle.jh_symbols.specs.scopes.Lookings.{declared_by, scope_by}
use Rattle.jh_type.specs.method_bodies.Scoping as scoping
use Rattle.jh_vars.specs.Statements.{all_statements}
use Rattle.jh_unfolding.specs.visitor.Chains.{Chain}
use Rattle.jh_unfolding.proofs.visitor.walking.+visit_one.Given as goal

-- what comes of the rest comes of all; behind the rest the scope and what is noted are those behind all
abbrev pub invariant-visit_all-loop-stmt : goal.invariant-visit_all-loop-stmt
invariant-visit_all-loop-stmt g l = record {
  ready : g.V.Visit.ready l.visitor;
  visited : (v : _) → Chain g.V.Visit.step l.visitor v (all_statements (declared_by l.lookups) (stmt_trees (drop l.stmt-index l.stmts)) (scope_by l.at)) → Chain g.V.Visit.step l.initial.visitor v (all_statements (declared_by l.lookups) (stmt_trees l.stmts) (scope_by l.initial.at));
  scope : scoping.after_all (declared_by l.lookups) (scope_by l.at) (stmt_trees (drop l.stmt-index l.stmts)) ≡ scoping.after_all (declared_by l.lookups) (scope_by l.initial.at) (stmt_trees l.stmts);
  undos : l.at.undos.items ++ scoping.undos_of (declared_by l.lookups) (scope_by l.at) (stmt_trees (drop l.stmt-index l.stmts)) ≡ l.initial.at.undos.items ++ scoping.undos_of (declared_by l.lookups) (scope_by l.initial.at) (stmt_trees l.stmts);
}
