use Rattle.std.proofs.Common.{◌≡◌, ◌++◌, drop}
use Rattle.jh_ast.specs.Bare.{stmt_trees, method_part}
use Rattle.jh_rules.specs.Found.{least, lesser}
use Rattle.jh_rules.specs.Statements.{all_faults}
use Rattle.jh_symbols.specs.scopes.Lookings.{declared_by, scope_by}
use Rattle.jh_type.specs.method_bodies.Scoping as scoping
use Rattle.jh_type.proofs.method_bodies.statements.+stmt_faults.Given as goal

-- what is found and the rest give what all give; behind the rest the scope and what is noted are those behind all
abbrev pub invariant-all_faults-loop-stmt : goal.invariant-all_faults-loop-stmt
invariant-all_faults-loop-stmt l = record {
  found : lesser l.found (least (all_faults (declared_by l.lookups) (method_part l.method) (stmt_trees (drop l.stmt-index l.stmts)) (scope_by l.at))) ≡ least (all_faults (declared_by l.lookups) (method_part l.method) (stmt_trees l.stmts) (scope_by l.initial.at));
  scope : scoping.after_all (declared_by l.lookups) (scope_by l.at) (stmt_trees (drop l.stmt-index l.stmts)) ≡ scoping.after_all (declared_by l.lookups) (scope_by l.initial.at) (stmt_trees l.stmts);
  undos : l.at.undos.items ++ scoping.undos_of (declared_by l.lookups) (scope_by l.at) (stmt_trees (drop l.stmt-index l.stmts)) ≡ l.initial.at.undos.items ++ scoping.undos_of (declared_by l.lookups) (scope_by l.initial.at) (stmt_trees l.stmts);
}
