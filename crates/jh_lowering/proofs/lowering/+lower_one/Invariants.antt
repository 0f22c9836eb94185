use Rattle.std.proofs.Common.{◌≡◌, ◌++◌, drop}
use Rattle.jh_ast.specs.Bare.{stmt_trees}
use Rattle.jh_symbols.specs.scopes.Lookings.{declared_by, scope_by}
use Rattle.jh_type.specs.method_bodies.Scoping as scoping
use Rattle.jh_semantics.specs.LoweredStmts.{stmts_code}
use Rattle.jh_lowering.specs.Lowering.{source_of}
use Rattle.jh_lowering.proofs.Lists.{before}
use Rattle.jh_lowering.proofs.lowering.+lower_one.Given as goal

-- what was made, with the code of the rest, is the code of all; behind the rest the scope and what is noted are those behind all
abbrev pub invariant-lower_all-loop-stmt : goal.invariant-lower_all-loop-stmt
invariant-lower_all-loop-stmt l = record {
  code : before (source_of l.context) l.made.items (stmts_code (source_of l.context) (stmt_trees (drop l.stmt-index l.stmts)) (scope_by l.at)) ≡ stmts_code (source_of l.context) (stmt_trees l.stmts) (scope_by l.initial.at);
  scope : scoping.after_all (declared_by l.context.lookups.now) (scope_by l.at) (stmt_trees (drop l.stmt-index l.stmts)) ≡ scoping.after_all (declared_by l.context.lookups.now) (scope_by l.initial.at) (stmt_trees l.stmts);
  undos : l.at.undos.items ++ scoping.undos_of (declared_by l.context.lookups.now) (scope_by l.at) (stmt_trees (drop l.stmt-index l.stmts)) ≡ l.initial.at.undos.items ++ scoping.undos_of (declared_by l.context.lookups.now) (scope_by l.initial.at) (stmt_trees l.stmts);
}
