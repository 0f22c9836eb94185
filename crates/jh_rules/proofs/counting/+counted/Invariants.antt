use Rattle.std.proofs.Common.{◌≡◌, ◌+◌, ◌-◌, ◌^◌, ◌≤◌, min, drop}
use Rattle.jh_ast.specs.Bare.{stmt_trees}
use Rattle.jh_rules.specs.Scopes.{all_counted}
use Rattle.jh_rules.proofs.counting.+counted.Given as goal

-- what is counted and the rest are all
abbrev pub invariant-all_counted-loop-stmt : goal.invariant-all_counted-loop-stmt
invariant-all_counted-loop-stmt l = record {
  fits : l.total ≤ 2 ^ 64 - 1;
  same : min (l.total + all_counted (stmt_trees (drop l.stmt-index l.stmts))) (2 ^ 64 - 1) ≡ min (all_counted (stmt_trees l.stmts)) (2 ^ 64 - 1);
}
