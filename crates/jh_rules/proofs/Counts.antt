-- The number of statements in a list, as a loop counts them.
use Rattle.std.proofs.Common.{◌≡◌, refl, ap, ℕ, ◌+◌, ◌-◌, ◌^◌, ◌≤◌, min, List, length, drop, arith}
use Rattle.std.proofs.lemmas.List.{drop_all}
use Rattle.jh_ast.specs.declared.stmt.Stmt.{Stmt}
use Rattle.jh_ast.specs.Stmts.{StmtTree}
use Rattle.jh_ast.specs.Stmts as s
use Rattle.jh_ast.specs.Bare.{stmt_trees}
use Rattle.jh_rules.specs.Scopes.{count, all_counted}

pub part-no : all_counted s.none ≡ 0
unfolding all_counted
part-no = refl

pub part-one : (a : StmtTree) → all_counted (s.more a s.none) ≡ count a
unfolding all_counted
part-one a = omega arith

pub ruleset count_steps = (part-no, part-one)

pub counts-end : (ss : List Stmt) (i t : ℕ) → length ss ≤ i → t ≤ 2 ^ 64 - 1 → min (t + all_counted (stmt_trees (drop i ss))) (2 ^ 64 - 1) ≡ min (all_counted (stmt_trees ss)) (2 ^ 64 - 1) → t ≡ min (all_counted (stmt_trees ss)) (2 ^ 64 - 1)
unfolding all_counted
counts-end ss i t le fits h =
    let none : all_counted (stmt_trees (drop i ss)) ≡ 0 = ap (λ us. all_counted (stmt_trees us)) (drop_all i ss le) in
    omega arith
