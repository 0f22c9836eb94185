-- The last statement of a list.
use Rattle.std.proofs.Common.{◌≡◌, refl, List, [], ◌∷◌, false, ap, ◌∙◌, suc, ◌-◌, ◌≤◌, length, get_or, arith}
use Rattle.jh_ast.specs.declared.stmt.Stmt.{Stmt}
use Rattle.jh_ast.specs.Stmts as s
use Rattle.jh_ast.specs.Bare.{stmt_tree, stmt_trees}
use Rattle.jh_rules.specs.Scopes.{is_closed, ends_closed, is_closed_part}
use Rattle.jh_ast.specs.Stmts.{StmtTree}

shorter : (b : Stmt) (ss : List Stmt) (a : Stmt) → 1 ≤ length ss → get_or (b ∷ ss) (length (b ∷ ss) - 1) a ≡ get_or ss (length ss - 1) a
shorter b [] a le = absurd (omega arith)
shorter b (c ∷ rest) a le =
    let n : length (b ∷ c ∷ rest) - 1 ≡ suc (length (c ∷ rest) - 1) = omega arith in
    rw (n) refl

pub ends-none : ends_closed (stmt_trees []) ≡ false
unfolding ends_closed
ends-none = refl

-- the last statement decides
pub ends-last : (ss : List Stmt) (a : Stmt) → 1 ≤ length ss → a ≡ get_or ss (length ss - 1) a → is_closed (stmt_tree a) ≡ ends_closed (stmt_trees ss)
unfolding ends_closed
ends-last [] a le e = absurd (omega arith)
ends-last (b ∷ []) a le e = ap (λ x. is_closed (stmt_tree x)) e
ends-last (b ∷ c ∷ rest) a le e = ends-last (c ∷ rest) a (omega arith) (e ∙ shorter b (c ∷ rest) a (omega arith))

pub part-none : is_closed_part s.none ≡ false
unfolding is_closed_part
part-none = refl

pub part-some : (a : StmtTree) → is_closed_part (s.more a s.none) ≡ is_closed a
unfolding is_closed_part
part-some a = refl

pub ruleset end_steps = (ends-none, part-none, part-some)
