-- Visits one after another.
use Rattle.std.proofs.Common.{◌≡◌, refl, sym, ap, subst, ◌∙◌, ℕ, ◌+◌, ◌<◌, ◌≤◌, List, [], ◌∷◌, ◌++◌, length, drop, get_or}
use Rattle.std.proofs.lemmas.List.{drop_all}
use Rattle.jh_ast.specs.declared.stmt.Stmt.{Stmt}
use Rattle.jh_ast.specs.Bare.{stmt_tree, stmt_trees}
use Rattle.jh_ast.specs.Stmts.{StmtTree, StmtTrees}
use Rattle.jh_ast.specs.Stmts as s
use Rattle.jh_ast.specs.Exprs.{ExprTree}
use Rattle.jh_name.specs.declared.place.Place.{Place}
use Rattle.jh_rules.specs.Names.{Declared}
use Rattle.jh_rules.specs.Scopes.{Scope, behind, text_behind}
use Rattle.jh_symbols.proofs.scopes.Lists.{drop-at}
use Rattle.jh_vars.specs.Statements.{InScope, statements_in, inner_statements, all_statements}
use Rattle.jh_unfolding.specs.visitor.Chains.{Chain}

module _ {V X : Type 0} (step : V → V → X → Type 0) where
  pub chain-none : (a : V) → Chain step a a []
  unfolding Chain
  chain-none a = refl

  pub chain-more : (a b c : V) (x : X) (xs : List X) → step a b x → Chain step b c xs → Chain step a c (x ∷ xs)
  unfolding Chain
  chain-more a b c x xs h k = (b, h, k)

  pub chain-two : (a b c : V) (xs ys : List X) → Chain step a b xs → Chain step b c ys → Chain step a c (xs ++ ys)
  unfolding Chain
  chain-two a b c [] ys h k = subst (λ z. Chain step z c ys) (sym h) k
  chain-two a b c (x ∷ xs) ys h k = (h.0, h.1, chain-two h.0 b c xs ys h.2 k)

module _ {V : Type 0} (step : V → V → InScope → Type 0) (l : Declared) where
  -- one more statement of a list
  pub all-next : (a b : V) (at to : Scope) (ss : List Stmt) (i : ℕ) (x : Stmt) → i < length ss → x ≡ get_or ss i x → to ≡ behind l at (stmt_tree x) → Chain step a b (statements_in l (stmt_tree x) at) →
      (v : V) → Chain step b v (all_statements l (stmt_trees (drop (i + 1) ss)) to) → Chain step a v (all_statements l (stmt_trees (drop i ss)) at)
  unfolding inner_statements
  all-next a b at to ss i x lt is h k v r =
      subst (λ us. Chain step a v (all_statements l (stmt_trees us) at)) (sym (drop-at ss i x lt is))
      (chain-two step a b v (statements_in l (stmt_tree x) at) (all_statements l (stmt_trees (drop (i + 1) ss)) (behind l at (stmt_tree x))) k (subst (λ t. Chain step b v (all_statements l (stmt_trees (drop (i + 1) ss)) t)) h r))

  -- none is left
  pub all-end : (a : V) (at : Scope) (ss : List Stmt) (i : ℕ) → length ss ≤ i → Chain step a a (all_statements l (stmt_trees (drop i ss)) at)
  unfolding inner_statements
  all-end a at ss i le = subst (λ us. Chain step a a (all_statements l (stmt_trees us) at)) (sym (drop_all i ss le)) (chain-none step a)

  -- the statements in a statement of a given form
  pub inner-as : (a b : V) (at : Scope) (t u : StmtTree) → t ≡ u → Chain step a b (inner_statements l u at) → Chain step a b (inner_statements l t at)
  inner-as a b at t u e h = subst (λ (w : StmtTree). Chain step a b (inner_statements l w at)) (sym e) h

  -- both parts of a branch
  pub branch-chain : (a b c : V) (at : Scope) (p : Place) (e : ExprTree) (t : StmtTree) (us : StmtTrees) → Chain step a b (statements_in l t at) → Chain step b c (all_statements l us (text_behind at t)) → Chain step a c (inner_statements l (s.branch p e t us) at)
  unfolding inner_statements
  branch-chain a b c at p e t us h k = chain-two step a b c (statements_in l t at) (all_statements l us (text_behind at t)) h k
