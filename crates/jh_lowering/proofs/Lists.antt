-- The code of lists of statements, one after the other.
use Rattle.std.proofs.Common.{◌≡◌, refl, sym, ap, ◌∙◌, ℕ, ◌+◌, ◌<◌, ◌≤◌, List, [], ◌∷◌, ◌++◌, length, drop, get_or, Result, Ok, Err, IfOk, OnOk}
use Rattle.std.proofs.lemmas.List.{drop_all}
use Rattle.std.specs.declared.alloc.Global.{Global}
use Rattle.std.specs.declared.boxed.Box.{Box}
use Rattle.jh_ast.specs.declared.stmt.Stmt.{Stmt}
use Rattle.jh_ast.specs.Stmts.{StmtTree}
use Rattle.jh_ast.specs.Bare.{stmt_tree, stmt_trees}
use Rattle.jh_ast.specs.Programs.{ProgramTree}
use Rattle.jh_rules.specs.Names.{declared_in}
use Rattle.jh_rules.specs.Scopes.{Scope, behind}
use Rattle.jh_symbols.proofs.scopes.Lists.{drop-at}
use Rattle.jh_semantics.specs.Code as c
use Rattle.jh_semantics.specs.LoweredStmts.{stmt_code, stmts_code}
use Rattle.jh_semantics.specs.declared.typed_code.stmts.Code.{Code}
use Rattle.jh_semantics.specs.typed_code.Statements.{code_in, codes_in}

-- what is so in any case is so where the answer is Ok
pub on-ok : {A E P : Type 0} (r : Result A E) → P → OnOk r P
on-ok (Ok x) h = h
on-ok (Err e) h = tt

module _ (p : ProgramTree) where
  -- code that was made, and statements behind it
  abbrev pub before : List Code → c.Stmts → c.Stmts
  before [] rest = rest
  before (a ∷ made) rest = c.more (code_in p a) (before made rest)

  before-push : (made : List Code) (a : Code) (rest : c.Stmts) → before (made ++ a ∷ []) rest ≡ before made (c.more (code_in p a) rest)
  before-push [] a rest = refl
  before-push (x ∷ made) a rest = ap (c.more (code_in p x)) (before-push made a rest)

  before-none : (made : List Code) → before made c.none ≡ codes_in p made
  before-none [] = refl
  before-none (x ∷ made) = ap (c.more (code_in p x)) (before-none made)

  -- statements with the same code
  pub told : (at : Scope) (a b : StmtTree) → a ≡ b → stmt_code p b at ≡ stmt_code p a at
  told at a b e = sym (ap (λ a. stmt_code p a at) e)

  pub code-as : {E : Type 0} (r : Result (Box Code Global) E) (x y : c.Stmt) → x ≡ y → IfOk r (λ made. code_in p made.value ≡ x) → IfOk r (λ made. code_in p made.value ≡ y)
  code-as (Ok made) x y e h = h ∙ e
  code-as (Err f) x y e h = tt

  pub codes-next : (at to : Scope) (ss : List Stmt) (i : ℕ) (a : Stmt) (made more : List Code) (x : Code) → i < length ss → a ≡ get_or ss i a → to ≡ behind (declared_in p) at (stmt_tree a) → code_in p x ≡ stmt_code p (stmt_tree a) at → more ≡ made ++ x ∷ [] →
      before more (stmts_code p (stmt_trees (drop (i + 1) ss)) to) ≡ before made (stmts_code p (stmt_trees (drop i ss)) at)
  unfolding stmts_code
  codes-next at to ss i a made more x lt is h code e =
      ap (λ m. before m (stmts_code p (stmt_trees (drop (i + 1) ss)) to)) e
      ∙ before-push made x (stmts_code p (stmt_trees (drop (i + 1) ss)) to)
      ∙ (λ j. before made (c.more (code j) (stmts_code p (stmt_trees (drop (i + 1) ss)) (h j))))
      ∙ ap (λ ys. before made (stmts_code p (stmt_trees ys) at)) (sym (drop-at ss i a lt is))

  pub codes-end : (at : Scope) (ss : List Stmt) (i : ℕ) (made : List Code) → length ss ≤ i → before made (stmts_code p (stmt_trees (drop i ss)) at) ≡ codes_in p made
  unfolding stmts_code
  codes-end at ss i made le = ap (λ ys. before made (stmts_code p (stmt_trees ys) at)) (drop_all i ss le) ∙ before-none made
