-- The statements of a method, each in the scope in which it stands.
use Rattle.std.specs.Prelude.{ℕ, List, [], ◌∷◌, ◌++◌}
use Rattle.jh_ast.specs.Programs.{ProgramTree, MethodPart}
use Rattle.jh_ast.specs.Stmts.{StmtTree, StmtTrees}
use Rattle.jh_ast.specs.Stmts as s
use Rattle.jh_rules.specs.Names.{Declared, declared_in}
use Rattle.jh_rules.specs.Scopes.{Scope, behind, text_behind, in_loop, declare_all, outermost}

-- a statement and its scope
pub record InScope : Type 0 where
  pub at : Scope
  pub stmt : StmtTree

abbrev pub standing : Scope → StmtTree → InScope
standing at a = record { at = at; stmt = a }

module _ (l : Declared) where
  unfoldable mutual
    -- the statements inside a statement, in the order of the text
    pub inner_statements : StmtTree → Scope → List InScope
    inner_statements (s.block q ss) at = all_statements ss at
    inner_statements (s.branch q c a b) at = standing at a ∷ inner_statements a at ++ all_statements b (text_behind at a)
    inner_statements (s.loop q is c a) at = standing (in_loop at is) a ∷ inner_statements a (in_loop at is)
    inner_statements _ at = []

    -- some statements and those inside them
    pub all_statements : StmtTrees → Scope → List InScope
    all_statements s.none at = []
    all_statements (s.more a ss) at = standing at a ∷ inner_statements a at ++ all_statements ss (behind l at a)

  -- a statement and those inside it
  abbrev pub statements_in : StmtTree → Scope → List InScope
  statements_in a at = standing at a ∷ inner_statements a at

module _ (p : ProgramTree) where
  -- the scope of the first statement of a method
  abbrev pub entry_scope : ℕ → MethodPart → Scope
  entry_scope n m = declare_all (declared_in p) (outermost n m.fixed) m.params

  abbrev pub method_statements : ℕ → MethodPart → List InScope
  method_statements n m = all_statements (declared_in p) m.body (entry_scope n m)
