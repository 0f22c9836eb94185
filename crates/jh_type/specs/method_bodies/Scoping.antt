-- How scopes change along statements, and what is noted so that it can be put back.
use Rattle.std.specs.Prelude.{ℕ, List, [], ◌∷◌, ◌++◌}
use Rattle.jh_ast.specs.Stmts.{StmtTree, StmtTrees}
use Rattle.jh_ast.specs.Stmts as s
use Rattle.jh_rules.specs.Words.{text_of}
use Rattle.jh_rules.specs.Names.{Declared}
use Rattle.jh_rules.specs.Scopes.{Scope, behind, with_labels, with_all_declared, all_declared, all_labels_in}
use Rattle.jh_symbols.specs.declared.scopes.scope.Undo.{Undo}
use Rattle.jh_symbols.specs.scopes.Changing.{undo}

-- the scope behind a list of statements
unfoldable pub after_all : Declared → Scope → StmtTrees → Scope
after_all l at s.none = at
after_all l at (s.more a ss) = after_all l (behind l at a) ss

-- what is noted of a statement, and of a list of them
abbrev pub undos_in : Scope → StmtTree → List Undo
undos_in at (s.local p d r) = undo (text_of d.name) (at.local (text_of d.name)) ∷ []
undos_in at _ = []

unfoldable pub undos_of : Declared → Scope → StmtTrees → List Undo
undos_of l at s.none = []
undos_of l at (s.more a ss) = undos_in at a ++ undos_of l (behind l at a) ss

-- further labels
abbrev pub labelled : Scope → List (List ℕ) → Scope
labelled at labels = record {
  class = at.class;
  fixed = at.fixed;
  local = at.local;
  earlier = at.earlier;
  labels = with_labels at.labels labels;
}

-- the scope behind a block of statements: the text before has grown, and what they declared is out of scope
abbrev pub text_after : Scope → StmtTrees → Scope
text_after at ss = record {
  class = at.class;
  fixed = at.fixed;
  local = at.local;
  earlier = with_all_declared at.earlier (all_declared ss);
  labels = with_labels at.labels (all_labels_in ss);
}
