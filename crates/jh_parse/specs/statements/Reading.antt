-- What is read of statements at a place of a list of tokens, with the place and the number of formulas after them: the grammar as
-- a function, which the code follows. That it is the grammar is proved in proofs/Sound and proofs/Complete.
use Rattle.std.specs.Prelude.{ℕ, zero, suc, ◌+◌, ◌&&◌, ◌||◌, Bool, List, [], ◌∷◌, length, Option, None, Some}
use Rattle.jh_lex.specs.declared.lexer.symbol.Symbol.TheVariants as symbol
use Rattle.jh_lex.specs.declared.lexer.token.Token.{Token}
use Rattle.jh_ast.specs.declared.word.JType.{JType}
use Rattle.jh_ast.specs.declared.word.JType.TheVariants as type
use Rattle.jh_ast.specs.declared.word.Param.{Param}
use Rattle.jh_ast.specs.declared.word.Word.{Word}
use Rattle.jh_ast.specs.Exprs.{ExprTree}
use Rattle.jh_ast.specs.Forms.{LabelledPart}
use Rattle.jh_ast.specs.Stmts.{StmtTree, StmtTrees, RhsTree}
use Rattle.jh_ast.specs.Stmts as stmt
use Rattle.jh_operators.specs.lookahead.Choices.{◌>>=◌, choose}
use Rattle.jh_operators.specs.lookahead.Lists.{Found}
use Rattle.jh_operators.specs.lookahead.Standing.{is_at, is_plain_word_at, is_spec_open_at, place_at, word_at, behind}
use Rattle.jh_parse.specs.expressions.Reading.{expression_at, rhs_at, reads_at, call_of, target_of}
use Rattle.jh_spec.specs.parser.PartReading.{loop_at, statements_at}
use Rattle.jh_parse.specs.statements.Statements.{before}

unfoldable pub typed_at : List Token → ℕ → Option (JType × ℕ)
typed_at ts i =
    choose (is_at ts i symbol.Int) (Some (type.Int, i + 1))
    (choose (is_at ts i symbol.Boolean) (Some (type.Boolean, i + 1)) (word_at ts i >>= λ w. Some (type.Class w, i + 1)))

unfoldable pub initial_at : List Token → ℕ → Option (Option RhsTree × ℕ)
initial_at ts i = choose (is_at ts i symbol.Equal) (rhs_at ts (i + 1) >>= λ r. Some (Some r.0, r.1)) (Some (None, i))

unfoldable pub condition_at : List Token → ℕ → Option (ExprTree × ℕ)
condition_at ts i = behind ts i symbol.LeftParenthesis >>= λ a. expression_at ts (i + 1) >>= λ c. behind ts c.1 symbol.RightParenthesis >>= λ j. Some (c.0, j)

unfoldable pub invariants_at : List Token → ℕ → ℕ → Option (Found (List LabelledPart))
invariants_at ts n i = choose (is_spec_open_at ts i) (loop_at ts n (i + 1) >>= λ ls. Some (ls.0, ls.1 + 1, ls.2)) (Some ([], i, n))

unfoldable pub declared_at : List Token → ℕ → Option (Param × ℕ)
declared_at ts i = typed_at ts i >>= λ t. word_at ts t.1 >>= λ w. Some (record { name = w; jtype = t.0 }, t.1 + 1)

unfoldable pub local_at : List Token → ℕ → ℕ → Option (Found StmtTree)
local_at ts n i = declared_at ts i >>= λ d. initial_at ts d.1 >>= λ r. behind ts r.1 symbol.Semicolon >>= λ j. Some (stmt.local (place_at ts i) d.0 r.0, j, n)

-- whether a local is declared there: by a type of the language, or by two words in a row
abbrev pub is_local_at : List Token → ℕ → Bool
is_local_at ts i = is_at ts i symbol.Int || (is_at ts i symbol.Boolean || (is_plain_word_at ts i && is_plain_word_at ts (i + 1)))

-- a call or an assignment at i, whose beginning is read up to j
unfoldable pub call_after : List Token → ℕ → ℕ → ExprTree → Option Word → ℕ → Option (Found StmtTree)
call_after ts n i a last j = call_of ts i a last j >>= λ c. behind ts c.1 symbol.Semicolon >>= λ k. Some (stmt.call (place_at ts i) c.0, k, n)

unfoldable pub assign_after : List Token → ℕ → ℕ → ExprTree → Option Word → ℕ → Option (Found StmtTree)
assign_after ts n i a last j = target_of ts i a last >>= λ t. behind ts j symbol.Equal >>= λ b. rhs_at ts (j + 1) >>= λ r. behind ts r.1 symbol.Semicolon >>= λ k. Some (stmt.assign (place_at ts i) t r.0, k, n)

unfoldable pub simple_at : List Token → ℕ → ℕ → Option (Found StmtTree)
simple_at ts n i = reads_at ts i >>= λ r. choose (is_at ts r.2 symbol.LeftParenthesis) (call_after ts n i r.0 r.1 r.2) (assign_after ts n i r.0 r.1 r.2)

unfoldable pub return_at : List Token → ℕ → ℕ → Option (Found StmtTree)
return_at ts n i =
    choose (is_at ts (i + 1) symbol.Semicolon) (Some (stmt.return (place_at ts i) None, i + 2, n))
    (expression_at ts (i + 1) >>= λ a. behind ts a.1 symbol.Semicolon >>= λ j. Some (stmt.return (place_at ts i) (Some a.0), j, n))

-- statements that are read deeper inside
abbrev pub Inside : Type 0
Inside = ℕ → ℕ → Option (Found StmtTree)

unfoldable pub part_of : List Token → Inside → ℕ → ℕ → Option (Found StmtTree)
part_of ts inside n i =
    choose (is_spec_open_at ts i) (statements_at ts n (i + 1) >>= λ ss. Some (stmt.block (place_at ts i) (before ss.0 stmt.none), ss.1 + 1, ss.2))
    (inside n i)

unfoldable pub piece_of : List Token → Inside → ℕ → ℕ → Option (Found (List StmtTree))
piece_of ts inside n i =
    choose (is_spec_open_at ts i) (statements_at ts n (i + 1) >>= λ ss. Some (ss.0, ss.1 + 1, ss.2))
    (inside n i >>= λ s. Some (s.0 ∷ [], s.1, s.2))

-- statements up to a closing brace, in no more than k pieces
unfoldable pub several_of : List Token → Inside → ℕ → ℕ → ℕ → Option (Found StmtTrees)
several_of ts inside zero n i = choose (is_at ts i symbol.RightBrace) (Some (stmt.none, i, n)) None
several_of ts inside (suc k) n i =
    choose (is_at ts i symbol.RightBrace) (Some (stmt.none, i, n))
    (piece_of ts inside n i >>= λ p. several_of ts inside k p.2 p.1 >>= λ r. Some (before p.0 r.0, r.1, r.2))

unfoldable pub body_of : List Token → Inside → ℕ → ℕ → Option (Found StmtTrees)
body_of ts inside n i = behind ts i symbol.LeftBrace >>= λ a. several_of ts inside (length ts) n (i + 1)

unfoldable pub block_of : List Token → Inside → ℕ → ℕ → Option (Found StmtTree)
block_of ts inside n i = body_of ts inside n i >>= λ ss. Some (stmt.block (place_at ts i) ss.0, ss.1 + 1, ss.2)

unfoldable pub else_of : List Token → Inside → ℕ → ExprTree → StmtTree → ℕ → ℕ → Option (Found StmtTree)
else_of ts inside i c s n j =
    choose (is_at ts j symbol.Else) (part_of ts inside n (j + 1) >>= λ t. Some (stmt.branch (place_at ts i) c s (stmt.more t.0 stmt.none), t.1, t.2))
    (Some (stmt.branch (place_at ts i) c s stmt.none, j, n))

unfoldable pub if_of : List Token → Inside → ℕ → ℕ → Option (Found StmtTree)
if_of ts inside n i = condition_at ts (i + 1) >>= λ c. part_of ts inside n c.1 >>= λ s. else_of ts inside i c.0 s.0 s.2 s.1

unfoldable pub while_of : List Token → Inside → ℕ → ℕ → Option (Found StmtTree)
while_of ts inside n i = invariants_at ts n (i + 1) >>= λ ls. condition_at ts ls.1 >>= λ c. part_of ts inside ls.2 c.1 >>= λ s. Some (stmt.loop (place_at ts i) ls.0 c.0 s.0, s.1, s.2)

unfoldable pub statement_of : List Token → Inside → ℕ → ℕ → Option (Found StmtTree)
statement_of ts inside n i =
    choose (is_at ts i symbol.Semicolon) (Some (stmt.empty (place_at ts i), i + 1, n))
    (choose (is_at ts i symbol.LeftBrace) (block_of ts inside n i)
    (choose (is_at ts i symbol.If) (if_of ts inside n i)
    (choose (is_at ts i symbol.While) (while_of ts inside n i)
    (choose (is_at ts i symbol.Return) (return_at ts n i)
    (choose (is_local_at ts i) (local_at ts n i) (simple_at ts n i))))))

-- with so many levels left
unfoldable pub inside : List Token → ℕ → Inside
inside ts zero = λ n i. None
inside ts (suc k) = statement_of ts (inside ts k)

-- the body of a method, up to the place of its closing brace
unfoldable pub body_at : List Token → ℕ → ℕ → Option (Found StmtTrees)
body_at ts n i = body_of ts (inside ts (length ts)) n i
