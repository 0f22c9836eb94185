-- The grammar of statements: which tokens, from one place up to another, are spelled out by which tree. In each relation n is the
-- number of the first formula that is read and i its place among the tokens; j is the place after what is read, and m the number
-- after its last formula. The relations stand in the order of the table of productions in docs/LANGUAGE.md.
use Rattle.std.specs.Prelude.{ℕ, ◌+◌, ◌≡◌, true, false, List, [], ◌∷◌, Option, None, Some}
use Rattle.jh_lex.specs.declared.lexer.symbol.Symbol.TheVariants as symbol
use Rattle.jh_lex.specs.declared.lexer.token.Token.{Token}
use Rattle.jh_ast.specs.declared.word.Word.{Word}
use Rattle.jh_ast.specs.declared.word.JType.{JType}
use Rattle.jh_ast.specs.declared.word.JType.TheVariants as type
use Rattle.jh_ast.specs.Exprs.{ExprTree}
use Rattle.jh_ast.specs.Forms.{LabelledPart}
use Rattle.jh_ast.specs.Stmts.{StmtTree, StmtTrees, RhsTree, CallTree}
use Rattle.jh_ast.specs.Stmts as stmt
use Rattle.jh_operators.specs.lookahead.Standing.{Is, is_at, is_spec_open_at, place_at, word_at}
use Rattle.jh_parse.specs.expressions.Expressions.{Expression, Call, Target, Rhs}
use Rattle.jh_spec.specs.parser.Parts.{Loop, Statements}

-- "int" | "boolean" | WORD
pub data Typed (ts : List Token) : ℕ → JType → ℕ → Type 0 where
  an_int : {i : ℕ} → Is ts i symbol.Int → Typed ts i type.Int (i + 1)
  a_boolean : {i : ℕ} → Is ts i symbol.Boolean → Typed ts i type.Boolean (i + 1)
  of_class : {i : ℕ} {w : Word} → word_at ts i ≡ Some w → Typed ts i (type.Class w) (i + 1)

-- [ "=" rhs ]
pub data Initial (ts : List Token) : ℕ → Option RhsTree → ℕ → Type 0 where
  without : {i : ℕ} → Initial ts i None i
  with : {i j : ℕ} {r : RhsTree} → Is ts i symbol.Equal → Rhs ts (i + 1) r j → Initial ts i (Some r) j

-- "(" expr ")"
pub data Condition (ts : List Token) (i : ℕ) : ExprTree → ℕ → Type 0 where
  condition : {j : ℕ} {c : ExprTree} → Is ts i symbol.LeftParenthesis → Expression ts (i + 1) c j → Is ts j symbol.RightParenthesis → Condition ts i c (j + 1)

-- [ S({ "inv" [ WORD ":" ] Q(F) [ ";" ] }) ]
pub data Invariants (ts : List Token) (n i : ℕ) : List LabelledPart → ℕ → ℕ → Type 0 where
  no_invariants : Invariants ts n i [] i n
  invariants : {j m : ℕ} {ls : List LabelledPart} → is_spec_open_at ts i ≡ true → Loop ts n (i + 1) ls j m → Invariants ts n i ls (j + 1) m

-- these statements, and then the rest
abbrev pub before : List StmtTree → StmtTrees → StmtTrees
before [] rest = rest
before (s ∷ ss) rest = stmt.more s (before ss rest)

mutual
  -- "{" { statement } "}", up to the place of the closing brace
  pub data Body (ts : List Token) : ℕ → ℕ → StmtTrees → ℕ → ℕ → Type 0 where
    body : {n i j m : ℕ} {ss : StmtTrees} → Is ts i symbol.LeftBrace → Several ts n (i + 1) ss j m → Is ts j symbol.RightBrace → Body ts n i ss j m

  -- { statement }
  pub data Several (ts : List Token) : ℕ → ℕ → StmtTrees → ℕ → ℕ → Type 0 where
    none : {n i : ℕ} → Several ts n i stmt.none i n
    more : {n i j k l m : ℕ} {piece : List StmtTree} {rest : StmtTrees} → Piece ts n i piece j m → Several ts m j rest k l → Several ts n i (before piece rest) k l

  -- a statement in a block; a specification is as many statements as it has spoken parts
  pub data Piece (ts : List Token) : ℕ → ℕ → List StmtTree → ℕ → ℕ → Type 0 where
    one : {n i j m : ℕ} {s : StmtTree} → Statement ts n i s j m → Piece ts n i (s ∷ []) j m
    spoken : {n i j m : ℕ} {ss : List StmtTree} → is_spec_open_at ts i ≡ true → Statements ts n (i + 1) ss j m → Piece ts n i ss (j + 1) m

  -- the body of `if`, `else` or `while`; a specification is one block of its statements, at the place of its SpecOpen
  pub data Part (ts : List Token) : ℕ → ℕ → StmtTree → ℕ → ℕ → Type 0 where
    alone : {n i j m : ℕ} {s : StmtTree} → Statement ts n i s j m → Part ts n i s j m
    together : {n i j m : ℕ} {ss : List StmtTree} → is_spec_open_at ts i ≡ true → Statements ts n (i + 1) ss j m → Part ts n i (stmt.block (place_at ts i) (before ss stmt.none)) (j + 1) m

  pub data Statement (ts : List Token) : ℕ → ℕ → StmtTree → ℕ → ℕ → Type 0 where
    empty : {n i : ℕ} → Is ts i symbol.Semicolon → Statement ts n i (stmt.empty (place_at ts i)) (i + 1) n
    block : {n i j m : ℕ} {ss : StmtTrees} → Body ts n i ss j m → Statement ts n i (stmt.block (place_at ts i) ss) (j + 1) m
    declared : {n i a j : ℕ} {t : JType} {w : Word} {r : Option RhsTree} → Typed ts i t a → word_at ts a ≡ Some w → Initial ts (a + 1) r j → Is ts j symbol.Semicolon
        → Statement ts n i (stmt.local (place_at ts i) (record { name = w; jtype = t }) r) (j + 1) n
    assigned : {n i a j : ℕ} {t : ExprTree} {r : RhsTree} → Target ts i t a → Is ts a symbol.Equal → Rhs ts (a + 1) r j → Is ts j symbol.Semicolon → Statement ts n i (stmt.assign (place_at ts i) t r) (j + 1) n
    called : {n i j : ℕ} {c : CallTree} → Call ts i c j → Is ts j symbol.Semicolon → Statement ts n i (stmt.call (place_at ts i) c) (j + 1) n
    -- an `else` belongs to the nearest `if` without one
    if_alone : {n i a j m : ℕ} {c : ExprTree} {s : StmtTree} → Is ts i symbol.If → Condition ts (i + 1) c a → Part ts n a s j m → is_at ts j symbol.Else ≡ false → Statement ts n i (stmt.branch (place_at ts i) c s stmt.none) j m
    if_else : {n i a b j k m : ℕ} {c : ExprTree} {s t : StmtTree} → Is ts i symbol.If → Condition ts (i + 1) c a → Part ts n a s b k → Is ts b symbol.Else → Part ts k (b + 1) t j m
        → Statement ts n i (stmt.branch (place_at ts i) c s (stmt.more t stmt.none)) j m
    while : {n i a b j k m : ℕ} {ls : List LabelledPart} {c : ExprTree} {s : StmtTree} → Is ts i symbol.While → Invariants ts n (i + 1) ls a k → Condition ts a c b → Part ts k b s j m
        → Statement ts n i (stmt.loop (place_at ts i) ls c s) j m
    return_nothing : {n i : ℕ} → Is ts i symbol.Return → Is ts (i + 1) symbol.Semicolon → Statement ts n i (stmt.return (place_at ts i) None) (i + 2) n
    return_value : {n i j : ℕ} {a : ExprTree} → Is ts i symbol.Return → Expression ts (i + 1) a j → Is ts j symbol.Semicolon → Statement ts n i (stmt.return (place_at ts i) (Some a)) (j + 1) n
