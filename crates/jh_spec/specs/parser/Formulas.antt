-- The grammar of formulas: which tokens, from one place up to another, are spelled out by which tree. The relations are
-- named by what they read, and stand in the order of the table of productions in docs/LANGUAGE.md.
use Rattle.std.specs.Prelude.{ℕ, ℤ, suc, ◌+◌, ◌≡◌, ◌<◌, ◌≤◌, true, List, [], ◌∷◌, length, Some, codes}
use Rattle.jh_lex.specs.declared.lexer.symbol.Symbol.TheVariants as symbol
use Rattle.jh_lex.specs.declared.lexer.token.Token.{Token}
use Rattle.jh_ast.specs.declared.word.Word.{Word}
use Rattle.jh_ast.specs.declared.spec.SpecOp.{SpecOp}
use Rattle.jh_ast.specs.Forms.{FormTree, FormTrees, place_of, moved}
use Rattle.jh_ast.specs.Forms as form
use Rattle.jh_operators.specs.lookahead.Standing.{Is, is_word_at, is_quote_close_at, place_at, word_at, name_at, number_at}
use Rattle.jh_spec.specs.parser.Operators.{operator_at, closes_at, constant_at}

-- words one after another
abbrev pub Words : List Token → ℕ → List Word → ℕ → Type 0
Words ts i [] j = i ≡ j
Words ts i (w ∷ ws) j = (word_at ts i ≡ Some w) × Words ts (i + 1) ws j

-- one to eight of them
abbrev pub Bound : List Token → ℕ → List Word → ℕ → Type 0
Bound ts i ws j = Words ts i ws j × (0 < length ws) × (length ws ≤ 8)

-- [ "::" "obj" ] "."
pub data Typed (ts : List Token) : ℕ → ℕ → Type 0 where
  untyped : {i : ℕ} → Is ts i symbol.Dot → Typed ts i (i + 1)
  typed : {i : ℕ} → Is ts i symbol.ColonColon → is_word_at ts (i + 1) (codes "obj") ≡ true → Is ts (i + 2) symbol.Dot → Typed ts i (i + 2 + 1)

-- NAME { "," NAME }
pub data Names (ts : List Token) : ℕ → List Word → ℕ → Type 0 where
  last : {i : ℕ} {w : Word} → name_at ts i ≡ Some w → Names ts i (w ∷ []) (i + 1)
  further : {i j : ℕ} {w : Word} {ws : List Word} → name_at ts i ≡ Some w → Is ts (i + 1) symbol.Comma → Names ts (i + 2) ws j → Names ts i (w ∷ ws) j

-- a operator b, at the place of a
abbrev pub binary_of : SpecOp → FormTree → FormTree → FormTree
binary_of op a b = form.binary (place_of a) op a b

-- { ".." NAME } after a
pub data Dots (ts : List Token) : FormTree → ℕ → FormTree → ℕ → Type 0 where
  done : {i : ℕ} {a : FormTree} → Dots ts a i a i
  more : {i j : ℕ} {a t : FormTree} {w : Word} → Is ts i symbol.DotDot → name_at ts (i + 1) ≡ Some w → Dots ts (form.member (place_of a) a w) (i + 2) t j → Dots ts a i t j

mutual
  -- F, with n = 3; the right operands of `~`, `&`, `|` with n = 0, 1, 2
  pub data Operand (ts : List Token) : ℕ → ℕ → FormTree → ℕ → Type 0 where
    plain : {n i j : ℕ} {t : FormTree} → Right ts n i t j → Operand ts n i t j
    all : {n i j k l : ℕ} {ws : List Word} {a : FormTree} → Is ts i symbol.All → Bound ts (i + 1) ws j → Typed ts j k → Operand ts 3 k a l → closes_at ts l ≡ true → Operand ts n i (form.all (place_at ts i) ws a) l
    ex : {n i j k l : ℕ} {ws : List Word} {a : FormTree} → Is ts i symbol.Ex → Bound ts (i + 1) ws j → Typed ts j k → Operand ts 3 k a l → closes_at ts l ≡ true → Operand ts n i (form.ex (place_at ts i) ws a) l

  -- F40 with n = 0; F35, F30 and F25 with n = 1, 2, 3
  pub data Right (ts : List Token) : ℕ → ℕ → FormTree → ℕ → Type 0 where
    negated : {i j : ℕ} {a : FormTree} → Is ts i symbol.Tilde → Operand ts 0 (i + 1) a j → Right ts 0 i (form.negation (place_at ts i) a) j
    compared : {i j : ℕ} {a : FormTree} → Compared ts i a j → Right ts 0 i a j
    tighter : {n i j : ℕ} {a : FormTree} → Right ts n i a j → Right ts (suc n) i a j
    joined : {n i j k : ℕ} {a b : FormTree} {o : SpecOp} → Right ts n i a j → operator_at ts (5 + n) j ≡ Some o → Operand ts (suc n) (j + 1) b k → Right ts (suc n) i (binary_of o a b) k

  -- F50
  pub data Compared (ts : List Token) : ℕ → FormTree → ℕ → Type 0 where
    divides : {i j : ℕ} {z : ℤ} {a : FormTree} → number_at ts i ≡ Some z → Is ts (i + 1) symbol.Dvd → Left ts 2 (i + 2) a j → Compared ts i (form.dvd (place_at ts i) z a) j
    single : {i j : ℕ} {a : FormTree} → Left ts 2 i a j → Compared ts i a j
    both : {i j k : ℕ} {a b : FormTree} {o : SpecOp} → Left ts 2 i a j → operator_at ts 4 j ≡ Some o → Left ts 2 (j + 1) b k → Compared ts i (binary_of o a b) k

  -- F80 with n = 0; F70 and F65 with n = 1, 2
  pub data Left (ts : List Token) : ℕ → ℕ → FormTree → ℕ → Type 0 where
    prefix : {i j : ℕ} {a : FormTree} → Prefix ts i a j → Left ts 0 i a j
    chain : {n i j k : ℕ} {a t : FormTree} → Left ts n i a j → Chain ts n a j t k → Left ts (suc n) i t k

  -- { operator operand } after a, grouped to the left
  pub data Chain (ts : List Token) : ℕ → FormTree → ℕ → FormTree → ℕ → Type 0 where
    ended : {n i : ℕ} {a : FormTree} → Chain ts n a i a i
    extended : {n i j k : ℕ} {a b t : FormTree} {o : SpecOp} → operator_at ts (2 + n) i ≡ Some o → Left ts n (i + 1) b j → Chain ts n (binary_of o a b) j t k → Chain ts n a i t k

  -- F80
  pub data Prefix (ts : List Token) : ℕ → FormTree → ℕ → Type 0 where
    minus : {i j : ℕ} {a : FormTree} → Is ts i symbol.Minus → Prefix ts (i + 1) a j → Prefix ts i (form.minus (place_at ts i) a) j
    old : {i j : ℕ} {a : FormTree} → Is ts i symbol.Old → Prefix ts (i + 1) a j → Prefix ts i (form.old (place_at ts i) a) j
    card : {i j : ℕ} {a : FormTree} → Is ts i symbol.Card → Prefix ts (i + 1) a j → Prefix ts i (form.card (place_at ts i) a) j
    forest : {i j : ℕ} {ws : List Word} → Is ts i symbol.Tree → Is ts (i + 1) symbol.LeftBracket → Names ts (i + 2) ws j → Is ts j symbol.RightBracket → Prefix ts i (form.tree (place_at ts i) ws) (j + 1)
    rtrancl : {i j k l : ℕ} {x y : Word} {a b c : FormTree} → Is ts i symbol.RtranclPt → Is ts (i + 1) symbol.LeftParenthesis → Is ts (i + 2) symbol.Percent → word_at ts (i + 3) ≡ Some x → word_at ts (i + 4) ≡ Some y → Is ts (i + 5) symbol.Dot
        → Operand ts 3 (i + 6) a j → Is ts j symbol.RightParenthesis → Postfix ts (j + 1) b k → Postfix ts k c l → Prefix ts i (form.rtrancl (place_at ts i) x y a b c) l
    postfix : {i j : ℕ} {a : FormTree} → Postfix ts i a j → Prefix ts i a j

  -- F90
  pub data Postfix (ts : List Token) : ℕ → FormTree → ℕ → Type 0 where
    reads : {i j k : ℕ} {a t : FormTree} → Atom ts i a j → Dots ts a j t k → Postfix ts i t k

  -- F100
  pub data Atom (ts : List Token) : ℕ → FormTree → ℕ → Type 0 where
    name : {i : ℕ} {w : Word} → name_at ts i ≡ Some w → Atom ts i (form.name (place_at ts i) w) (i + 1)
    number : {i : ℕ} {z : ℤ} → number_at ts i ≡ Some z → Atom ts i (form.number (place_at ts i) z) (i + 1)
    constant : {i : ℕ} {a : FormTree} → constant_at ts i ≡ Some a → Atom ts i a (i + 1)
    bracket : {i j : ℕ} {a : FormTree} → Is ts i symbol.LeftParenthesis → Operand ts 3 (i + 1) a j → Is ts j symbol.RightParenthesis → Atom ts i (moved (place_at ts i) a) (j + 1)
    empty : {i : ℕ} → Is ts i symbol.LeftBrace → Is ts (i + 1) symbol.RightBrace → Atom ts i (form.braces (place_at ts i) form.none) (i + 2)
    braces : {i j : ℕ} {members : FormTrees} → Is ts i symbol.LeftBrace → Members ts (i + 1) members j → Is ts j symbol.RightBrace → Atom ts i (form.braces (place_at ts i) members) (j + 1)
    compr : {i j : ℕ} {x : Word} {a : FormTree} → Is ts i symbol.LeftBrace → word_at ts (i + 1) ≡ Some x → Is ts (i + 2) symbol.Dot → Operand ts 3 (i + 3) a j → Is ts j symbol.RightBrace → Atom ts i (form.compr (place_at ts i) x a) (j + 1)

  -- F { "," F }
  pub data Members (ts : List Token) : ℕ → FormTrees → ℕ → Type 0 where
    last_member : {i j : ℕ} {a : FormTree} → Operand ts 3 i a j → Members ts i (form.more a form.none) j
    more_members : {i j k : ℕ} {a : FormTree} {rest : FormTrees} → Operand ts 3 i a j → Is ts j symbol.Comma → Members ts (j + 1) rest k → Members ts i (form.more a rest) k

-- a formula and the quote after it
pub record Spelled (ts : List Token) (i : ℕ) (t : FormTree) (j : ℕ) : Type 0 where
  pub formula : Operand ts 3 i t j
  pub quote : is_quote_close_at ts j ≡ true
