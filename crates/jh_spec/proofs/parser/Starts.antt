-- With which tokens the parts of a formula begin, and what stands alone.
use Rattle.std.proofs.Common.{◌≡◌, ℕ, ◌+◌, false, List, refl, ap, sym, ◌∙◌}
use Rattle.std.proofs.lemmas.Bool.{false≢true}
use Rattle.std.proofs.lemmas.Option.{none-some}
use Rattle.std.specs.Prelude.{None, Some, ◌==◌}
use Rattle.jh_lex.specs.lexer.Numbers.{symbol_number}
use Rattle.jh_lex.specs.declared.lexer.symbol.Symbol.{Symbol}
use Rattle.jh_lex.specs.declared.lexer.symbol.Symbol.TheVariants as symbol
use Rattle.jh_lex.specs.declared.lexer.token.Token.{Token}
use Rattle.jh_ast.specs.declared.spec.SpecOp.{SpecOp}
use Rattle.jh_ast.specs.Forms.{FormTree, FormTrees}
use Rattle.jh_operators.specs.lookahead.Standing.{Is, is_at, is_name_at, number_at}
use Rattle.jh_spec.specs.parser.Operators.{operator_at, constant_at}
use Rattle.jh_spec.specs.parser.Formulas.{Words, Bound, Typed, Names, Dots, Operand, Right, Compared, Left, Chain, Prefix, Postfix, Atom, Members, Spelled, binary_of}
use Rattle.jh_spec.specs.parser.Formulas as grammar
use Rattle.jh_operators.proofs.lookahead.Options.{Holds, nothing, found, choose_holds, of_found}
use Rattle.jh_operators.proofs.lookahead.Facts.{kind-no_number, other, kind-no_name}
use Rattle.jh_operators.proofs.lookahead.Symbols.{name-plain, number-plain}

-- no token with which something looser begins
pub record AtomStart (ts : List Token) (i : ℕ) : Type 0 where
  pub minus : is_at ts i symbol.Minus ≡ false
  pub old : is_at ts i symbol.Old ≡ false
  pub card : is_at ts i symbol.Card ≡ false
  pub forest : is_at ts i symbol.Tree ≡ false
  pub rtrancl : is_at ts i symbol.RtranclPt ≡ false
  pub tilde : is_at ts i symbol.Tilde ≡ false
  pub all : is_at ts i symbol.All ≡ false
  pub ex : is_at ts i symbol.Ex ≡ false
  pub brace : is_at ts i symbol.RightBrace ≡ false
  pub dots : is_at ts i symbol.DotDot ≡ false

pub record PrefixStart (ts : List Token) (i : ℕ) : Type 0 where
  pub tilde : is_at ts i symbol.Tilde ≡ false
  pub all : is_at ts i symbol.All ≡ false
  pub ex : is_at ts i symbol.Ex ≡ false
  pub brace : is_at ts i symbol.RightBrace ≡ false

pub record RightStart (ts : List Token) (i : ℕ) : Type 0 where
  pub all : is_at ts i symbol.All ≡ false
  pub ex : is_at ts i symbol.Ex ≡ false
  pub brace : is_at ts i symbol.RightBrace ≡ false

by_all : (ts : List Token) (i : ℕ) → ((u : Symbol) → is_at ts i u ≡ false) → AtomStart ts i
by_all ts i h = record { minus = h symbol.Minus; old = h symbol.Old; card = h symbol.Card; forest = h symbol.Tree; rtrancl = h symbol.RtranclPt; tilde = h symbol.Tilde; all = h symbol.All; ex = h symbol.Ex; brace = h symbol.RightBrace; dots = h symbol.DotDot }

by_symbol : (ts : List Token) (i : ℕ) (s : Symbol) → Is ts i s → (symbol_number s == symbol_number symbol.Minus) ≡ false → (symbol_number s == symbol_number symbol.Old) ≡ false → (symbol_number s == symbol_number symbol.Card) ≡ false → (symbol_number s == symbol_number symbol.Tree) ≡ false → (symbol_number s == symbol_number symbol.RtranclPt) ≡ false → (symbol_number s == symbol_number symbol.Tilde) ≡ false → (symbol_number s == symbol_number symbol.All) ≡ false → (symbol_number s == symbol_number symbol.Ex) ≡ false → (symbol_number s == symbol_number symbol.RightBrace) ≡ false → (symbol_number s == symbol_number symbol.DotDot) ≡ false → AtomStart ts i
by_symbol ts i s e h0 h1 h2 h3 h4 h5 h6 h7 h8 h9 = record { minus = other ts i s symbol.Minus e h0; old = other ts i s symbol.Old e h1; card = other ts i s symbol.Card e h2; forest = other ts i s symbol.Tree e h3; rtrancl = other ts i s symbol.RtranclPt e h4; tilde = other ts i s symbol.Tilde e h5; all = other ts i s symbol.All e h6; ex = other ts i s symbol.Ex e h7; brace = other ts i s symbol.RightBrace e h8; dots = other ts i s symbol.DotDot e h9 }

-- what stands where a constant stands
pub record Constant (ts : List Token) (i : ℕ) : Type 0 where
  pub start : AtomStart ts i
  pub paren : is_at ts i symbol.LeftParenthesis ≡ false
  pub open_brace : is_at ts i symbol.LeftBrace ≡ false
  pub name : is_name_at ts i ≡ false
  pub number : number_at ts i ≡ None

constant_by : (ts : List Token) (i : ℕ) (s : Symbol) → Is ts i s → AtomStart ts i → (symbol_number s == symbol_number symbol.LeftParenthesis) ≡ false → (symbol_number s == symbol_number symbol.LeftBrace) ≡ false → (symbol_number s == 75) ≡ false → (symbol_number s == 76) ≡ false → (symbol_number s == 77) ≡ false → Constant ts i
constant_by ts i s e a b c d f g = record { start = a; paren = other ts i s symbol.LeftParenthesis e b; open_brace = other ts i s symbol.LeftBrace e c; name = kind-no_name ts i (symbol_number s) e d f; number = kind-no_number ts i (symbol_number s) e g }

constants : (ts : List Token) (i : ℕ) → Holds (λ b. Constant ts i) (constant_at ts i)
unfolding constant_at
constants ts i =
    choose_holds (λ e. found (constant_by ts i symbol.Null e (by_symbol ts i symbol.Null e refl refl refl refl refl refl refl refl refl refl) refl refl refl refl refl)) (λ _.
    choose_holds (λ e. found (constant_by ts i symbol.TrueFormula e (by_symbol ts i symbol.TrueFormula e refl refl refl refl refl refl refl refl refl refl) refl refl refl refl refl)) (λ _.
    choose_holds (λ e. found (constant_by ts i symbol.FalseFormula e (by_symbol ts i symbol.FalseFormula e refl refl refl refl refl refl refl refl refl refl) refl refl refl refl refl)) (λ _.
    choose_holds (λ e. found (constant_by ts i symbol.Univ e (by_symbol ts i symbol.Univ e refl refl refl refl refl refl refl refl refl refl) refl refl refl refl refl)) (λ _.
    nothing))))

pub constant-there : (ts : List Token) (i : ℕ) (a : FormTree) → constant_at ts i ≡ Some a → Constant ts i
constant-there ts i a e = of_found (constants ts i) a e

module _ (ts : List Token) where
  pub atom-start : {i j : ℕ} {t : FormTree} → Atom ts i t j → AtomStart ts i
  atom-start {i = i} (grammar.name {w = w} e) = by_all ts i (λ u. name-plain ts i w u e)
  atom-start {i = i} (grammar.number {z = z} e) = by_all ts i (λ u. number-plain ts i z u e)
  atom-start {i = i} (grammar.constant {a = a} e) = (constant-there ts i a e).start
  atom-start {i = i} (grammar.bracket o p c) = by_symbol ts i symbol.LeftParenthesis o refl refl refl refl refl refl refl refl refl refl
  atom-start {i = i} (grammar.empty o c) = by_symbol ts i symbol.LeftBrace o refl refl refl refl refl refl refl refl refl refl
  atom-start {i = i} (grammar.braces o p c) = by_symbol ts i symbol.LeftBrace o refl refl refl refl refl refl refl refl refl refl
  atom-start {i = i} (grammar.compr o x d p c) = by_symbol ts i symbol.LeftBrace o refl refl refl refl refl refl refl refl refl refl

  pub postfix-start : {i j : ℕ} {t : FormTree} → Postfix ts i t j → AtomStart ts i
  postfix-start (grammar.reads p d) = atom-start p

  prefix_by : (i : ℕ) (s : Symbol) → Is ts i s → (symbol_number s == symbol_number symbol.Tilde) ≡ false → (symbol_number s == symbol_number symbol.All) ≡ false → (symbol_number s == symbol_number symbol.Ex) ≡ false → (symbol_number s == symbol_number symbol.RightBrace) ≡ false → PrefixStart ts i
  prefix_by i s e a b c d = record { tilde = other ts i s symbol.Tilde e a; all = other ts i s symbol.All e b; ex = other ts i s symbol.Ex e c; brace = other ts i s symbol.RightBrace e d }

  pub prefix-start : {i j : ℕ} {t : FormTree} → Prefix ts i t j → PrefixStart ts i
  prefix-start {i = i} (grammar.minus s p) = prefix_by i symbol.Minus s refl refl refl refl
  prefix-start {i = i} (grammar.old s p) = prefix_by i symbol.Old s refl refl refl refl
  prefix-start {i = i} (grammar.card s p) = prefix_by i symbol.Card s refl refl refl refl
  prefix-start {i = i} (grammar.forest s o p c) = prefix_by i symbol.Tree s refl refl refl refl
  prefix-start {i = i} (grammar.rtrancl s o q x y d p c a b) = prefix_by i symbol.RtranclPt s refl refl refl refl
  prefix-start (grammar.postfix p) = let s : AtomStart ts _ = postfix-start p in record { tilde = s.tilde; all = s.all; ex = s.ex; brace = s.brace }

  pub left-start : {n i j : ℕ} {t : FormTree} → Left ts n i t j → PrefixStart ts i
  left-start (grammar.prefix p) = prefix-start p
  left-start (grammar.chain p c) = left-start p

  pub compared-start : {i j : ℕ} {t : FormTree} → Compared ts i t j → PrefixStart ts i
  compared-start {i = i} (grammar.divides {z = z} e d p) = record { tilde = number-plain ts i z symbol.Tilde e; all = number-plain ts i z symbol.All e; ex = number-plain ts i z symbol.Ex e; brace = number-plain ts i z symbol.RightBrace e }
  compared-start (grammar.single p) = left-start p
  compared-start (grammar.both p e q) = left-start p

  pub right-start : {n i j : ℕ} {t : FormTree} → Right ts n i t j → RightStart ts i
  right-start {i = i} (grammar.negated s p) = record { all = other ts i symbol.Tilde symbol.All s refl; ex = other ts i symbol.Tilde symbol.Ex s refl; brace = other ts i symbol.Tilde symbol.RightBrace s refl }
  right-start (grammar.compared p) = let s : PrefixStart ts _ = compared-start p in record { all = s.all; ex = s.ex; brace = s.brace }
  right-start (grammar.tighter p) = right-start p
  right-start (grammar.joined p e q) = right-start p

  pub operand-brace : {n i j : ℕ} {t : FormTree} → Operand ts n i t j → is_at ts i symbol.RightBrace ≡ false
  operand-brace (grammar.plain p) = (right-start p).brace
  operand-brace {i = i} (grammar.all s b t p c) = other ts i symbol.All symbol.RightBrace s refl
  operand-brace {i = i} (grammar.ex s b t p c) = other ts i symbol.Ex symbol.RightBrace s refl

  pub members-brace : {i j : ℕ} {ms : FormTrees} → Members ts i ms j → is_at ts i symbol.RightBrace ≡ false
  members-brace (grammar.last_member p) = operand-brace p
  members-brace (grammar.more_members p c q) = operand-brace p

  -- no symbol stands at a place, and the next token goes on with nothing
  pub record Alone (i : ℕ) : Type 0 where
    pub plain : (u : Symbol) → is_at ts i u ≡ false
    pub dots : is_at ts (i + 1) symbol.DotDot ≡ false
    pub between : (r : ℕ) → operator_at ts r (i + 1) ≡ None

  never : {i : ℕ} {A : Type 0} (u : Symbol) → Alone i → Is ts i u → A
  never u a e = absurd (false≢true (sym (a.plain u) ∙ e))

  stuck : {i j : ℕ} {o : SpecOp} {A : Type 0} (r : ℕ) → Alone i → j ≡ i + 1 → operator_at ts r j ≡ Some o → A
  stuck {o = o} r a m e = absurd (none-some o (sym (a.between r) ∙ ap (operator_at ts r) (sym m) ∙ e))

  atom-alone : {i j : ℕ} {t : FormTree} → Alone i → Atom ts i t j → j ≡ i + 1
  atom-alone a (grammar.name e) = refl
  atom-alone a (grammar.number e) = refl
  atom-alone a (grammar.constant e) = refl
  atom-alone a (grammar.bracket o p c) = never symbol.LeftParenthesis a o
  atom-alone a (grammar.empty o c) = never symbol.LeftBrace a o
  atom-alone a (grammar.braces o p c) = never symbol.LeftBrace a o
  atom-alone a (grammar.compr o x d p c) = never symbol.LeftBrace a o

  dots-alone : {i m j : ℕ} {t u : FormTree} → Alone i → m ≡ i + 1 → Dots ts t m u j → j ≡ i + 1
  dots-alone a e grammar.done = e
  dots-alone a e (grammar.more d w p) = absurd (false≢true (sym a.dots ∙ ap (λ k. is_at ts k symbol.DotDot) (sym e) ∙ d))

  prefix-alone : {i j : ℕ} {t : FormTree} → Alone i → Prefix ts i t j → j ≡ i + 1
  prefix-alone a (grammar.minus s p) = never symbol.Minus a s
  prefix-alone a (grammar.old s p) = never symbol.Old a s
  prefix-alone a (grammar.card s p) = never symbol.Card a s
  prefix-alone a (grammar.forest s o p c) = never symbol.Tree a s
  prefix-alone a (grammar.rtrancl s o q x y d p c b b') = never symbol.RtranclPt a s
  prefix-alone a (grammar.postfix (grammar.reads p d)) = dots-alone a (atom-alone a p) d

  chain-alone : {n i m j : ℕ} {t u : FormTree} → Alone i → m ≡ i + 1 → Chain ts n t m u j → j ≡ i + 1
  chain-alone a e grammar.ended = e
  chain-alone a e (grammar.extended o p c) = stuck _ a e o

  pub left-alone : {n i j : ℕ} {t : FormTree} → Alone i → Left ts n i t j → j ≡ i + 1
  left-alone a (grammar.prefix p) = prefix-alone a p
  left-alone a (grammar.chain p c) = chain-alone a (left-alone a p) c

  compared-alone : {i j : ℕ} {t : FormTree} → Alone i → is_at ts (i + 1) symbol.Dvd ≡ false → Compared ts i t j → j ≡ i + 1
  compared-alone a h (grammar.divides e d p) = absurd (false≢true (sym h ∙ d))
  compared-alone a h (grammar.single p) = left-alone a p
  compared-alone a h (grammar.both p e q) = stuck _ a (left-alone a p) e

  right-alone : {n i j : ℕ} {t : FormTree} → Alone i → is_at ts (i + 1) symbol.Dvd ≡ false → Right ts n i t j → j ≡ i + 1
  right-alone a h (grammar.negated s p) = never symbol.Tilde a s
  right-alone a h (grammar.compared p) = compared-alone a h p
  right-alone a h (grammar.tighter p) = right-alone a h p
  right-alone a h (grammar.joined p e q) = stuck _ a (right-alone a h p) e

  pub operand-alone : {n i j : ℕ} {t : FormTree} → Alone i → is_at ts (i + 1) symbol.Dvd ≡ false → Operand ts n i t j → j ≡ i + 1
  operand-alone a h (grammar.plain p) = right-alone a h p
  operand-alone a h (grammar.all s b t p c) = never symbol.All a s
  operand-alone a h (grammar.ex s b t p c) = never symbol.Ex a s
