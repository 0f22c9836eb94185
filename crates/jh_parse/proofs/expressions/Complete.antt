-- What is spelled is read.
use Rattle.std.proofs.Common.{◌≡◌, ℕ, zero, suc, ◌+◌, ◌<◌, ◌≤◌, false, List, length, refl, ap, sym, ◌∙◌, arith}
use Rattle.std.specs.Prelude.{Option, None, Some}
use Rattle.std.specs.Option.{option_map_or}
use Rattle.jh_lex.specs.declared.lexer.symbol.Symbol.TheVariants as symbol
use Rattle.jh_lex.specs.declared.lexer.token.Token.{Token}
use Rattle.jh_ast.specs.declared.word.Word.{Word}
use Rattle.jh_ast.specs.Exprs.{ExprTree}
use Rattle.jh_ast.specs.Exprs as expr
use Rattle.jh_ast.specs.Stmts.{RhsTree, CallTree}
use Rattle.jh_operators.specs.lookahead.Choices.{given}
use Rattle.jh_operators.specs.lookahead.Standing.{Is, is_at, word_at, place_at}
use Rattle.jh_operators.proofs.lookahead.Options.{then_is, choose_on, choose_off, given_on, given_off, behind_on}
use Rattle.jh_operators.proofs.lookahead.Facts.{other, within, word-kind, word-other, number-other}
use Rattle.jh_parse.specs.expressions.Operators.{rank_at}
use Rattle.jh_parse.specs.expressions.Expressions.{Dots, Level, Chain, Unary, Postfix, Primary, Listed, Arguments, Call, Target, Rhs, Expression, member_of, binary_of}
use Rattle.jh_parse.specs.expressions.Expressions as grammar
use Rattle.jh_parse.specs.expressions.Reading.{bracket_of, simple_at, primary_of, with_last, dots_at, reads_of, postfix_of, signed_of, unary_of, chain_with, level_of, chain_of, inside, expression_at, listed_at, arguments_at, reads_at, called_of, call_of, call_at, target_of, target_at, new_at, rhs_at}
use Rattle.jh_parse.proofs.expressions.Facts.{operator-between, operator-none, dot-none, opens-rank, closes-rank, comma-rank, semicolon-rank, constant-other, no_number}
use Rattle.jh_parse.proofs.expressions.Ends.{dots-end, level-end, chain-end, unary-end, primary-end, listed-end}
use Rattle.jh_parse.proofs.expressions.Sound.{one_more_dot}
use Rattle.jh_parse.proofs.expressions.Starts.{no_start, no_primary, postfix-start, level-start, listed-start, call-start}

-- the words after an operand's dots: none, or some with a last one
pub data LastDot (ts : List Token) (a : ExprTree) (i : ℕ) : ExprTree → ℕ → Type 0 where
  no_dot : LastDot ts a i a i
  a_dot : {j : ℕ} {b : ExprTree} {w : Word} → Dots ts a i b j → Is ts j symbol.Dot → word_at ts (j + 1) ≡ Some w → LastDot ts a i (member_of b w) (j + 2)

module _ (ts : List Token) where
  after_dot : {i j : ℕ} {a t : ExprTree} {w : Word} → Is ts i symbol.Dot → word_at ts (i + 1) ≡ Some w → LastDot ts (member_of a w) (i + 2) t j → LastDot ts a i t j
  after_dot d e no_dot = a_dot grammar.done d e
  after_dot d e (a_dot p f g) = a_dot (grammar.more d e p) f g

  last-dot : {i j : ℕ} {a t : ExprTree} → Dots ts a i t j → LastDot ts a i t j
  last-dot grammar.done = no_dot
  last-dot (grammar.more d e p) = after_dot d e (last-dot p)

  -- words after dots, and one more
  dots-complete : (m : ℕ) (a : ExprTree) (last : Option Word) {i j : ℕ} {b t : ExprTree} {w : Word} → b ≡ with_last a last → Dots ts b i t j → Is ts j symbol.Dot → word_at ts (j + 1) ≡ Some w → is_at ts (j + 2) symbol.Dot ≡ false → j + 1 < i + m → dots_at ts m a last i ≡ Some (t, Some w, j + 2)
  unfolding dots_at with_last given
  dots-complete zero a last q p d e stop h = absurd (omega (arith, h, dots-end ts p))
  dots-complete (suc zero) a last q p d e stop h = absurd (omega (arith, h, dots-end ts p))
  dots-complete (suc (suc m)) a last {j = j} {w = w} q grammar.done d e stop h = choose_on _ d (then_is _ e (choose_off _ stop (ap (λ b. Some (b, Some w, j + 2)) (sym q))))
  dots-complete (suc (suc m)) a last q (grammar.more {w = v} f g p) d e stop h = choose_on _ f (then_is _ g (dots-complete (suc m) (with_last a last) (Some v) (ap (λ b. member_of b v) q) p d e stop (omega (arith, h))))

  module _ (k i : ℕ) where
    -- what is read after a primary that is read
    reads_alone : {m : ℕ} {a : ExprTree} → primary_of ts (inside ts k) i ≡ Some (a, m) → is_at ts m symbol.Dot ≡ false → reads_of ts (inside ts k) i ≡ Some (a, None, m)
    unfolding reads_of dots_at
    reads_alone e stop = then_is _ e (choose_off _ stop refl)

    reads_member : {m j : ℕ} {a b : ExprTree} {w : Word} → primary_of ts (inside ts k) i ≡ Some (a, m) → Dots ts a m b j → Is ts j symbol.Dot → word_at ts (j + 1) ≡ Some w → is_at ts (j + 2) symbol.Dot ≡ false → j < m + length ts → reads_of ts (inside ts k) i ≡ Some (b, Some w, j + 2)
    unfolding reads_of with_last given
    reads_member {a = a} e p d f stop h = then_is _ e (dots-complete (suc (length ts)) a None refl p d f stop (omega (arith, h)))

    after_primary : {m j : ℕ} {a t : ExprTree} → primary_of ts (inside ts k) i ≡ Some (a, m) → LastDot ts a m t j → is_at ts j symbol.Dot ≡ false → j ≤ m + length ts → postfix_of ts (inside ts k) i ≡ Some (t, j)
    unfolding postfix_of with_last given
    after_primary e no_dot stop h = then_is _ (reads_alone e stop) refl
    after_primary e (a_dot p d f) stop h = then_is _ (reads_member e p d f stop (omega (arith, h))) refl

  -- what is read deeper inside, from what is read there
  deep_level : {i m j : ℕ} {t : ExprTree} (n : ℕ) → ((k : ℕ) → k ≤ length ts → j ≤ m + k → level_of ts (inside ts k) n m ≡ Some (t, j)) → i < m → m < j → (k : ℕ) → k ≤ length ts → j ≤ i + k → (inside ts k).level n m ≡ Some (t, j)
  unfolding inside
  deep_level n read below some zero small h = absurd (omega (arith, below, some, h))
  deep_level n read below some (suc k) small h = read k (omega (arith, small)) (omega (arith, below, h))

  deep_unary : {i m j : ℕ} {t : ExprTree} → ((k : ℕ) → k ≤ length ts → j ≤ m + k → unary_of ts (inside ts k) m ≡ Some (t, j)) → i < m → m < j → (k : ℕ) → k ≤ length ts → j ≤ i + k → (inside ts k).unary m ≡ Some (t, j)
  unfolding inside
  deep_unary read below some zero small h = absurd (omega (arith, below, some, h))
  deep_unary read below some (suc k) small h = read k (omega (arith, small)) (omega (arith, below, h))

  deep_chain : {i m j : ℕ} {t : ExprTree} (n : ℕ) (a : ExprTree) → ((k : ℕ) → k ≤ length ts → j ≤ m + k → chain_with ts (inside ts k) (level_of ts (inside ts k) n) n a m ≡ Some (t, j)) → i < m → m ≤ j → (k : ℕ) → k ≤ length ts → j ≤ i + k → (inside ts k).chain n a m ≡ Some (t, j)
  unfolding inside chain_of
  deep_chain n a read below some zero small h = absurd (omega (arith, below, some, h))
  deep_chain n a read below some (suc k) small h = read k (omega (arith, small)) (omega (arith, below, h))

  chain-stop : {n i j : ℕ} {a t : ExprTree} → Chain ts n a i t j → 2 + n < rank_at ts j → 1 + n < rank_at ts i
  chain-stop grammar.ended stop = omega (arith, stop)
  chain-stop {n = n} {i = i} (grammar.once {o = o} s e p) stop = omega (arith, (operator-between ts (2 + n) i o e).1)
  chain-stop {n = n} {i = i} (grammar.extended {o = o} s e p c) stop = omega (arith, (operator-between ts (2 + n) i o e).1)

  mutual
    unfolding level_of unary_of signed_of primary_of simple_at bracket_of

    pub level-complete : {n i j : ℕ} {t : ExprTree} → Level ts n i t j → 1 + n < rank_at ts j → (k : ℕ) → k ≤ length ts → j ≤ i + k → level_of ts (inside ts k) n i ≡ Some (t, j)
    level-complete (grammar.unary p) stop k small h = unary-complete p (omega (arith, stop)) k small h
    level-complete (grammar.chain p c) stop k small h = then_is _ (level-complete p (chain-stop c (omega (arith, stop))) k small (omega (arith, h, chain-end ts c))) (chain-complete c (omega (arith, stop)) k small (omega (arith, h, level-end ts p)))

    chain-complete : {n i j : ℕ} {a t : ExprTree} → Chain ts n a i t j → 2 + n < rank_at ts j → (k : ℕ) → k ≤ length ts → j ≤ i + k → chain_with ts (inside ts k) (level_of ts (inside ts k) n) n a i ≡ Some (t, j)
    chain-complete {n = n} {i = i} grammar.ended stop k small h = given_off _ (operator-none ts (2 + n) i stop) refl
    chain-complete (grammar.once s e p) stop k small h = given_on _ _ e (then_is _ (level-complete p (omega (arith, stop)) k small (omega (arith, h))) (choose_on _ s refl))
    chain-complete (grammar.extended s e p c) stop k small h = given_on _ _ e (then_is _ (level-complete p (chain-stop c stop) k small (omega (arith, h, chain-end ts c)))
        (choose_off _ s (deep_chain _ _ (λ k small h. chain-complete c stop k small h) (omega (arith, level-end ts p)) (chain-end ts c) k small h)))

    unary-complete : {i j : ℕ} {t : ExprTree} → Unary ts i t j → 1 < rank_at ts j → (k : ℕ) → k ≤ length ts → j ≤ i + k → unary_of ts (inside ts k) i ≡ Some (t, j)
    unary-complete (grammar.negated s p) stop k small h = choose_on _ s (then_is _ (deep_unary (λ k small h. unary-complete p stop k small h) (omega arith) (unary-end ts p) k small h) refl)
    unary-complete {i = i} (grammar.minus s p) stop k small h = choose_off _ (other ts i symbol.Minus symbol.Bang s refl) (choose_on _ s (then_is _ (deep_unary (λ k small h. unary-complete p stop k small h) (omega arith) (unary-end ts p) k small h) refl))
    unary-complete {j = j} (grammar.postfix p) stop k small h = choose_off _ (postfix-start ts _ (no_primary _ refl refl refl refl refl refl refl) p) (choose_off _ (postfix-start ts _ (no_primary _ refl refl refl refl refl refl refl) p) (postfix-complete p (dot-none ts j stop) k small h))

    postfix-complete : {i j : ℕ} {t : ExprTree} → Postfix ts i t j → is_at ts j symbol.Dot ≡ false → (k : ℕ) → k ≤ length ts → j ≤ i + k → postfix_of ts (inside ts k) i ≡ Some (t, j)
    postfix-complete {i = i} (grammar.reads p d) stop k small h = after_primary k i (primary-complete p k small (omega (arith, h, dots-end ts d))) (last-dot d) stop (omega (arith, h, small, primary-end ts p))

    pub primary-complete : {i j : ℕ} {t : ExprTree} → Primary ts i t j → (k : ℕ) → k ≤ length ts → j ≤ i + k → primary_of ts (inside ts k) i ≡ Some (t, j)
    primary-complete {i = i} (grammar.constant {a = a} e) k small h = choose_off _ (constant-other ts i _ a refl refl refl refl e) (choose_off _ (constant-other ts i 75 a refl refl refl refl e) (given_off _ (no_number ts i (constant-other ts i 77 a refl refl refl refl e)) (given_on _ _ e refl)))
    primary-complete {i = i} (grammar.number {z = z} e) k small h = choose_off _ (number-other ts i _ z e refl) (choose_off _ (number-other ts i 75 z e refl) (given_on _ _ e refl))
    primary-complete {i = i} (grammar.name {w = w} e) k small h = choose_off _ (word-other ts i _ w e refl) (choose_on _ (word-kind ts i w e) (then_is _ e refl))
    primary-complete {i = i} (grammar.bracket {j = j} o p c) k small h = choose_on _ o (then_is _ (deep_level {i = i} _ (λ k small h. level-complete p (omega (arith, closes-rank ts j c)) k small h) (omega arith) (level-end ts p) k small (omega (arith, h))) (then_is _ (behind_on ts j symbol.RightParenthesis c) refl))

  pub expression-complete : {i j : ℕ} {t : ExprTree} → Expression ts i t j → 7 < rank_at ts j → j ≤ length ts → expression_at ts i ≡ Some (t, j)
  unfolding expression_at
  expression-complete p stop h = level-complete p stop (length ts) (omega arith) (omega (arith, h))

  listed-complete : (m : ℕ) {i j : ℕ} {xs : List ExprTree} → Listed ts i xs j → Is ts j symbol.RightParenthesis → j ≤ i + m → listed_at ts m i ≡ Some (xs, j)
  unfolding listed_at
  listed-complete zero p c h = absurd (omega (arith, h, listed-end ts p))
  listed-complete (suc m) {j = j} (grammar.last p) c h = then_is _ (expression-complete p (omega (arith, closes-rank ts j c)) (omega (arith, within ts j symbol.RightParenthesis refl c))) (choose_off _ (other ts j symbol.RightParenthesis symbol.Comma c refl) refl)
  listed-complete (suc m) {j = j} (grammar.further {j = k} p d q) c h = then_is _ (expression-complete p (omega (arith, comma-rank ts k d)) (omega (arith, within ts k symbol.Comma refl d))) (choose_on _ d (then_is _ (listed-complete m q c (omega (arith, h, level-end ts p))) refl))

  pub arguments-complete : {i j : ℕ} {xs : List ExprTree} → Arguments ts i xs j → arguments_at ts i ≡ Some (xs, j)
  unfolding arguments_at
  arguments-complete {i = i} (grammar.no_arguments o c) = then_is _ (behind_on ts i symbol.LeftParenthesis o) (choose_on _ c refl)
  arguments-complete {i = i} (grammar.arguments {j = j} o p c) = then_is _ (behind_on ts i symbol.LeftParenthesis o) (choose_off _ (listed-start ts _ (no_start _ refl refl refl refl refl refl refl refl refl) p)
      (then_is _ (listed-complete (length ts) p c (omega (arith, within ts j symbol.RightParenthesis refl c))) (then_is _ (behind_on ts j symbol.RightParenthesis c) refl)))

  -- where arguments begin, a bracket opens
  pub arguments-open : {i j : ℕ} {xs : List ExprTree} → Arguments ts i xs j → Is ts i symbol.LeftParenthesis
  arguments-open (grammar.no_arguments o c) = o
  arguments-open (grammar.arguments o p c) = o

  -- a word alone, and a word that is read of an operand, as far as no dot follows
  pub reads-word : {i : ℕ} {w : Word} → word_at ts i ≡ Some w → is_at ts (i + 1) symbol.Dot ≡ false → i < length ts → reads_at ts i ≡ Some (expr.name (place_at ts i) w, None, i + 1)
  unfolding reads_at
  reads-word {i = i} e stop h = reads_alone (length ts) i (primary-complete (grammar.name e) (length ts) (omega arith) (omega (arith, h))) stop

  pub reads-complete : {i j : ℕ} {a : ExprTree} {w : Word} → Postfix ts i a j → Is ts j symbol.Dot → word_at ts (j + 1) ≡ Some w → is_at ts (j + 2) symbol.Dot ≡ false → reads_at ts i ≡ Some (a, Some w, j + 2)
  unfolding reads_at
  reads-complete {i = i} {j = j} (grammar.reads p q) d e stop = let h : j < length ts = within ts j symbol.Dot refl d in
      reads_member (length ts) i (primary-complete p (length ts) (omega arith) (omega (arith, h, dots-end ts q))) q d e stop (omega (arith, h))

  -- what a call and a target begin with is read, and they are made of it
  pub record CallRead (i : ℕ) (c : CallTree) (j : ℕ) : Type 0 where
    pub operand : ExprTree
    pub last : Option Word
    pub next : ℕ
    pub read : reads_at ts i ≡ Some (operand, last, next)
    pub opens : Is ts next symbol.LeftParenthesis
    pub made : call_of ts i operand last next ≡ Some (c, j)

  pub call-read : {i j : ℕ} {c : CallTree} → Call ts i c j → CallRead i c j
  unfolding call_of called_of given
  call-read {i = i} (grammar.of_method {w = w} e p) = let o = arguments-open p in record {
    operand = expr.name (place_at ts i) w;
    last = None;
    next = i + 1;
    read = reads-word e (other ts (i + 1) symbol.LeftParenthesis symbol.Dot o refl) (omega (arith, within ts (i + 1) symbol.LeftParenthesis refl o));
    opens = o;
    made = then_is _ (then_is _ e refl) (then_is _ (arguments-complete p) refl);
  }
  call-read {i = i} (grammar.on_receiver {j = j} {a = a} {w = w} p d e q) = let o = arguments-open q in record {
    operand = a;
    last = Some w;
    next = j + 2;
    read = reads-complete p d e (other ts (j + 2) symbol.LeftParenthesis symbol.Dot o refl);
    opens = o;
    made = then_is _ refl (then_is _ (arguments-complete q) refl);
  }

  pub call-complete : {i j : ℕ} {c : CallTree} → Call ts i c j → call_at ts i ≡ Some (c, j)
  unfolding call_at
  call-complete p = let c = call-read p in then_is _ c.read c.made

  pub record TargetRead (i : ℕ) (t : ExprTree) (j : ℕ) : Type 0 where
    pub operand : ExprTree
    pub last : Option Word
    pub read : reads_at ts i ≡ Some (operand, last, j)
    pub made : target_of ts i operand last ≡ Some t

  pub target-read : {i j : ℕ} {t : ExprTree} → Target ts i t j → is_at ts j symbol.Dot ≡ false → j ≤ length ts → TargetRead i t j
  unfolding target_of given
  target-read {i = i} (grammar.of_name {w = w} e) stop h = record {
    operand = expr.name (place_at ts i) w;
    last = None;
    read = reads-word e stop (omega (arith, h));
    made = choose_on _ (word-kind ts i w e) refl;
  }
  target-read (grammar.of_member {a = a} {w = w} p d e) stop h = record { operand = a; last = Some w; read = reads-complete p d e stop; made = refl }

  pub target-complete : {i j : ℕ} {t : ExprTree} → Target ts i t j → is_at ts j symbol.Dot ≡ false → j ≤ length ts → target_at ts i ≡ Some (t, j)
  unfolding target_at
  target-complete p stop h = let t = target-read p stop h in then_is _ t.read (then_is _ t.made refl)

  as_expression : {i j : ℕ} {a : ExprTree} → Postfix ts i a j → Expression ts i a j
  as_expression p = grammar.chain (grammar.chain (grammar.chain (grammar.chain (grammar.chain (grammar.chain (grammar.unary (grammar.postfix p)) grammar.ended) grammar.ended) grammar.ended) grammar.ended) grammar.ended) grammar.ended

  -- the beginning of a call is an expression as well
  called-expression : {i j : ℕ} {c : CallTree} → Call ts i c j → (a : ExprTree) × (k : ℕ) × Is ts k symbol.LeftParenthesis × (expression_at ts i ≡ Some (a, k))
  called-expression {i = i} (grammar.of_method {w = w} e p) = let o = arguments-open p in
      (expr.name (place_at ts i) w, i + 1, o, expression-complete (as_expression (grammar.reads (grammar.name e) grammar.done)) (omega (arith, opens-rank ts (i + 1) o)) (omega (arith, within ts (i + 1) symbol.LeftParenthesis refl o)))
  called-expression (grammar.on_receiver {j = j} {a = a} {w = w} (grammar.reads p r) d e q) = let o = arguments-open q in
      (member_of a w, j + 2, o, expression-complete (as_expression (grammar.reads p (one_more_dot r d e))) (omega (arith, opens-rank ts (j + 2) o)) (omega (arith, within ts (j + 2) symbol.LeftParenthesis refl o)))

  pub rhs-complete : {i j : ℕ} {r : RhsTree} → Rhs ts i r j → Is ts j symbol.Semicolon → rhs_at ts i ≡ Some (r, j)
  unfolding rhs_at new_at
  rhs-complete {j = j} (grammar.of_value p) s = choose_off _ (level-start ts _ (no_start _ refl refl refl refl refl refl refl refl refl) p)
      (then_is _ (expression-complete p (omega (arith, semicolon-rank ts j s)) (omega (arith, within ts j symbol.Semicolon refl s))) (choose_off _ (other ts j symbol.Semicolon symbol.LeftParenthesis s refl) refl))
  rhs-complete (grammar.of_call p) s = let c = called-expression p in choose_off _ (call-start ts _ (no_primary _ refl refl refl refl refl refl refl) p) (then_is _ c.3 (choose_on _ c.2 (then_is _ (call-complete p) refl)))
  rhs-complete {i = i} (grammar.of_new {w = w} n e o c) s = choose_on _ n (then_is _ e (then_is _ (behind_on ts (i + 2) symbol.LeftParenthesis o) (then_is _ (behind_on ts (i + 3) symbol.RightParenthesis c) refl)))

-- what two readings of one place answer is the same
pub some_one : {A : Type 0} {a b : A} → Some a ≡ Some b → a ≡ b
some_one {A = A} {a = a} e = ap (λ (o : Option A). option_map_or (λ x. x) o a) e

pair_is : {A : Type 0} {a b : A × ℕ} → a ≡ b → (a.0 ≡ b.0) × (a.1 ≡ b.1)
pair_is {A = A} e = (ap (λ (x : A × ℕ). x.0) e, ap (λ (x : A × ℕ). x.1) e)

-- at most one expression stands from a place up to what no expression goes on with
pub at_most_one : (ts : List Token) (i j k : ℕ) (a b : ExprTree) → Expression ts i a j → Expression ts i b k → 7 < rank_at ts j → 7 < rank_at ts k → j ≤ length ts → k ≤ length ts → (a ≡ b) × (j ≡ k)
at_most_one ts i j k a b p q f g m n = pair_is (some_one (sym (expression-complete ts p f m) ∙ expression-complete ts q g n))

pub at_most_one_call : (ts : List Token) (i j k : ℕ) (c d : CallTree) → Call ts i c j → Call ts i d k → (c ≡ d) × (j ≡ k)
at_most_one_call ts i j k c d p q = pair_is (some_one (sym (call-complete ts p) ∙ call-complete ts q))

pub at_most_one_rhs : (ts : List Token) (i j k : ℕ) (r s : RhsTree) → Rhs ts i r j → Rhs ts i s k → Is ts j symbol.Semicolon → Is ts k symbol.Semicolon → (r ≡ s) × (j ≡ k)
at_most_one_rhs ts i j k r s p q f g = pair_is (some_one (sym (rhs-complete ts p f) ∙ rhs-complete ts q g))
