-- What is read is spelled.
use Rattle.std.proofs.Common.{◌≡◌, ℕ, zero, suc, ◌+◌, true, List, length, refl, subst, sym, ◌∙◌}
use Rattle.std.proofs.lemmas.Bool.{false≢true}
use Rattle.std.specs.Prelude.{Option, None, Some}
use Rattle.jh_lex.specs.lexer.Numbers.{symbol_number}
use Rattle.jh_lex.specs.declared.lexer.symbol.Symbol.TheVariants as symbol
use Rattle.jh_lex.specs.declared.lexer.token.Token.{Token}
use Rattle.jh_ast.specs.declared.word.Word.{Word}
use Rattle.jh_ast.specs.Exprs.{ExprTree}
use Rattle.jh_ast.specs.Exprs as expr
use Rattle.jh_operators.specs.lookahead.Choices.{given}
use Rattle.jh_operators.specs.lookahead.Standing.{Is, is_plain_word_at, word_at, place_at}
use Rattle.jh_operators.proofs.lookahead.Facts.{kinds-apart, number-other, word-kind}
use Rattle.jh_operators.proofs.lookahead.Options.{Holds, nothing, found, then_holds, then_found, choose_holds, given_holds, behind_holds}
use Rattle.jh_parse.specs.expressions.Expressions.{Dots, Level, Chain, Unary, Postfix, Primary, Listed, Arguments, Call, Target, Rhs, Expression, member_of, binary_of}
use Rattle.jh_parse.specs.expressions.Expressions as grammar
use Rattle.jh_parse.specs.expressions.Reading.{Inside, bracket_of, simple_at, primary_of, with_last, dots_at, reads_of, postfix_of, signed_of, unary_of, chain_with, level_of, chain_of, inside, expression_at, listed_at, arguments_at, reads_at, called_of, call_of, call_at, target_of, target_at, new_at, rhs_at}
use Rattle.jh_parse.proofs.expressions.Facts.{constant-other}

-- what is read deeper inside is spelled
pub record Sound (ts : List Token) (inside : Inside) : Type 0 where
  pub level : (n i : ℕ) → Holds (λ r. Level ts n i r.0 r.1) (inside.level n i)
  pub unary : (i : ℕ) → Holds (λ r. Unary ts i r.0 r.1) (inside.unary i)
  pub chain : (n : ℕ) (a : ExprTree) (i : ℕ) → Holds (λ r. Chain ts n a i r.0 r.1) (inside.chain n a i)

-- an operand, and the words after its dots, of which the last is kept apart
pub data ReadTo (ts : List Token) (i : ℕ) : ExprTree → Option Word → ℕ → Type 0 where
  alone : {j : ℕ} {a : ExprTree} → Primary ts i a j → ReadTo ts i a None j
  member : {j : ℕ} {a : ExprTree} {w : Word} → Postfix ts i a j → Is ts j symbol.Dot → word_at ts (j + 1) ≡ Some w → ReadTo ts i a (Some w) (j + 2)

-- a fact of what is read, by another
pub holds_by : {A : Type 0} {P Q : A → Type 0} {o : Option A} → Holds P o → ((x : A) → P x → Q x) → Holds Q o
holds_by nothing go = nothing
holds_by (found p) go = found (go _ p)

pub one_more_dot : {ts : List Token} {i j : ℕ} {a t : ExprTree} {w : Word} → Dots ts a i t j → Is ts j symbol.Dot → word_at ts (j + 1) ≡ Some w → Dots ts a i (member_of t w) (j + 2)
one_more_dot grammar.done d e = grammar.more d e grammar.done
one_more_dot (grammar.more f g p) d e = grammar.more f g (one_more_dot p d e)

pub read-postfix : {ts : List Token} {i j : ℕ} {a : ExprTree} {last : Option Word} → ReadTo ts i a last j → Postfix ts i (with_last a last) j
unfolding with_last given
read-postfix (alone p) = grammar.reads p grammar.done
read-postfix (member (grammar.reads p q) d e) = grammar.reads p (one_more_dot q d e)

dots-sound : (ts : List Token) (k i : ℕ) (a : ExprTree) (last : Option Word) (j : ℕ) → ReadTo ts i a last j → Holds (λ r. ReadTo ts i r.0 r.1 r.2) (dots_at ts k a last j)
unfolding dots_at
dots-sound ts zero i a last j p = nothing
dots-sound ts (suc k) i a last j p = choose_holds (λ d. then_found (λ w e. dots-sound ts k i (with_last a last) (Some w) (j + 2) (member (read-postfix p) d e))) (λ d. found p)

module _ (ts : List Token) (inside : Inside) (sound : Sound ts inside) where
  bracket-sound : (i : ℕ) → Is ts i symbol.LeftParenthesis → Holds (λ r. Primary ts i r.0 r.1) (bracket_of ts inside i)
  unfolding bracket_of
  bracket-sound i opens = then_holds (sound.level 6 (i + 1)) (λ a p. behind_holds _ _ _ _ _ (λ closes. found (grammar.bracket opens p closes)))

  simple-sound : (i : ℕ) → Holds (λ r. Primary ts i r.0 r.1) (simple_at ts i)
  unfolding simple_at
  simple-sound i = choose_holds (λ c. then_found (λ w e. found (grammar.name e))) (λ c. given_holds (λ z e. found (grammar.number e)) (λ n. given_holds (λ b e. found (grammar.constant e)) (λ m. nothing)))

  primary-sound : (i : ℕ) → Holds (λ r. Primary ts i r.0 r.1) (primary_of ts inside i)
  unfolding primary_of
  primary-sound i = choose_holds (λ opens. bracket-sound i opens) (λ n. simple-sound i)

  pub reads-sound : (i : ℕ) → Holds (λ r. ReadTo ts i r.0 r.1 r.2) (reads_of ts inside i)
  unfolding reads_of
  reads-sound i = then_holds (primary-sound i) (λ a p. dots-sound ts (suc (length ts)) i a.0 None a.1 (alone p))

  postfix-sound : (i : ℕ) → Holds (λ r. Postfix ts i r.0 r.1) (postfix_of ts inside i)
  unfolding postfix_of
  postfix-sound i = then_holds (reads-sound i) (λ r p. found (read-postfix p))

  unary-sound : (i : ℕ) → Holds (λ r. Unary ts i r.0 r.1) (unary_of ts inside i)
  unfolding unary_of signed_of
  unary-sound i =
      choose_holds (λ s. then_holds (sound.unary (i + 1)) (λ a p. found (grammar.negated s p))) (λ _.
      choose_holds (λ s. then_holds (sound.unary (i + 1)) (λ a p. found (grammar.minus s p))) (λ _.
      holds_by (postfix-sound i) (λ r p. grammar.postfix p)))

  chain_with-sound : (lower : ℕ → Option (ExprTree × ℕ)) (n : ℕ) → ((i : ℕ) → Holds (λ r. Level ts n i r.0 r.1) (lower i)) → (a : ExprTree) (i : ℕ) → Holds (λ r. Chain ts n a i r.0 r.1) (chain_with ts inside lower n a i)
  chain_with-sound lower n below a i = given_holds (λ o e. then_holds (below (i + 1)) (λ b q. choose_holds (λ s. found (grammar.once s e q)) (λ s. holds_by (sound.chain n (binary_of o a b.0) b.1) (λ r c. grammar.extended s e q c)))) (λ e. found grammar.ended)

  level-sound : (n i : ℕ) → Holds (λ r. Level ts n i r.0 r.1) (level_of ts inside n i)
  unfolding level_of
  level-sound zero i = holds_by (unary-sound i) (λ r p. grammar.unary p)
  level-sound (suc n) i = then_holds (level-sound n i) (λ a p. holds_by (chain_with-sound (level_of ts inside n) n (level-sound n) a.0 a.1) (λ r c. grammar.chain p c))

  chain-sound : (n : ℕ) (a : ExprTree) (i : ℕ) → Holds (λ r. Chain ts n a i r.0 r.1) (chain_of ts inside n a i)
  unfolding chain_of
  chain-sound n a i = chain_with-sound (level_of ts inside n) n (level-sound n) a i

pub inside-sound : (ts : List Token) (k : ℕ) → Sound ts (inside ts k)
unfolding inside
inside-sound ts zero = record { level = λ n i. nothing; unary = λ i. nothing; chain = λ n a i. nothing }
inside-sound ts (suc k) = record {
  level = level-sound ts (inside ts k) (inside-sound ts k);
  unary = unary-sound ts (inside ts k) (inside-sound ts k);
  chain = chain-sound ts (inside ts k) (inside-sound ts k);
}

module _ (ts : List Token) where
  pub expression-sound : (i : ℕ) → Holds (λ r. Expression ts i r.0 r.1) (expression_at ts i)
  unfolding expression_at
  expression-sound i = level-sound ts (inside ts (length ts)) (inside-sound ts (length ts)) 6 i

  listed-sound : (k i : ℕ) → Holds (λ r. Listed ts i r.0 r.1) (listed_at ts k i)
  unfolding listed_at
  listed-sound zero i = nothing
  listed-sound (suc k) i = then_holds (expression-sound i) (λ a p. choose_holds (λ c. then_holds (listed-sound k (a.1 + 1)) (λ r q. found (grammar.further p c q))) (λ c. found (grammar.last p)))

  pub arguments-sound : (i : ℕ) → Holds (λ r. Arguments ts i r.0 r.1) (arguments_at ts i)
  unfolding arguments_at
  arguments-sound i = behind_holds _ _ _ _ _ (λ opens. choose_holds (λ closes. found (grammar.no_arguments opens closes))
      (λ _. then_holds (listed-sound (length ts) (i + 1)) (λ xs p. behind_holds _ _ _ _ _ (λ closes. found (grammar.arguments opens p closes)))))

  pub reads_at-sound : (i : ℕ) → Holds (λ r. ReadTo ts i r.0 r.1 r.2) (reads_at ts i)
  unfolding reads_at
  reads_at-sound i = reads-sound ts (inside ts (length ts)) (inside-sound ts (length ts)) i

  -- a primary that begins with a word is that word
  word-alone : {i j : ℕ} {a : ExprTree} → is_plain_word_at ts i ≡ true → Primary ts i a j → (w : Word) × (word_at ts i ≡ Some w) × (a ≡ expr.name (place_at ts i) w) × (j ≡ i + 1)
  word-alone {i = i} e (grammar.constant {a = a} f) = absurd (false≢true (sym (constant-other ts i 75 a refl refl refl refl f) ∙ e))
  word-alone {i = i} e (grammar.number {z = z} f) = absurd (false≢true (sym (number-other ts i 75 z f refl) ∙ e))
  word-alone e (grammar.name {w = w} f) = (w, f, refl, refl)
  word-alone {i = i} e (grammar.bracket o p c) = absurd (false≢true (sym (kinds-apart ts i 75 (symbol_number symbol.LeftParenthesis) e refl) ∙ o))

  pub call_of-sound : {i j : ℕ} {a : ExprTree} {last : Option Word} → ReadTo ts i a last j → Holds (λ r. Call ts i r.0 r.1) (call_of ts i a last j)
  unfolding call_of called_of given
  call_of-sound {i = i} {j = j} (alone p) = then_holds {P = λ c. (c.0 ≡ None) × (word_at ts i ≡ Some c.1)} (then_found (λ w e. found (refl, e))) (λ c e. then_holds (arguments-sound j) (λ xs q. found
      (subst (λ r. Call ts i (record { receiver = r; method = c.1; args = xs.0 }) xs.1) (sym e.0) (grammar.of_method e.1 (subst (λ m. Arguments ts m xs.0 xs.1) (word-alone (word-kind ts i c.1 e.1) p).3 q)))))
  call_of-sound {i = i} (member {j = j} {a = a} {w = w} p d e) = then_holds {P = λ c. c ≡ (Some a, w)} (found refl) (λ c f. then_holds (arguments-sound (j + 2)) (λ xs q. found
      (subst (λ c. Call ts i (record { receiver = c.0; method = c.1; args = xs.0 }) xs.1) (sym f) (grammar.on_receiver p d e q))))

  pub call-sound : (i : ℕ) → Holds (λ r. Call ts i r.0 r.1) (call_at ts i)
  unfolding call_at
  call-sound i = then_holds (reads_at-sound i) (λ r p. call_of-sound p)

  pub target_of-sound : {i j : ℕ} {a : ExprTree} {last : Option Word} → ReadTo ts i a last j → Holds (λ t. Target ts i t j) (target_of ts i a last)
  unfolding target_of given
  target_of-sound {i = i} {j = j} {a = a} (alone p) = choose_holds (λ e. let w = word-alone e p in found (subst (λ m. Target ts i a m) (sym w.3) (subst (λ t. Target ts i t (i + 1)) (sym w.2) (grammar.of_name w.1)))) (λ _. nothing)
  target_of-sound (member p d e) = found (grammar.of_member p d e)

  pub target-sound : (i : ℕ) → Holds (λ r. Target ts i r.0 r.1) (target_at ts i)
  unfolding target_at
  target-sound i = then_holds (reads_at-sound i) (λ r p. then_holds (target_of-sound p) (λ t q. found q))

  pub rhs-sound : (i : ℕ) → Holds (λ r. Rhs ts i r.0 r.1) (rhs_at ts i)
  unfolding rhs_at new_at
  rhs-sound i = choose_holds
      (λ s. then_found (λ w e. behind_holds _ _ _ _ _ (λ o. behind_holds _ _ _ _ _ (λ c. found (grammar.of_new s e o c)))))
      (λ _. then_holds (expression-sound i) (λ a p. choose_holds (λ o. then_holds (call-sound i) (λ c q. found (grammar.of_call q))) (λ _. found (grammar.of_value p))))
