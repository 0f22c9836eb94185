-- What is spelled is read.
use Rattle.std.proofs.Common.{◌≡◌, ℕ, zero, suc, ◌+◌, ◌<◌, ◌≤◌, Bool, true, false, List, [], ◌∷◌, length, refl, ap, sym, ◌∙◌, arith}
use Rattle.std.proofs.lemmas.Bool.{false≢true}
use Rattle.std.proofs.Math.Dec.{eqb-suc-zero}
use Rattle.std.specs.Prelude.{Option, None, Some, ◌==◌, ◌&&◌}
use Rattle.std.specs.Option.{option_map_or}
use Rattle.jh_lex.specs.lexer.Numbers.{symbol_number}
use Rattle.jh_lex.specs.declared.lexer.symbol.Symbol.{Symbol}
use Rattle.jh_lex.specs.declared.lexer.symbol.Symbol.TheVariants as symbol
use Rattle.jh_lex.specs.declared.lexer.token.Token.{Token}
use Rattle.jh_ast.specs.declared.word.Word.{Word}
use Rattle.jh_ast.specs.declared.spec.SpecOp.{SpecOp}
use Rattle.jh_ast.specs.Forms.{FormTree, FormTrees}
use Rattle.jh_operators.specs.lookahead.Standing.{Is, is_at, is_quote_close_at, is_plain_word_at, is_number_at}
use Rattle.jh_spec.specs.parser.Operators.{operator_at, rank_at}
use Rattle.jh_spec.specs.parser.Formulas.{Words, Bound, Typed, Names, Dots, Operand, Right, Compared, Left, Chain, Prefix, Postfix, Atom, Members, Spelled, binary_of}
use Rattle.jh_spec.specs.parser.Formulas as grammar
use Rattle.jh_spec.specs.parser.Reading.{is_compr_at, is_dvd_at}
use Rattle.jh_spec.specs.parser.Reading.{words_at, bound_at, typed_at, names_at, members_of, bracket_of, compr_of, braces_of, simple_at, set_of, atom_of, dots_at, postfix_of, forest_of, pair_at, rtrancl_of, signed_of, prefix_of, chain_with, left_of, chain_of, divides_of, compared_of, right_of, quantified_of, operand_of, inside, formula_at}
use Rattle.jh_operators.proofs.lookahead.Options.{then_is, choose_on, choose_off, given_on, given_off, behind_on}
use Rattle.jh_operators.proofs.lookahead.Facts.{kinds-apart, other, within, kind-within, word-kind, name-kind, number-kind, word-name, kind-no_name}
use Rattle.jh_operators.proofs.lookahead.Symbols.{name-plain, number-plain, kind-plain}
use Rattle.jh_spec.proofs.parser.Facts.{operator-between, operator-none, dots-none, no_dots-rank, dvd-none, paren-rank, brace-rank, comma-rank, quote-rank, closes-rank}
use Rattle.jh_spec.proofs.parser.Ends.{words-end, typed-end, names-end, dots-end, operand-end, right-end, left-end, chain-end, prefix-end, postfix-end, atom-end, members-end}
use Rattle.jh_spec.proofs.parser.Starts.{AtomStart, Constant, constant-there, postfix-start, compared-start, right-start, members-brace, Alone, left-alone, operand-alone}

both_on : {a b : Bool} → a ≡ true → b ≡ true → (a && b) ≡ true
both_on e f = λ i. e i && f i

second_off : (a b : Bool) → (a ≡ true → b ≡ false) → (a && b) ≡ false
second_off true b h = h refl
second_off false b h = refl

eqb_suc : (n : ℕ) → (suc n == 0) ≡ false
eqb_suc n = eqb-suc-zero n

quote-within : (ts : List Token) (i : ℕ) → is_quote_close_at ts i ≡ true → i < length ts
quote-within ts i e = kind-within ts i 81 refl e

module _ (ts : List Token) where
  words-complete : (ws : List Word) (m i j : ℕ) → Words ts i ws j → is_plain_word_at ts j ≡ false → length ws ≤ m → words_at ts m i ≡ Some (ws, j)
  unfolding words_at
  words-complete [] zero i j h last n = ap (λ k. Some ([], k)) h
  words-complete [] (suc m) i j h last n = choose_off _ (ap (is_plain_word_at ts) h ∙ last) (ap (λ k. Some ([], k)) h)
  words-complete (w ∷ ws) zero i j h last n = absurd (omega (arith, n))
  words-complete (w ∷ ws) (suc m) i j h last n = choose_on _ (word-kind ts _ w h.0) (then_is _ h.0 (then_is _ (words-complete ws m (i + 1) j h.1 last (omega (arith, n))) refl))

  some_words : (ws : List Word) → 0 < length ws → (length ws == 0) ≡ false
  some_words [] h = absurd (omega (arith, h))
  some_words (w ∷ ws) h = eqb_suc (length ws)

  bound-complete : {ws : List Word} {j : ℕ} (i : ℕ) → Bound ts i ws j → is_plain_word_at ts j ≡ false → bound_at ts i ≡ Some (ws, j)
  unfolding bound_at
  bound-complete {ws = ws} {j = j} i b last = then_is _ (words-complete ws 8 i j b.0 last b.2) (choose_off _ (some_words ws b.1) refl)

  typed-complete : {i j : ℕ} → Typed ts i j → typed_at ts i ≡ Some j
  unfolding typed_at
  typed-complete {i = i} (grammar.untyped d) = choose_off _ (other ts i symbol.Dot symbol.ColonColon d refl) (behind_on ts i symbol.Dot d)
  typed-complete {i = i} (grammar.typed c o d) = choose_on _ c (choose_on _ o (behind_on ts (i + 2) symbol.Dot d))

  typed-word : {i j : ℕ} → Typed ts i j → is_plain_word_at ts i ≡ false
  typed-word {i = i} (grammar.untyped d) = kinds-apart ts i (symbol_number symbol.Dot) 75 d refl
  typed-word {i = i} (grammar.typed c o d) = kinds-apart ts i (symbol_number symbol.ColonColon) 75 c refl

  names-complete : (m : ℕ) {i j : ℕ} {ws : List Word} → Names ts i ws j → is_at ts j symbol.Comma ≡ false → j < i + m → names_at ts m i ≡ Some (ws, j)
  unfolding names_at
  names-complete zero p stop h = absurd (omega (arith, h, names-end ts p))
  names-complete (suc m) (grammar.last e) stop h = then_is _ e (choose_off _ stop refl)
  names-complete (suc m) (grammar.further e c p) stop h = then_is _ e (choose_on _ c (then_is _ (names-complete m p stop (omega (arith, h))) refl))

  dots-complete : (m : ℕ) {i j : ℕ} {a t : FormTree} → Dots ts a i t j → 1 < rank_at ts j → j < i + m → dots_at ts m a i ≡ Some (t, j)
  unfolding dots_at
  dots-complete zero p stop h = absurd (omega (arith, h, dots-end ts p))
  dots-complete (suc m) grammar.done stop h = choose_off _ (dots-none ts _ stop) refl
  dots-complete (suc m) (grammar.more d e p) stop h = choose_on _ d (then_is _ e (dots-complete m p stop (omega (arith, h))))

  -- what is read deeper inside, from what is read there
  deep_operand : {i m j : ℕ} {t : FormTree} (n : ℕ) → ((k : ℕ) → k ≤ length ts → j ≤ m + k → operand_of ts (inside ts k) n m ≡ Some (t, j)) → i < m → m < j → (k : ℕ) → k ≤ length ts → j ≤ i + k → (inside ts k).operand n m ≡ Some (t, j)
  unfolding inside
  deep_operand n read below some zero small h = absurd (omega (arith, below, some, h))
  deep_operand n read below some (suc k) small h = read k (omega (arith, small)) (omega (arith, below, h))

  deep_prefix : {i m j : ℕ} {t : FormTree} → ((k : ℕ) → k ≤ length ts → j ≤ m + k → prefix_of ts (inside ts k) m ≡ Some (t, j)) → i < m → m < j → (k : ℕ) → k ≤ length ts → j ≤ i + k → (inside ts k).prefix m ≡ Some (t, j)
  unfolding inside
  deep_prefix read below some zero small h = absurd (omega (arith, below, some, h))
  deep_prefix read below some (suc k) small h = read k (omega (arith, small)) (omega (arith, below, h))

  deep_chain : {i m j : ℕ} {t : FormTree} (n : ℕ) (a : FormTree) → ((k : ℕ) → k ≤ length ts → j ≤ m + k → chain_with ts (inside ts k) (left_of ts (inside ts k) n) n a m ≡ Some (t, j)) → i < m → m ≤ j → (k : ℕ) → k ≤ length ts → j ≤ i + k → (inside ts k).chain n a m ≡ Some (t, j)
  unfolding inside chain_of
  deep_chain n a read below some zero small h = absurd (omega (arith, below, some, h))
  deep_chain n a read below some (suc k) small h = read k (omega (arith, small)) (omega (arith, below, h))

  deep_members : {m j : ℕ} {t : FormTrees} → ((k : ℕ) → k ≤ length ts → j < m + k → members_of ts (inside ts k) m ≡ Some (t, j)) → m < j → (k : ℕ) → k ≤ length ts → j + 1 < m + k → (inside ts k).members m ≡ Some (t, j)
  unfolding inside
  deep_members read some zero small h = absurd (omega (arith, some, h))
  deep_members read some (suc k) small h = read k (omega (arith, small)) (omega (arith, h))

  deep_member : {m j : ℕ} {t : FormTree} (n : ℕ) → ((k : ℕ) → k ≤ length ts → j ≤ m + k → operand_of ts (inside ts k) n m ≡ Some (t, j)) → m < j → (k : ℕ) → k ≤ length ts → j < m + k → (inside ts k).operand n m ≡ Some (t, j)
  unfolding inside
  deep_member n read some zero small h = absurd (omega (arith, some, h))
  deep_member n read some (suc k) small h = read k (omega (arith, small)) (omega (arith, h))

  at_dot : (r m : ℕ) (o : Option SpecOp) → operator_at ts r m ≡ o → Is ts m symbol.Dot → operator_at ts r m ≡ None
  at_dot r m None e d = e
  at_dot r m (Some o) e d = absurd (false≢true (sym (operator-between ts r m o e).0.dot ∙ d))

  at_dvd : (r m : ℕ) (o : Option SpecOp) → operator_at ts r m ≡ o → Is ts m symbol.Dvd → operator_at ts r m ≡ None
  at_dvd r m None e d = e
  at_dvd r m (Some o) e d = absurd (false≢true (sym (operator-between ts r m o e).0.dvd ∙ d))

  -- a word in front of a dot, or a number in front of `dvd`, is all of what is spelled there
  not_compr : {j : ℕ} {ms : FormTrees} (i : ℕ) → Members ts (i + 1) ms j → Is ts j symbol.RightBrace → is_compr_at ts i ≡ false
  not_compr {j = j} i p c = second_off (is_plain_word_at ts (i + 1)) (is_at ts (i + 2) symbol.Dot) (λ w. by_dot (is_at ts (i + 2) symbol.Dot) refl w) where
    alone : is_plain_word_at ts (i + 1) ≡ true → Is ts (i + 2) symbol.Dot → Alone ts (i + 1)
    alone e d = let two : i + 1 + 1 ≡ i + 2 = omega arith in record {
      plain = λ u. kind-plain ts (i + 1) 75 u (omega arith) e;
      dots = ap (λ k. is_at ts k symbol.DotDot) two ∙ other ts (i + 2) symbol.Dot symbol.DotDot d refl;
      between = λ r. at_dot r (i + 1 + 1) (operator_at ts r (i + 1 + 1)) refl (ap (λ k. is_at ts k symbol.Dot) two ∙ d);
    }

    next_is : {ms : FormTrees} {j : ℕ} → is_plain_word_at ts (i + 1) ≡ true → Is ts (i + 2) symbol.Dot → Members ts (i + 1) ms j → (s : Symbol) → (symbol_number symbol.Dot == symbol_number s) ≡ false → Is ts j s → (symbol_number symbol.Dot == symbol_number symbol.Comma) ≡ false → ⊥
    next_is e d (grammar.last_member p) s n q m = let two : i + 1 + 1 ≡ i + 2 = omega arith in
        let far : _ ≡ i + 1 + 1 = operand-alone ts (alone e d) (ap (λ k. is_at ts k symbol.Dvd) two ∙ other ts (i + 2) symbol.Dot symbol.Dvd d refl) p in
        false≢true (sym (other ts (i + 2) symbol.Dot s d n) ∙ ap (λ k. is_at ts k s) (sym (far ∙ two)) ∙ q)
    next_is e d (grammar.more_members p k r) s n q m = let two : i + 1 + 1 ≡ i + 2 = omega arith in
        let far : _ ≡ i + 1 + 1 = operand-alone ts (alone e d) (ap (λ k. is_at ts k symbol.Dvd) two ∙ other ts (i + 2) symbol.Dot symbol.Dvd d refl) p in
        false≢true (sym (other ts (i + 2) symbol.Dot symbol.Comma d m) ∙ ap (λ k. is_at ts k symbol.Comma) (sym (far ∙ two)) ∙ k)

    by_dot : (b : Bool) → is_at ts (i + 2) symbol.Dot ≡ b → is_plain_word_at ts (i + 1) ≡ true → is_at ts (i + 2) symbol.Dot ≡ false
    by_dot false d w = d
    by_dot true d w = absurd (next_is w d p symbol.RightBrace refl c refl)

  not_dvd : {i j : ℕ} {t : FormTree} → Left ts 2 i t j → (is_at ts j symbol.Dvd ≡ false) → is_dvd_at ts i ≡ false
  not_dvd {i = i} {j = j} p c = second_off (is_number_at ts i) (is_at ts (i + 1) symbol.Dvd) (λ w. by_dvd (is_at ts (i + 1) symbol.Dvd) refl w) where
    alone : is_number_at ts i ≡ true → Is ts (i + 1) symbol.Dvd → Alone ts i
    alone e d = record {
      plain = λ u. kind-plain ts i 77 u (omega arith) e;
      dots = other ts (i + 1) symbol.Dvd symbol.DotDot d refl;
      between = λ r. at_dvd r (i + 1) (operator_at ts r (i + 1)) refl d;
    }

    by_dvd : (b : Bool) → is_at ts (i + 1) symbol.Dvd ≡ b → is_number_at ts i ≡ true → is_at ts (i + 1) symbol.Dvd ≡ false
    by_dvd false d w = d
    by_dvd true d w = absurd (false≢true (sym c ∙ ap (λ k. is_at ts k symbol.Dvd) (left-alone ts (alone w d) p) ∙ d))

  chain-stop : {n i j : ℕ} {a t : FormTree} → Chain ts n a i t j → 2 + n < rank_at ts j → 1 + n < rank_at ts i
  chain-stop grammar.ended stop = omega (arith, stop)
  chain-stop {n = n} {i = i} (grammar.extended {o = o} e p c) stop = omega (arith, (operator-between ts (2 + n) i o e).1)

  mutual
    unfolding operand_of quantified_of right_of compared_of divides_of left_of prefix_of signed_of forest_of rtrancl_of pair_at postfix_of atom_of simple_at bracket_of set_of compr_of braces_of members_of

    operand-complete : {n i j : ℕ} {t : FormTree} → Operand ts n i t j → 4 + n < rank_at ts j → (k : ℕ) → k ≤ length ts → j ≤ i + k → operand_of ts (inside ts k) n i ≡ Some (t, j)
    operand-complete (grammar.plain p) stop k small h = choose_off _ (right-start ts p).all (choose_off _ (right-start ts p).ex (right-complete p stop k small h))
    operand-complete {i = i} {j = l} (grammar.all {j = j} {ws = ws} s b t p c) stop k small h = choose_on _ s (then_is _ (bound-complete (i + 1) b (typed-word t)) (then_is _ (typed-complete t)
        (then_is _ (deep_operand _ (λ k small h. operand-complete p (omega (arith, closes-rank ts l c)) k small h) (omega (arith, words-end ts (i + 1) ws j b.0, typed-end ts t)) (operand-end ts p) k small h) (choose_on _ c refl))))
    operand-complete {i = i} {j = l} (grammar.ex {j = j} {ws = ws} s b t p c) stop k small h = choose_off _ (other ts i symbol.Ex symbol.All s refl) (choose_on _ s (then_is _ (bound-complete (i + 1) b (typed-word t)) (then_is _ (typed-complete t)
        (then_is _ (deep_operand _ (λ k small h. operand-complete p (omega (arith, closes-rank ts l c)) k small h) (omega (arith, words-end ts (i + 1) ws j b.0, typed-end ts t)) (operand-end ts p) k small h) (choose_on _ c refl)))))

    right-complete : {n i j : ℕ} {t : FormTree} → Right ts n i t j → 4 + n < rank_at ts j → (k : ℕ) → k ≤ length ts → j ≤ i + k → right_of ts (inside ts k) n i ≡ Some (t, j)
    right-complete (grammar.negated s p) stop k small h = choose_on _ s (then_is _ (deep_operand _ (λ k small h. operand-complete p stop k small h) (omega arith) (operand-end ts p) k small h) refl)
    right-complete (grammar.compared p) stop k small h = choose_off _ (compared-start ts p).tilde (compared-complete p (omega (arith, stop)) k small h)
    right-complete {j = j} (grammar.tighter {n = n} p) stop k small h = then_is _ (right-complete p (omega (arith, stop)) k small h) (given_off _ (operator-none ts (5 + n) j (omega (arith, stop))) refl)
    right-complete (grammar.joined {n = n} {j = j} {o = o} p e q) stop k small h = then_is _ (right-complete p (omega (arith, (operator-between ts (5 + n) j o e).1)) k small (omega (arith, h, operand-end ts q)))
        (given_on _ _ e (then_is _ (deep_operand _ (λ k small h. operand-complete q stop k small h) (omega (arith, right-end ts p)) (operand-end ts q) k small h) refl))

    compared-complete : {i j : ℕ} {t : FormTree} → Compared ts i t j → 4 < rank_at ts j → (k : ℕ) → k ≤ length ts → j ≤ i + k → compared_of ts (inside ts k) i ≡ Some (t, j)
    compared-complete {i = i} (grammar.divides {z = z} e d p) stop k small h = choose_on _ (both_on (number-kind ts i z e) d) (then_is _ e (then_is _ (left-complete p (omega (arith, stop)) k small (omega (arith, h))) refl))
    compared-complete {j = j} (grammar.single p) stop k small h = choose_off _ (not_dvd p (dvd-none ts j stop)) (then_is _ (left-complete p (omega (arith, stop)) k small h) (given_off _ (operator-none ts 4 j stop) refl))
    compared-complete (grammar.both {j = j} {o = o} p e q) stop k small h = choose_off _ (not_dvd p (operator-between ts 4 j o e).0.dvd) (then_is _ (left-complete p (omega (arith, (operator-between ts 4 j o e).1)) k small (omega (arith, h, left-end ts q)))
        (given_on _ _ e (then_is _ (left-complete q (omega (arith, stop)) k small (omega (arith, h, left-end ts p))) refl)))

    left-complete : {n i j : ℕ} {t : FormTree} → Left ts n i t j → 1 + n < rank_at ts j → (k : ℕ) → k ≤ length ts → j ≤ i + k → left_of ts (inside ts k) n i ≡ Some (t, j)
    left-complete (grammar.prefix p) stop k small h = prefix-complete p (omega (arith, stop)) k small h
    left-complete (grammar.chain p c) stop k small h = then_is _ (left-complete p (chain-stop c (omega (arith, stop))) k small (omega (arith, h, chain-end ts c))) (chain-complete c (omega (arith, stop)) k small (omega (arith, h, left-end ts p)))

    chain-complete : {n i j : ℕ} {a t : FormTree} → Chain ts n a i t j → 2 + n < rank_at ts j → (k : ℕ) → k ≤ length ts → j ≤ i + k → chain_with ts (inside ts k) (left_of ts (inside ts k) n) n a i ≡ Some (t, j)
    chain-complete {n = n} {i = i} grammar.ended stop k small h = given_off _ (operator-none ts (2 + n) i stop) refl
    chain-complete (grammar.extended e p c) stop k small h = given_on _ _ e (then_is _ (left-complete p (chain-stop c stop) k small (omega (arith, h, chain-end ts c)))
        (deep_chain _ _ (λ k small h. chain-complete c stop k small h) (omega (arith, left-end ts p)) (chain-end ts c) k small h))

    prefix-complete : {i j : ℕ} {t : FormTree} → Prefix ts i t j → 1 < rank_at ts j → (k : ℕ) → k ≤ length ts → j ≤ i + k → prefix_of ts (inside ts k) i ≡ Some (t, j)
    prefix-complete (grammar.minus s p) stop k small h = choose_on _ s (then_is _ (deep_prefix (λ k small h. prefix-complete p stop k small h) (omega arith) (prefix-end ts p) k small h) refl)
    prefix-complete {i = i} (grammar.old s p) stop k small h = choose_off _ (other ts i symbol.Old symbol.Minus s refl) (choose_on _ s (then_is _ (deep_prefix (λ k small h. prefix-complete p stop k small h) (omega arith) (prefix-end ts p) k small h) refl))
    prefix-complete {i = i} (grammar.card s p) stop k small h = choose_off _ (other ts i symbol.Card symbol.Minus s refl) (choose_off _ (other ts i symbol.Card symbol.Old s refl) (choose_on _ s (then_is _ (deep_prefix (λ k small h. prefix-complete p stop k small h) (omega arith) (prefix-end ts p) k small h) refl)))
    prefix-complete {i = i} (grammar.forest {j = j} s o p c) stop k small h = choose_off _ (other ts i symbol.Tree symbol.Minus s refl) (choose_off _ (other ts i symbol.Tree symbol.Old s refl) (choose_off _ (other ts i symbol.Tree symbol.Card s refl) (choose_on _ s
        (then_is _ (behind_on ts (i + 1) symbol.LeftBracket o) (then_is _ (names-complete (suc (length ts)) p (other ts j symbol.RightBracket symbol.Comma c refl) (omega (arith, within ts j symbol.RightBracket refl c))) (then_is _ (behind_on ts j symbol.RightBracket c) refl))))))
    prefix-complete {i = i} (grammar.rtrancl {j = j} {k = m} s o q x y d p c a b) stop k small h = choose_off _ (other ts i symbol.RtranclPt symbol.Minus s refl) (choose_off _ (other ts i symbol.RtranclPt symbol.Old s refl) (choose_off _ (other ts i symbol.RtranclPt symbol.Card s refl) (choose_off _ (other ts i symbol.RtranclPt symbol.Tree s refl) (choose_on _ s
        (then_is _ (then_is _ (behind_on ts (i + 1) symbol.LeftParenthesis o) (then_is _ (behind_on ts (i + 2) symbol.Percent q) (then_is _ x (then_is _ y (then_is _ (behind_on ts (i + 5) symbol.Dot d) refl)))))
        (then_is _ (deep_operand {i = i} _ (λ k small h. operand-complete p (omega (arith, paren-rank ts j c)) k small h) (omega arith) (operand-end ts p) k small (omega (arith, h, postfix-end ts a, postfix-end ts b)))
        (then_is _ (behind_on ts j symbol.RightParenthesis c)
        (then_is _ (postfix-complete a (no_dots-rank ts m (postfix-start ts b).dots) k small (omega (arith, h, postfix-end ts b, operand-end ts p)))
        (then_is _ (postfix-complete b stop k small (omega (arith, h, postfix-end ts a, operand-end ts p))) refl)))))))))
    prefix-complete (grammar.postfix p) stop k small h = let s : AtomStart ts _ = postfix-start ts p in choose_off _ s.minus (choose_off _ s.old (choose_off _ s.card (choose_off _ s.forest (choose_off _ s.rtrancl (postfix-complete p stop k small h)))))

    pub postfix-complete : {i j : ℕ} {t : FormTree} → Postfix ts i t j → 1 < rank_at ts j → (k : ℕ) → k ≤ length ts → j ≤ i + k → postfix_of ts (inside ts k) i ≡ Some (t, j)
    postfix-complete (grammar.reads p d) stop k small h = then_is _ (atom-complete p k small (omega (arith, h, dots-end ts d))) (dots-complete (suc (length ts)) d stop (omega (arith, h, small, atom-end ts p)))

    atom-complete : {i j : ℕ} {t : FormTree} → Atom ts i t j → (k : ℕ) → k ≤ length ts → j ≤ i + k → atom_of ts (inside ts k) i ≡ Some (t, j)
    atom-complete {i = i} (grammar.name {w = w} e) k small h = choose_off _ (name-plain ts i w symbol.LeftParenthesis e) (choose_off _ (name-plain ts i w symbol.LeftBrace e) (choose_on _ (name-kind ts i w e) (then_is _ e refl)))
    atom-complete {i = i} (grammar.number {z = z} e) k small h = choose_off _ (number-plain ts i z symbol.LeftParenthesis e) (choose_off _ (number-plain ts i z symbol.LeftBrace e) (choose_off _ (kind-no_name ts i 77 (number-kind ts i z e) refl refl) (given_on _ _ e refl)))
    atom-complete {i = i} (grammar.constant {a = a} e) k small h = let c : Constant ts i = constant-there ts i a e in choose_off _ c.paren (choose_off _ c.open_brace (choose_off _ c.name (given_off _ c.number (given_on _ _ e refl))))
    atom-complete {i = i} (grammar.bracket {j = j} o p c) k small h = choose_on _ o (then_is _ (deep_operand {i = i} _ (λ k small h. operand-complete p (omega (arith, paren-rank ts j c)) k small h) (omega arith) (operand-end ts p) k small (omega (arith, h))) (then_is _ (behind_on ts j symbol.RightParenthesis c) refl))
    atom-complete {i = i} (grammar.empty o c) k small h = choose_off _ (other ts i symbol.LeftBrace symbol.LeftParenthesis o refl) (choose_on _ o (choose_on _ c refl))
    atom-complete {i = i} (grammar.braces {j = j} o p c) k small h = choose_off _ (other ts i symbol.LeftBrace symbol.LeftParenthesis o refl) (choose_on _ o (choose_off _ (members-brace ts p) (choose_off _ (not_compr i p c)
        (then_is _ (deep_members (λ k small h. members-complete p c k small h) (members-end ts p) k small (omega (arith, h))) (then_is _ (behind_on ts j symbol.RightBrace c) refl)))))
    atom-complete {i = i} (grammar.compr {j = j} {x = x} o e d p c) k small h = choose_off _ (other ts i symbol.LeftBrace symbol.LeftParenthesis o refl) (choose_on _ o (choose_off _ (name-plain ts (i + 1) x symbol.RightBrace (word-name ts (i + 1) x e)) (choose_on _ (both_on (word-kind ts (i + 1) x e) d)
        (then_is _ e (then_is _ (deep_operand {i = i} _ (λ k small h. operand-complete p (omega (arith, brace-rank ts j c)) k small h) (omega arith) (operand-end ts p) k small (omega (arith, h))) (then_is _ (behind_on ts j symbol.RightBrace c) refl))))))

    members-complete : {i j : ℕ} {t : FormTrees} → Members ts i t j → Is ts j symbol.RightBrace → (k : ℕ) → k ≤ length ts → j < i + k → members_of ts (inside ts k) i ≡ Some (t, j)
    members-complete {j = j} (grammar.last_member p) c k small h = then_is _ (deep_member _ (λ k small h. operand-complete p (omega (arith, brace-rank ts j c)) k small h) (operand-end ts p) k small h) (choose_off _ (other ts j symbol.RightBrace symbol.Comma c refl) refl)
    members-complete (grammar.more_members {j = m} p d q) c k small h = then_is _ (deep_member _ (λ k small h. operand-complete p (omega (arith, comma-rank ts m d)) k small h) (operand-end ts p) k small (omega (arith, h, members-end ts q)))
        (choose_on _ d (then_is _ (deep_members (λ k small h. members-complete q c k small h) (members-end ts q) k small (omega (arith, h, operand-end ts p))) refl))

-- what is spelled as a formula is read
pub formula-complete : (ts : List Token) (i j : ℕ) (t : FormTree) → Spelled ts i t j → formula_at ts i ≡ Some (t, j)
unfolding formula_at
formula-complete ts i j t s = then_is _ (operand-complete ts s.formula (omega (arith, quote-rank ts j s.quote)) (length ts) (omega arith) (omega (arith, quote-within ts j s.quote))) (choose_on _ s.quote refl)

-- at most one formula begins at a place
pub at_most_one : (ts : List Token) (i j k : ℕ) (t u : FormTree) → Spelled ts i t j → Spelled ts i u k → (t ≡ u) × (j ≡ k)
at_most_one ts i j k t u p q = pair_is (some_one (sym (formula-complete ts i j t p) ∙ formula-complete ts i k u q)) where
  some_one : {a b : FormTree × ℕ} → Some a ≡ Some b → a ≡ b
  some_one {a = a} e = ap (λ (o : Option (FormTree × ℕ)). option_map_or (λ x. x) o a) e

  pair_is : {a b : FormTree × ℕ} → a ≡ b → (a.0 ≡ b.0) × (a.1 ≡ b.1)
  pair_is e = (ap (λ (x : FormTree × ℕ). x.0) e, ap (λ (x : FormTree × ℕ). x.1) e)
