-- How pieces are cut into tokens.
use Rattle.std.proofs.Common.{◌≡◌, ℕ, suc, ◌+◌, ◌-◌, ◌<◌, Bool, true, false, cond, not, ◌&&◌, ◌==◌, ltb, List, [], ◌∷◌, ◌++◌, map, length, take, drop, slice_range, Some, None, MatchOption, MatchBool, refl, ap, sym, subst, ◌∙◌, arith, append_assoc, append-nil, length-append, take_at, drop_at, option_map}
use Rattle.std.specs.List.{list_all, prefix_len}
use Rattle.std.proofs.lemmas.Bool.{and_from, and_parts, and_left, cond-true, cond-false, lt-ltb, not-true}
use Rattle.std.proofs.lemmas.List.Folds.{list_all-append}
use Rattle.std.proofs.lemmas.List.{map-append}
use Rattle.jh_name.specs.declared.place.Place.{Place}
use Rattle.jh_lex.specs.lexer.Characters.{is_space, first}
use Rattle.jh_lex.specs.lexer.Ends.{close_at, quote_at}
use Rattle.jh_lex.specs.lexer.Lexemes.{kind_of}
use Rattle.jh_lex.specs.lexer.Places.{after}
use Rattle.jh_lex.specs.declared.lexer.error.LexError.TheVariants.{OpenComment, OpenQuote}
use Rattle.jh_lex.specs.lexer.Texts.{Step, Outcome, moves, stops, cut, fault, with_front, Run, ended, moved, token, LexemeStep, lexeme_step, longest, enclosed, FormulaStep, QuoteStep, SpecificationStep, CommentStep, SlashStep, CodeStep}
use Rattle.jh_lex.specs.declared.lexer.mode.Mode.{Mode}
use Rattle.jh_lex.specs.declared.lexer.mode.Mode.TheVariants as mode
use Rattle.jh_lex.specs.declared.lexer.token.Token.{Token}
use Rattle.jh_lex.specs.declared.lexer.token.TokenKind.{TokenKind}
use Rattle.jh_lex.specs.declared.lexer.token.TokenKind.TheVariants as kind
use Rattle.jh_lex.proofs.lexer.Longest.{lexeme_is_longest}
use Rattle.jh_gen_laws.specs.tokens.Pieces.{Piece, space, word, pair, digit, sign, Part, plain, quote, Item, code, specification, text_of, pieces_before, part_before, parts_before, item_before, items_before, kinds_of, pieces_kinds, part_kinds, parts_kinds, item_kinds, items_kinds}
use Rattle.jh_gen_laws.specs.tokens.Laws as laws
use Rattle.jh_gen_laws.proofs.tokens.Fits.{fits, is_apart, IsToken, word_token, pair_token, digit_token, sign_token}

abbrev pub kinds : List Token → List TokenKind
kinds ts = map laws.kind_of ts

-- A text is cut up to a rest of it into tokens of these kinds, wherever it begins.
abbrev pub Passes : (Place → List ℕ → Step → Type 0) → List ℕ → List ℕ → List TokenKind → Type 0
Passes S cs rest ks = (p : Place) → (ts : List Token) × (q : Place) × (kinds ts ≡ ks) × ((o : Outcome) → Run S q rest o → Run S p cs (with_front ts o))

front-nil : (o : Outcome) → o ≡ with_front [] o
front-nil (cut us) = refl
front-nil (fault e) = refl

front-append : (ts us : List Token) (o : Outcome) → with_front ts (with_front us o) ≡ with_front (ts ++ us) o
front-append ts us (cut vs) = ap cut (sym (append_assoc ts us vs))
front-append ts us (fault e) = refl

module _ (S : Place → List ℕ → Step → Type 0) where
  pub passes-nothing : (cs : List ℕ) → Passes S cs cs []
  passes-nothing cs p = ([], p, refl, λ o run. subst (Run S p cs) (front-nil o) run)

  pub passes-more : (a b c : List ℕ) (ks ls : List TokenKind) → Passes S a b ks → Passes S b c ls → Passes S a c (ks ++ ls)
  passes-more a b c ks ls x y p =
      let u = x p in
      let v = y u.1 in
      (u.0 ++ v.0, v.1, map-append laws.kind_of u.0 v.0 ∙ (λ i. u.2 i ++ v.2 i), λ o run. subst (Run S p a) (front-append u.0 v.0 o) (u.3 (with_front v.0 o) (v.3 o run)))

  pub passes-step : (cs rest : List ℕ) (n : ℕ) (ks : List TokenKind) → drop n cs ≡ rest → ((p : Place) → (ts : List Token) × (kinds ts ≡ ks) × S p cs (moves ts n)) → Passes S cs rest ks
  passes-step cs rest n ks e step p =
      let u = step p in
      (u.0, after p (take n cs), u.1, λ o run. moved u.2 (subst (λ xs. Run S (after p (take n cs)) xs o) (sym e) run))

  -- a whole text
  pub run-of : (cs : List ℕ) (ks : List TokenKind) → Passes S cs [] ks → (p : Place) → (ts : List Token) × (kinds ts ≡ ks) × Run S p cs (cut ts)
  run-of cs ks x p = let u = x p in (u.0, u.2, subst (λ ts. Run S p cs (cut ts)) (append-nil u.0) (u.3 (cut []) ended))

-- ---- a piece, in each mode
module _ (S : Place → List ℕ → Step → Type 0) (m : Mode)
    (blank : (p : Place) (c : ℕ) (rest : List ℕ) → is_space c ≡ true → S p (c ∷ rest) (moves [] 1))
    (lexeme : (p : Place) (t rest : List ℕ) (s : Step) → 0 < length t → is_apart t ≡ true → LexemeStep m p (t ++ rest) s → S p (t ++ rest) s) where
  token-passes : (x : Piece) (rest : List ℕ) → IsToken m x rest → Passes S (text_of x ++ rest) rest (kinds_of m x)
  token-passes x rest h =
      let t = text_of x in
      let n = length t in
      let front : take n (t ++ rest) ≡ t = take_at t rest n refl in
      let is : kind_of m (take n (t ++ rest)) ≡ Some h.token = ap (kind_of m) front ∙ h.known in
      passes-step S (t ++ rest) rest n (kinds_of m x) (drop_at t rest n refl)
      (λ p. (token h.token p ∷ [], sym h.only, lexeme p t rest _ h.some h.apart (longest n (lexeme_is_longest m n (t ++ rest) (sym h.whole) h.some) (ap (lexeme_step p n) (sym is)))))

  pub piece-passes : (x : Piece) (rest : List ℕ) → fits m x rest ≡ true → Passes S (text_of x ++ rest) rest (kinds_of m x)
  piece-passes (space c) rest e = passes-step S (c ∷ rest) rest 1 [] refl (λ p. ([], refl, blank p c rest e))
  piece-passes (word t) rest e = token-passes (word t) rest (word_token m t rest e)
  piece-passes (pair a b) rest e = token-passes (pair a b) rest (pair_token m a b rest e)
  piece-passes (digit k) rest e = token-passes (digit k) rest (digit_token m k rest e)
  piece-passes (sign t) rest e = token-passes (sign t) rest (sign_token m t rest e)

-- ---- formulas

some-more : (t rest : List ℕ) → 0 < length t → 0 < length (t ++ rest)
some-more t rest h = omega (arith, length-append t rest)

first-more : (t rest : List ℕ) → 0 < length t → first (t ++ rest) ≡ first t
first-more [] rest h = absurd (omega arith)
first-more (c ∷ t) rest h = refl

formula-blank : (p : Place) (c : ℕ) (rest : List ℕ) → is_space c ≡ true → FormulaStep p (c ∷ rest) (moves [] 1)
formula-blank p c rest e = (omega arith, subst (λ b. MatchBool b (moves [] 1 ≡ moves [] 1) (LexemeStep mode.Formula p (c ∷ rest) (moves [] 1))) (sym e) refl)

formula-lexeme : (p : Place) (t rest : List ℕ) (s : Step) → 0 < length t → is_apart t ≡ true → LexemeStep mode.Formula p (t ++ rest) s → FormulaStep p (t ++ rest) s
formula-lexeme p t rest s h apart x =
    let other : is_space (first (t ++ rest)) ≡ false = ap is_space (first-more t rest h) ∙ not-true _ (and_parts _ _ apart).0 in
    (some-more t rest h, subst (λ b. MatchBool b (s ≡ moves [] 1) (LexemeStep mode.Formula p (t ++ rest) s)) (sym other) x)

-- the pieces fit, in front of the rest
abbrev pub pieces_fit : List Piece → List ℕ → Bool
pieces_fit [] rest = true
pieces_fit (x ∷ xs) rest = fits mode.Formula x (pieces_before xs rest) && pieces_fit xs rest

pub pieces-passes : (xs : List Piece) (rest : List ℕ) → pieces_fit xs rest ≡ true → Passes FormulaStep (pieces_before xs rest) rest (pieces_kinds mode.Formula xs)
pieces-passes [] rest e = passes-nothing FormulaStep rest
pieces-passes (x ∷ xs) rest e =
    let r = and_parts _ _ e in
    passes-more FormulaStep _ (pieces_before xs rest) rest _ _ (piece-passes FormulaStep mode.Formula formula-blank formula-lexeme x (pieces_before xs rest) r.0) (pieces-passes xs rest r.1)

-- ---- what encloses

-- no character of the text is this one
abbrev pub lacks : ℕ → List ℕ → Bool
lacks d cs = list_all (λ c. not (c == d)) cs

abbrev pub pieces_lack : ℕ → List Piece → Bool
pieces_lack d [] = true
pieces_lack d (x ∷ xs) = lacks d (text_of x) && pieces_lack d xs

lacks-append : (d : ℕ) (a b : List ℕ) → lacks d a ≡ true → lacks d b ≡ true → lacks d (a ++ b) ≡ true
lacks-append d a b x y = list_all-append (λ c. not (c == d)) a b ∙ and_from _ _ x y

pieces-lack : (d : ℕ) (xs : List Piece) (rest : List ℕ) → pieces_lack d xs ≡ true → lacks d rest ≡ true → lacks d (pieces_before xs rest) ≡ true
pieces-lack d [] rest e h = h
pieces-lack d (x ∷ xs) rest e h = let r = and_parts _ _ e in lacks-append d (text_of x) (pieces_before xs rest) r.0 (pieces-lack d xs rest r.1 h)

pieces-split : (xs : List Piece) (rest : List ℕ) → pieces_before xs rest ≡ pieces_before xs [] ++ rest
pieces-split [] rest = refl
pieces-split (x ∷ xs) rest = ap (λ r. text_of x ++ r) (pieces-split xs rest) ∙ sym (append_assoc (text_of x) (pieces_before xs []) rest)

quote-length : (cs rest : List ℕ) → lacks 34 cs ≡ true → prefix_len (λ c. not (c == 34)) (cs ++ 34 ∷ rest) ≡ length cs
quote-length [] rest e = refl
quote-length (c ∷ cs) rest e = let r = and_parts _ _ e in cond-true (not (c == 34)) _ _ r.0 ∙ omega (arith, quote-length cs rest r.1)

quote-found : (cs rest : List ℕ) → lacks 34 cs ≡ true → quote_at (cs ++ 34 ∷ rest) ≡ Some (length cs)
quote-found cs rest e =
    ap (λ n. cond (ltb n (length (cs ++ 34 ∷ rest))) (Some n) None) (quote-length cs rest e)
    ∙ cond-true _ _ _ (lt-ltb (length cs) (length (cs ++ 34 ∷ rest)) (omega (arith, length-append cs (34 ∷ rest))))

close-found : (cs rest : List ℕ) → lacks 42 cs ≡ true → close_at (cs ++ 42 ∷ 47 ∷ rest) ≡ Some (length cs)
close-found [] rest e = refl
close-found (c ∷ cs) rest e =
    let r = and_parts _ _ e in
    cond-false ((c == 42) && (first (cs ++ 42 ∷ 47 ∷ rest) == 47)) _ _ (and_left _ _ (not-true (c == 42) r.0))
    ∙ ap (option_map suc) (close-found cs rest r.1)

enclosed-kinds : (a b : TokenKind) (p q : Place) (ts : List Token) (ks : List TokenKind) → kinds ts ≡ ks → kinds (token a p ∷ (ts ++ token b q ∷ [])) ≡ a ∷ (ks ++ b ∷ [])
enclosed-kinds a b p q ts ks e = ap (λ xs. a ∷ xs) (map-append laws.kind_of ts (token b q ∷ []) ∙ ap (λ xs. xs ++ b ∷ []) e)

-- a quote, and what it is read from
module _ (xs : List Piece) (rest : List ℕ) (fit : pieces_fit xs [] ≡ true) (lack : pieces_lack 34 xs ≡ true) where
  inside : List ℕ
  inside = pieces_before xs []

  whole : pieces_before xs (34 ∷ rest) ≡ pieces_before xs [] ++ 34 ∷ rest
  whole = pieces-split xs (34 ∷ rest)

  quote-at : quote_at (pieces_before xs (34 ∷ rest)) ≡ Some (length (pieces_before xs []))
  quote-at = ap quote_at whole ∙ quote-found (pieces_before xs []) rest (pieces-lack 34 xs [] lack refl)

  inside-is : take (length (pieces_before xs [])) (pieces_before xs (34 ∷ rest)) ≡ pieces_before xs []
  inside-is = ap (take (length (pieces_before xs []))) whole ∙ take_at (pieces_before xs []) (34 ∷ rest) _ refl

  behind-is : drop (length (pieces_before xs []) + 2) (34 ∷ pieces_before xs (34 ∷ rest)) ≡ rest
  behind-is =
      ap (λ cs. drop (length (pieces_before xs []) + 2) (34 ∷ cs)) (whole ∙ sym (append_assoc (pieces_before xs []) (34 ∷ []) rest))
      ∙ drop_at (34 ∷ (pieces_before xs [] ++ 34 ∷ [])) rest _ (omega (arith, length-append (pieces_before xs []) (34 ∷ [])))

  quote-step : (p : Place) → (ts : List Token) × (kinds ts ≡ kind.QuoteOpen ∷ (pieces_kinds mode.Formula xs ++ kind.QuoteClose ∷ [])) × QuoteStep p (34 ∷ pieces_before xs (34 ∷ rest)) (moves ts (length (pieces_before xs []) + 2))
  quote-step p =
      let cs = 34 ∷ pieces_before xs (34 ∷ rest) in
      let n = length (pieces_before xs []) in
      let begin = after p (take 1 cs) in
      let close = after p (take (n + 1) cs) in
      let r = run-of FormulaStep (pieces_before xs []) (pieces_kinds mode.Formula xs) (pieces-passes xs [] fit) begin in
      let run = subst (λ x. Run FormulaStep begin x (cut r.0)) (sym inside-is) r.2 in
      let made : Step = enclosed kind.QuoteOpen kind.QuoteClose p close (n + 2) (cut r.0) in (
        token kind.QuoteOpen p ∷ (r.0 ++ token kind.QuoteClose close ∷ []),
        enclosed-kinds kind.QuoteOpen kind.QuoteClose p close r.0 _ r.1,
        subst (λ o. MatchOption o (made ≡ stops (OpenQuote p)) (λ k. (o : Outcome) × Run FormulaStep begin (take k (pieces_before xs (34 ∷ rest))) o × (made ≡ enclosed kind.QuoteOpen kind.QuoteClose p (after p (take (k + 1) cs)) (k + 2) o))) (sym quote-at) (cut r.0, run, refl),
      )

-- ---- specifications

specification-blank : (p : Place) (c : ℕ) (rest : List ℕ) → is_space c ≡ true → SpecificationStep p (c ∷ rest) (moves [] 1)
specification-blank p c rest e = (omega arith, subst (λ b. MatchBool b (moves [] 1 ≡ moves [] 1) (MatchBool (c == 34) (QuoteStep p (c ∷ rest) (moves [] 1)) (LexemeStep mode.Specification p (c ∷ rest) (moves [] 1)))) (sym e) refl)

specification-lexeme : (p : Place) (t rest : List ℕ) (s : Step) → 0 < length t → is_apart t ≡ true → LexemeStep mode.Specification p (t ++ rest) s → SpecificationStep p (t ++ rest) s
specification-lexeme p t rest s h apart x =
    let u = and_parts _ _ apart in
    let v = and_parts _ _ u.1 in
    let is = first-more t rest h in
    let other : is_space (first (t ++ rest)) ≡ false = ap is_space is ∙ not-true _ u.0 in
    let no_quote : (first (t ++ rest) == 34) ≡ false = ap (λ c. c == 34) is ∙ not-true _ v.1 in
    let inner = subst (λ b. MatchBool b (QuoteStep p (t ++ rest) s) (LexemeStep mode.Specification p (t ++ rest) s)) (sym no_quote) x in
    (some-more t rest h, subst (λ b. MatchBool b (s ≡ moves [] 1) (MatchBool (first (t ++ rest) == 34) (QuoteStep p (t ++ rest) s) (LexemeStep mode.Specification p (t ++ rest) s))) (sym other) inner)

abbrev pub part_fits : Part → List ℕ → Bool
part_fits (plain x) rest = fits mode.Specification x rest
part_fits (quote xs) rest = pieces_fit xs [] && pieces_lack 34 xs

abbrev pub parts_fit : List Part → List ℕ → Bool
parts_fit [] rest = true
parts_fit (x ∷ xs) rest = part_fits x (parts_before xs rest) && parts_fit xs rest

part-passes : (x : Part) (rest : List ℕ) → part_fits x rest ≡ true → Passes SpecificationStep (part_before x rest) rest (part_kinds x)
part-passes (plain x) rest e = piece-passes SpecificationStep mode.Specification specification-blank specification-lexeme x rest e
part-passes (quote xs) rest e =
    let r = and_parts _ _ e in
    passes-step SpecificationStep (34 ∷ pieces_before xs (34 ∷ rest)) rest (length (pieces_before xs []) + 2) _ (behind-is xs rest r.0 r.1)
    (λ p. let u = quote-step xs rest r.0 r.1 p in (u.0, u.1, (omega arith, u.2)))

pub parts-passes : (xs : List Part) (rest : List ℕ) → parts_fit xs rest ≡ true → Passes SpecificationStep (parts_before xs rest) rest (parts_kinds xs)
parts-passes [] rest e = passes-nothing SpecificationStep rest
parts-passes (x ∷ xs) rest e =
    let r = and_parts _ _ e in
    passes-more SpecificationStep _ (parts_before xs rest) rest _ _ (part-passes x (parts_before xs rest) r.0) (parts-passes xs rest r.1)

abbrev pub part_lacks : ℕ → Part → Bool
part_lacks d (plain x) = lacks d (text_of x)
part_lacks d (quote xs) = not (34 == d) && pieces_lack d xs

abbrev pub parts_lack : ℕ → List Part → Bool
parts_lack d [] = true
parts_lack d (x ∷ xs) = part_lacks d x && parts_lack d xs

part-lacks : (d : ℕ) (x : Part) (rest : List ℕ) → part_lacks d x ≡ true → lacks d rest ≡ true → lacks d (part_before x rest) ≡ true
part-lacks d (plain x) rest e h = lacks-append d (text_of x) rest e h
part-lacks d (quote xs) rest e h = let r = and_parts _ _ e in and_from _ _ r.0 (pieces-lack d xs (34 ∷ rest) r.1 (and_from _ _ r.0 h))

parts-lack : (d : ℕ) (xs : List Part) (rest : List ℕ) → parts_lack d xs ≡ true → lacks d rest ≡ true → lacks d (parts_before xs rest) ≡ true
parts-lack d [] rest e h = h
parts-lack d (x ∷ xs) rest e h = let r = and_parts _ _ e in part-lacks d x (parts_before xs rest) r.0 (parts-lack d xs rest r.1 h)

part-split : (x : Part) (a rest : List ℕ) → part_before x (a ++ rest) ≡ part_before x a ++ rest
part-split (plain x) a rest = sym (append_assoc (text_of x) a rest)
part-split (quote xs) a rest = ap (λ r. 34 ∷ r) (pieces-split xs (34 ∷ (a ++ rest)) ∙ sym (append_assoc (pieces_before xs []) (34 ∷ a) rest) ∙ ap (λ r. r ++ rest) (sym (pieces-split xs (34 ∷ a))))

parts-split : (xs : List Part) (rest : List ℕ) → parts_before xs rest ≡ parts_before xs [] ++ rest
parts-split [] rest = refl
parts-split (x ∷ xs) rest = ap (part_before x) (parts-split xs rest) ∙ part-split x (parts_before xs []) rest

-- ---- code

code-blank : (p : Place) (c : ℕ) (rest : List ℕ) → is_space c ≡ true → CodeStep p (c ∷ rest) (moves [] 1)
code-blank p c rest e = (omega arith, subst (λ b. MatchBool b (moves [] 1 ≡ moves [] 1) (MatchBool (c == 47) (SlashStep p (c ∷ rest) (moves [] 1)) (LexemeStep mode.Code p (c ∷ rest) (moves [] 1)))) (sym e) refl)

code-lexeme : (p : Place) (t rest : List ℕ) (s : Step) → 0 < length t → is_apart t ≡ true → LexemeStep mode.Code p (t ++ rest) s → CodeStep p (t ++ rest) s
code-lexeme p t rest s h apart x =
    let u = and_parts _ _ apart in
    let v = and_parts _ _ u.1 in
    let is = first-more t rest h in
    let other : is_space (first (t ++ rest)) ≡ false = ap is_space is ∙ not-true _ u.0 in
    let no_slash : (first (t ++ rest) == 47) ≡ false = ap (λ c. c == 47) is ∙ not-true _ v.0 in
    let inner = subst (λ b. MatchBool b (SlashStep p (t ++ rest) s) (LexemeStep mode.Code p (t ++ rest) s)) (sym no_slash) x in
    (some-more t rest h, subst (λ b. MatchBool b (s ≡ moves [] 1) (MatchBool (first (t ++ rest) == 47) (SlashStep p (t ++ rest) s) (LexemeStep mode.Code p (t ++ rest) s))) (sym other) inner)

-- a specification, and what it is read from
module _ (xs : List Part) (rest : List ℕ) (fit : parts_fit xs [] ≡ true) (lack : parts_lack 42 xs ≡ true) where
  spoken : parts_before xs (42 ∷ 47 ∷ rest) ≡ parts_before xs [] ++ 42 ∷ 47 ∷ rest
  spoken = parts-split xs (42 ∷ 47 ∷ rest)

  close-at : close_at (58 ∷ parts_before xs (42 ∷ 47 ∷ rest)) ≡ Some (suc (length (parts_before xs [])))
  close-at = ap (option_map suc) (ap close_at spoken ∙ close-found (parts_before xs []) rest (parts-lack 42 xs [] lack refl))

  spoken-is : slice_range (47 ∷ 42 ∷ 58 ∷ parts_before xs (42 ∷ 47 ∷ rest)) 3 (suc (length (parts_before xs [])) + 2) ≡ parts_before xs []
  spoken-is = ap (take (suc (length (parts_before xs [])) + 2 - 3)) spoken ∙ take_at (parts_before xs []) (42 ∷ 47 ∷ rest) _ (omega arith)

  after-is : drop (suc (length (parts_before xs [])) + 2 + 2) (47 ∷ 42 ∷ 58 ∷ parts_before xs (42 ∷ 47 ∷ rest)) ≡ rest
  after-is =
      ap (λ cs. drop (suc (length (parts_before xs [])) + 2 + 2) (47 ∷ 42 ∷ 58 ∷ cs)) (spoken ∙ sym (append_assoc (parts_before xs []) (42 ∷ 47 ∷ []) rest))
      ∙ drop_at (47 ∷ 42 ∷ 58 ∷ (parts_before xs [] ++ 42 ∷ 47 ∷ [])) rest _ (omega (arith, length-append (parts_before xs []) (42 ∷ 47 ∷ [])))

  specification-step : (p : Place) → (ts : List Token) × (kinds ts ≡ kind.SpecOpen ∷ (parts_kinds xs ++ kind.SpecClose ∷ [])) × SlashStep p (47 ∷ 42 ∷ 58 ∷ parts_before xs (42 ∷ 47 ∷ rest)) (moves ts (suc (length (parts_before xs [])) + 2 + 2))
  specification-step p =
      let cs = 47 ∷ 42 ∷ 58 ∷ parts_before xs (42 ∷ 47 ∷ rest) in
      let n = suc (length (parts_before xs [])) + 2 in
      let begin = after p (take 3 cs) in
      let close = after p (take n cs) in
      let r = run-of SpecificationStep (parts_before xs []) (parts_kinds xs) (parts-passes xs [] fit) begin in
      let run = subst (λ x. Run SpecificationStep begin x (cut r.0)) (sym spoken-is) r.2 in
      let made : Step = enclosed kind.SpecOpen kind.SpecClose p close (n + 2) (cut r.0) in (
        token kind.SpecOpen p ∷ (r.0 ++ token kind.SpecClose close ∷ []),
        enclosed-kinds kind.SpecOpen kind.SpecClose p close r.0 _ r.1,
        subst (λ o. MatchOption o (made ≡ stops (OpenComment p)) (λ k. CommentStep (k + 2) 2 p cs made)) (sym close-at) (cut r.0, run, refl),
      )

abbrev pub item_fits : Item → List ℕ → Bool
item_fits (code x) rest = fits mode.Code x rest
item_fits (specification xs) rest = parts_fit xs [] && parts_lack 42 xs

abbrev pub items_fit : List Item → List ℕ → Bool
items_fit [] rest = true
items_fit (x ∷ xs) rest = item_fits x (items_before xs rest) && items_fit xs rest

item-passes : (x : Item) (rest : List ℕ) → item_fits x rest ≡ true → Passes CodeStep (item_before x rest) rest (item_kinds x)
item-passes (code x) rest e = piece-passes CodeStep mode.Code code-blank code-lexeme x rest e
item-passes (specification xs) rest e =
    let r = and_parts _ _ e in
    passes-step CodeStep (47 ∷ 42 ∷ 58 ∷ parts_before xs (42 ∷ 47 ∷ rest)) rest (suc (length (parts_before xs [])) + 2 + 2) _ (after-is xs rest r.0 r.1)
    (λ p. let u = specification-step xs rest r.0 r.1 p in (u.0, u.1, (omega arith, u.2)))

pub items-passes : (xs : List Item) (rest : List ℕ) → items_fit xs rest ≡ true → Passes CodeStep (items_before xs rest) rest (items_kinds xs)
items-passes [] rest e = passes-nothing CodeStep rest
items-passes (x ∷ xs) rest e =
    let r = and_parts _ _ e in
    passes-more CodeStep _ (items_before xs rest) rest _ _ (item-passes x (items_before xs rest) r.0) (items-passes xs rest r.1)
