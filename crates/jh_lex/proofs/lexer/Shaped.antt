-- The tokens of a source have their shape.
use Rattle.std.proofs.Common.{◌≡◌, ◌≢◌, ℕ, zero, suc, ◌+◌, ◌<◌, ◌^◌, ◌||◌, Bool, true, false, eqb, ltb, List, [], ◌∷◌, ◌++◌, length, take, drop, get_or, slice_range, codes, Option, Some, None, MatchOption, MatchBool, sym, refl, ap, ◌∙◌, subst, arith, ⊎_elim, append-nil}
use Rattle.std.specs.Char.{encode_utf8, is_ascii_digit}
use Rattle.std.specs.List.{list_all, list_any, AllPass}
use Rattle.std.specs.Option.{IfSome, is_some, option_map, unwrap_or}
use Rattle.std.specs.Prelude.{pos, slice_get}
use Rattle.std.specs.Str.{encode_utf8_all, IsAscii}
use Rattle.std.proofs.lemmas.Bool.{false≢true, both_ways, cond_both, and_parts, and_from, or_cases, or_right, eqb-true, ne_eqb, not_from_false}
use Rattle.std.proofs.lemmas.List.Elements.{All-append, All-from_get_or, All-nil}
use Rattle.std.proofs.lemmas.Str.{inside_one, encodes_same, encodes-append, encodes-IsAscii, length-le-encodes}
use Rattle.std.proofs.lemmas.Str.Ascii.{IsAscii-cons, IsAscii-nil}
use Rattle.unicode_ident.proofs.IdentLemmas.{is_xid_continue-ascii, is_xid_start-is_xid_continue}
use Rattle.jh_name.specs.declared.place.Place.{Place}
use Rattle.jh_lex.specs.lexer.Characters.{starts_word, continues_word, first, is_space}
use Rattle.jh_lex.specs.lexer.Ends.{close_at, quote_at, line_length}
use Rattle.jh_lex.specs.lexer.Lexemes.{is_word, is_number, has_qualified, IsQualified, IsLexeme, word, qualified, number, sign, name_of, word_kind, number_kind, value, kind_of}
use Rattle.jh_lex.specs.lexer.Lexes.{Lexes}
use Rattle.jh_lex.specs.lexer.Places.{start, after}
use Rattle.jh_lex.specs.lexer.Modes.{mode_after, mode_after_all}
use Rattle.jh_lex.specs.lexer.Shapes.{is_inside_word, IsWordText, IsWordName, IsQualifiedName, KindFits, HasShape, EndsWithEnd}
use Rattle.jh_lex.specs.lexer.Symbols.{signs, reserved, find_text}
use Rattle.jh_lex.specs.lexer.Texts.{Step, Outcome, moves, stops, cut, fault, with_front, Run, ended, moved, stopped, token, LexemeStep, lexeme_step, longest, none, enclosed, FormulaStep, QuoteStep, SpecificationStep, CommentStep, SlashStep, CodeStep}
use Rattle.jh_lex.specs.declared.lexer.error.LexError.{LexError}
use Rattle.jh_lex.specs.declared.lexer.mode.Mode.{Mode}
use Rattle.jh_lex.specs.declared.lexer.mode.Mode.TheVariants.{Code, Specification, Formula}
use Rattle.jh_lex.specs.declared.lexer.symbol.Symbol.{Symbol}
use Rattle.jh_lex.specs.declared.lexer.token.Token.{Token}
use Rattle.jh_lex.specs.declared.lexer.token.TokenKind.{TokenKind}
use Rattle.jh_lex.specs.declared.lexer.token.TokenKind.TheVariants as kind
use Rattle.jh_lex.proofs.lexer.Fronts.{dot_stops, word_some}
use Rattle.jh_lex.proofs.lexer.Longest.{nothing, digit_no_word}
use Rattle.jh_lex.proofs.lexer.Signs.{sign_starts_plain}

pub moves_tokens : {ts us : List Token} {n k : ℕ} → moves ts n ≡ moves us k → ts ≡ us
moves_tokens e = cc

pub moves_stops : {ts : List Token} {n : ℕ} {e : LexError} → moves ts n ≡ stops e → ⊥
moves_stops e = cc

pub none_some : {A : Type 0} {x : A} → None ≡ Some x → ⊥
none_some e = cc

pub some_same : {A : Type 0} {x y : A} → Some x ≡ Some y → x ≡ y
some_same e = cc

-- ---- lists of tokens
-- each token fits its mode, where the first one stands in m
abbrev FitFrom : Mode → List Token → Type 0
FitFrom m [] = Unit {0}
FitFrom m (t ∷ ts) = KindFits m t.kind × FitFrom (mode_after m t.kind) ts

record Passes (m : Mode) (ts : List Token) (n : Mode) : Type 0 where
  fit : FitFrom m ts
  ends : mode_after_all m ts ≡ n

passes_append : (ts us : List Token) (m n o : Mode) → Passes m ts n → Passes n us o → Passes m (ts ++ us) o
passes_append [] us m n o p q = subst (λ x. Passes x us o) (sym p.ends) q
passes_append (t ∷ ts) us m n o p q =
    let rest : Passes (mode_after m t.kind) (ts ++ us) o = passes_append ts us (mode_after m t.kind) n o (record { fit = p.fit.1; ends = p.ends }) q in
    record { fit = (p.fit.0, rest.fit); ends = rest.ends }

passes_one : (m n : Mode) (t : Token) → KindFits m t.kind → mode_after m t.kind ≡ n → Passes m (t ∷ []) n
passes_one m n t fits ends = record { fit = (fits, tt); ends = ends }

passes_none : (m : Mode) → Passes m [] m
passes_none m = record { fit = tt; ends = refl }

abbrev OutcomePasses : Mode → Outcome → Type 0
OutcomePasses b (cut ts) = Passes b ts b
OutcomePasses b (fault e) = Unit {0}

with_passes : (b : Mode) (ts : List Token) (o : Outcome) → Passes b ts b → OutcomePasses b o → OutcomePasses b (with_front ts o)
with_passes b ts (cut us) p q = passes_append ts us b b b p q
with_passes b ts (fault e) p q = tt

module _ (S : Place → List ℕ → Step → Type 0) (b : Mode) (passes : (p : Place) (cs : List ℕ) (ts : List Token) (n : ℕ) → S p cs (moves ts n) → Passes b ts b) where
  run_passes : {p : Place} {cs : List ℕ} {o : Outcome} → Run S p cs o → OutcomePasses b o
  run_passes ended = passes_none b
  run_passes (moved {p} {cs} {ts} {n} {o} s r) = with_passes b ts o (passes p cs ts n s) (run_passes r)
  run_passes (stopped s) = tt

-- ---- one token
-- a word that code and specifications reserve
this_reserved : (m : Mode) → m ≢ Formula → is_some (find_text (reserved m) (codes "this")) ≡ true
this_reserved Code h = refl
this_reserved Specification h = refl
this_reserved Formula h = absurd (h refl)

this_is_ascii : IsAscii (codes "this")
this_is_ascii = IsAscii-cons 116 (104 ∷ 105 ∷ 115 ∷ []) (omega arith) (IsAscii-cons 104 (105 ∷ 115 ∷ []) (omega arith) (IsAscii-cons 105 (115 ∷ []) (omega arith) (IsAscii-cons 115 [] (omega arith) IsAscii-nil)))

not_this : (m : Mode) (cs : List ℕ) → m ≢ Formula → find_text (reserved m) cs ≡ None → encode_utf8_all cs ≡ codes "this" → ⊥
not_this m cs h e same =
    let text : cs ≡ codes "this" = encodes_same cs (codes "this") (same ∙ sym (encodes-IsAscii (codes "this") this_is_ascii)) in
    false≢true (sym (ap is_some (ap (find_text (reserved m)) (sym text) ∙ e)) ∙ this_reserved m h)

-- a byte of a character that continues a word
no_byte : (c d i : ℕ) → continues_word c ≡ true → d < 128 → continues_word d ≡ false → i < length (encode_utf8 c) → eqb (get_or (encode_utf8 c) i 0) d ≡ false
no_byte c d i continues ascii ends h =
    ne_eqb (get_or (encode_utf8 c) i 0) d (λ same.
    let is = inside_one c [] (encode_utf8 c) i (sym (append-nil (encode_utf8 c))) h (omega (arith, same, ascii)) in
    both_ways (continues_word d) ends (subst (λ x. continues_word x ≡ true) (is ∙ same) continues))

byte_inside : (c i : ℕ) → continues_word c ≡ true → i < length (encode_utf8 c) → is_inside_word (get_or (encode_utf8 c) i 0) ≡ true
byte_inside c i continues h =
    let space = no_byte c 32 i continues (omega arith) (is_xid_continue-ascii 32 (omega arith)) h in
    let feed = no_byte c 10 i continues (omega arith) (is_xid_continue-ascii 10 (omega arith)) h in
    let dot = no_byte c 46 i continues (omega arith) (is_xid_continue-ascii 46 (omega arith)) h in
    and_from _ _ (not_from_false _ space) (and_from _ _ (not_from_false _ feed) (not_from_false _ dot))

bytes_inside : (cs : List ℕ) → list_all continues_word cs ≡ true → AllPass is_inside_word (encode_utf8_all cs)
bytes_inside [] e = All-nil (λ b. is_inside_word b ≡ true)
bytes_inside (c ∷ cs) e =
    let parts = and_parts (continues_word c) (list_all continues_word cs) e in
    All-append (λ b. is_inside_word b ≡ true) (encode_utf8 c) (encode_utf8_all cs) (All-from_get_or (λ b. is_inside_word b ≡ true) (encode_utf8 c) 0 (λ i h. byte_inside c i parts.0 h)) (bytes_inside cs parts.1)

starts_continue : (c : ℕ) → starts_word c ≡ true → continues_word c ≡ true
starts_continue c e =
    ⊎_elim (λ letter. is_xid_start-is_xid_continue c letter)
    (λ line. let same = eqb-true c 95 line in subst (λ x. continues_word x ≡ true) (sym same) (is_xid_continue-ascii 95 (omega arith)))
    (or_cases _ (eqb c 95) e)

word_continues : (cs : List ℕ) → is_word cs ≡ true → list_all continues_word cs ≡ true
word_continues [] e = absurd (false≢true e)
word_continues (c ∷ cs) e =
    let parts = and_parts (starts_word c) (list_all continues_word cs) e in
    and_from (continues_word c) (list_all continues_word cs) (starts_continue c parts.0) parts.1

word_text : (cs : List ℕ) → is_word cs ≡ true → IsWordText (encode_utf8_all cs)
word_text cs e = record { some = omega (arith, length-le-encodes cs, word_some cs e); plain = bytes_inside cs (word_continues cs e) }

word_name : (cs : List ℕ) → is_word cs ≡ true → IsWordName (name_of cs)
word_name cs e = record { turn = refl; word = word_text cs e }

qualified_name : (cs : List ℕ) → IsQualified cs → IsQualifiedName (name_of cs)
unfolding encode_utf8
qualified_name cs q = record {
  turn = refl;
  left = encode_utf8_all q.left;
  right = encode_utf8_all q.right;
  left_word = word_text q.left q.left_word;
  right_word = word_text q.right q.right_word;
  parts = ap encode_utf8_all q.parts ∙ encodes-append q.left (46 ∷ q.right);
}

has_dot : (a b : List ℕ) → list_any (λ c. eqb c 46) (a ++ 46 ∷ b) ≡ true
has_dot [] b = refl
has_dot (c ∷ a) b = or_right (eqb c 46) (list_any (λ c. eqb c 46) (a ++ 46 ∷ b)) (has_dot a b)

number_starts : (cs : List ℕ) → is_number cs ≡ true → is_ascii_digit (first cs) ≡ true
number_starts [] e = absurd (false≢true e)
number_starts (c ∷ cs) e = (and_parts (is_ascii_digit c) (list_all is_ascii_digit cs) e).0

-- a token that begins as a word and has no dot is a word
only_word : (m : Mode) (cs : List ℕ) → IsLexeme m cs → starts_word (first cs) ≡ true → list_any (λ c. eqb c 46) cs ≡ false → is_word cs ≡ true
only_word m cs (word e) starts no_dot = e
only_word m cs (qualified has q) starts no_dot = absurd (both_ways (list_any (λ c. eqb c 46) cs) no_dot (subst (λ x. list_any (λ c. eqb c 46) x ≡ true) (sym q.parts) (has_dot q.left q.right)))
only_word m cs (number e) starts no_dot = absurd (both_ways (starts_word (first cs)) (digit_no_word (first cs) (number_starts cs e)) starts)
only_word m [] (sign e) starts no_dot = absurd (nothing m (sign e))
only_word m (c ∷ cs) (sign e) starts no_dot = absurd (both_ways (starts_word c) (sign_starts_plain m (c ∷ cs) (omega arith) e).no_word starts)

-- no dot continues a word
no_dot_inside : (cs : List ℕ) → list_all continues_word cs ≡ true → list_any (λ c. eqb c 46) cs ≡ false
no_dot_inside [] e = refl
no_dot_inside (c ∷ cs) e =
    let parts = and_parts (continues_word c) (list_all continues_word cs) e in
    let here : eqb c 46 ≡ false = ne_eqb c 46 (λ same. both_ways (continues_word 46) dot_stops (subst (λ x. continues_word x ≡ true) same parts.0)) in
    λ i. here i || no_dot_inside cs parts.1 i

-- a token that begins as a word and has a dot is a qualified word
only_qualified : (m : Mode) (cs : List ℕ) → IsLexeme m cs → starts_word (first cs) ≡ true → list_any (λ c. eqb c 46) cs ≡ true → (has_qualified m ≡ true) × IsQualified cs
only_qualified m cs (word e) starts dot = absurd (both_ways (list_any (λ c. eqb c 46) cs) (no_dot_inside cs (word_continues cs e)) dot)
only_qualified m cs (qualified has q) starts dot = (has, q)
only_qualified m cs (number e) starts dot = absurd (both_ways (starts_word (first cs)) (digit_no_word (first cs) (number_starts cs e)) starts)
only_qualified m [] (sign e) starts dot = absurd (nothing m (sign e))
only_qualified m (c ∷ cs) (sign e) starts dot = absurd (both_ways (starts_word c) (sign_starts_plain m (c ∷ cs) (omega arith) e).no_word starts)

-- what a token is fits, and leaves the mode as it is
abbrev Fits : Mode → TokenKind → Type 0
Fits m k = KindFits m k × (mode_after m k ≡ m)

word_fits : (m : Mode) (cs : List ℕ) (o : Option Symbol) → is_word cs ≡ true → find_text (reserved m) cs ≡ o → Fits m (unwrap_or (option_map kind.Symbol o) (kind.Word (name_of cs)))
word_fits m cs (Some x) e is = (tt, refl)
word_fits m cs None e is = ((word_name cs e, λ outside same. not_this m cs outside is same), refl)

no_code : (m : Mode) → has_qualified m ≡ true → m ≢ Code
no_code m has is = false≢true (subst (λ x. has_qualified x ≡ true) is has)

qualified_fits : (m : Mode) (cs : List ℕ) → (has_qualified m ≡ true) × IsQualified cs → Fits m (kind.Qualified (name_of cs))
qualified_fits m cs q = ((qualified_name cs q.1, no_code m q.0), refl)

sign_fits : (b : Mode) (o : Option Symbol) → IfSome (option_map kind.Symbol o) (Fits b)
sign_fits b None = tt
sign_fits b (Some x) = (tt, refl)

number_fits : (b : Mode) (cs : List ℕ) → IfSome (number_kind cs) (Fits b)
number_fits b cs = cond_both (ltb (value cs) (2 ^ 63)) (Some (value cs)) None (λ o. IfSome (option_map (λ n. kind.Number (pos n)) o) (Fits b)) (λ _. ((value cs, refl), refl)) (λ _. tt)

kind_fits : (m : Mode) (cs : List ℕ) → IsLexeme m cs → IfSome (kind_of m cs) (Fits m)
kind_fits m cs lexeme =
    cond_both (starts_word (first cs)) _ _ (λ o. IfSome o (Fits m))
    (λ starts. cond_both (list_any (λ c. eqb c 46) cs) (kind.Qualified (name_of cs)) (word_kind m cs) (Fits m)
    (λ dot. qualified_fits m cs (only_qualified m cs lexeme starts dot))
    (λ no_dot. word_fits m cs (find_text (reserved m) cs) (only_word m cs lexeme starts no_dot) refl))
    (λ _. cond_both (is_ascii_digit (first cs)) (number_kind cs) (option_map kind.Symbol (find_text (signs m) cs)) (λ o. IfSome o (Fits m)) (λ _. number_fits m cs) (λ _. sign_fits m (find_text (signs m) cs)))

-- ---- steps
read_fits : (b : Mode) (p : Place) (k n : ℕ) (ts : List Token) (o : Option TokenKind) → IfSome o (Fits b) → moves ts n ≡ lexeme_step p k o → Passes b ts b
read_fits b p k n ts None fits e = absurd (moves_stops e)
read_fits b p k n ts (Some x) fits e = subst (λ us. Passes b us b) (sym (moves_tokens e)) (passes_one b b (token x p) fits.0 fits.1)

lexeme_passes : (m : Mode) (p : Place) (cs : List ℕ) (ts : List Token) (n : ℕ) → LexemeStep m p cs (moves ts n) → Passes m ts m
lexeme_passes m p cs ts n (longest k x e) = read_fits m p k n ts (kind_of m (take k cs)) (kind_fits m (take k cs) x.lexeme) e
lexeme_passes m p cs ts n (none f e) = absurd (moves_stops e)

space_passes : (b : Mode) (ts : List Token) (n k : ℕ) → moves ts n ≡ moves [] k → Passes b ts b
space_passes b ts n k e = subst (λ us. Passes b us b) (sym (moves_tokens e)) (passes_none b)

enclosed_passes : (b c : Mode) (opening closing : TokenKind) (p q : Place) (n k : ℕ) (ts : List Token) (o : Outcome) → KindFits b opening → mode_after b opening ≡ c → KindFits c closing → mode_after c closing ≡ b → OutcomePasses c o → moves ts n ≡ enclosed opening closing p q k o → Passes b ts b
enclosed_passes b c opening closing p q n k ts (cut us) open_fits opens close_fits closes inside e =
    let tail = passes_append us (token closing q ∷ []) c c b inside (passes_one c b (token closing q) close_fits closes) in
    let all = passes_append (token opening p ∷ []) (us ++ token closing q ∷ []) b c b (passes_one b c (token opening p) open_fits opens) tail in
    subst (λ xs. Passes b xs b) (sym (moves_tokens e)) all
enclosed_passes b c opening closing p q n k ts (fault f) open_fits opens close_fits closes inside e = absurd (moves_stops e)

pub either : {P Q R : Type 0} (b : Bool) → (P → R) → (Q → R) → MatchBool b P Q → R
either true f g x = f x
either false f g x = g x

pub either_option : {A P R : Type 0} {Q : A → Type 0} (o : Option A) → (P → R) → ((n : A) → Q n → R) → MatchOption o P Q → R
either_option None f g x = f x
either_option (Some n) f g x = g n x

formula_passes : (p : Place) (cs : List ℕ) (ts : List Token) (n : ℕ) → FormulaStep p cs (moves ts n) → Passes Formula ts Formula
formula_passes p cs ts n x = either (is_space (first cs)) (space_passes Formula ts n 1) (lexeme_passes Formula p cs ts n) x.1

quote_inside : (p r q : Place) (ds : List ℕ) (ts : List Token) (n k : ℕ) → (o : Outcome) × Run FormulaStep r ds o × (moves ts n ≡ enclosed kind.QuoteOpen kind.QuoteClose p q k o) → Passes Specification ts Specification
quote_inside p r q ds ts n k (o, run, e) = enclosed_passes Specification Formula kind.QuoteOpen kind.QuoteClose p q n k ts o refl refl refl refl (run_passes FormulaStep Formula formula_passes run) e

quote_passes : (p : Place) (cs : List ℕ) (ts : List Token) (n : ℕ) → QuoteStep p cs (moves ts n) → Passes Specification ts Specification
quote_passes p cs ts n x = either_option (quote_at (drop 1 cs)) (λ e. absurd (moves_stops e)) (λ k. quote_inside p (after p (take 1 cs)) (after p (take (k + 1) cs)) (take k (drop 1 cs)) ts n (k + 2)) x

specification_passes : (p : Place) (cs : List ℕ) (ts : List Token) (n : ℕ) → SpecificationStep p cs (moves ts n) → Passes Specification ts Specification
specification_passes p cs ts n x =
    either (is_space (first cs)) (space_passes Specification ts n 1)
    (either (eqb (first cs) 34) (quote_passes p cs ts n) (lexeme_passes Specification p cs ts n))
    x.1

comment_inside : (p r q : Place) (ds : List ℕ) (ts : List Token) (n k : ℕ) → (o : Outcome) × Run SpecificationStep r ds o × (moves ts n ≡ enclosed kind.SpecOpen kind.SpecClose p q k o) → Passes Code ts Code
comment_inside p r q ds ts n k (o, run, e) = enclosed_passes Code Specification kind.SpecOpen kind.SpecClose p q n k ts o refl refl refl refl (run_passes SpecificationStep Specification specification_passes run) e

comment_passes : (m width : ℕ) (p : Place) (cs : List ℕ) (ts : List Token) (n : ℕ) → CommentStep m width p cs (moves ts n) → Passes Code ts Code
comment_passes m width p cs ts n x = either (eqb (get_or cs 2 0) 58) (comment_inside p (after p (take 3 cs)) (after p (take m cs)) (slice_range cs 3 m) ts n (m + width)) (space_passes Code ts n (m + width)) x

slash_passes : (p : Place) (cs : List ℕ) (ts : List Token) (n : ℕ) → SlashStep p cs (moves ts n) → Passes Code ts Code
slash_passes p cs ts n x =
    either (eqb (get_or cs 1 0) 42)
    (either_option (close_at (drop 2 cs)) (λ e. absurd (moves_stops e)) (λ k. comment_passes (k + 2) 2 p cs ts n))
    (either (eqb (get_or cs 1 0) 47) (comment_passes (line_length cs) 0 p cs ts n) (λ e. absurd (moves_stops e)))
    x

code_passes : (p : Place) (cs : List ℕ) (ts : List Token) (n : ℕ) → CodeStep p cs (moves ts n) → Passes Code ts Code
code_passes p cs ts n x =
    either (is_space (first cs)) (space_passes Code ts n 1)
    (either (eqb (first cs) 47) (slash_passes p cs ts n) (lexeme_passes Code p cs ts n))
    x.1

-- ---- sources
source_passes : (bytes : List ℕ) (all : List Token) → Lexes bytes all → Passes Code all Code
source_passes bytes all x =
    let inside = run_passes CodeStep Code code_passes x.run in
    let end = token kind.End (after start x.characters) in
    subst (λ ts. Passes Code ts Code) (sym x.all) (passes_append x.before_end (end ∷ []) Code Code Code inside (passes_one Code Code end refl refl))

-- a token of a list fits the mode that the tokens before it leave
fits_at : (m : Mode) (ts : List Token) (i : ℕ) (t : Token) → FitFrom m ts → slice_get ts i ≡ Some t → KindFits (mode_after_all m (take i ts)) t.kind
fits_at m [] i t fit there = absurd (none_some there)
fits_at m (u ∷ us) zero t fit there = subst (λ (x : Token). KindFits m x.kind) (some_same there) fit.0
fits_at m (u ∷ us) (suc i) t fit there = fits_at (mode_after m u.kind) us i t fit.1 there

pub source_has_shape : (bytes : List ℕ) (all : List Token) → Lexes bytes all → HasShape all
source_has_shape bytes all x i t there = fits_at Code all i t (source_passes bytes all x).fit there

pub source_closes : (bytes : List ℕ) (all : List Token) → Lexes bytes all → mode_after_all Code all ≡ Code
source_closes bytes all x = (source_passes bytes all x).ends

pub source_ends : (bytes : List ℕ) (all : List Token) → Lexes bytes all → EndsWithEnd all
source_ends bytes all x = record { before = x.before_end; place = after start x.characters; all = x.all }
