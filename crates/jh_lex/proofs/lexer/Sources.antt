-- The answers for a whole source.
use Rattle.std.proofs.Common.{◌≡◌, ℕ, List, [], ◌∷◌, ◌++◌, length, take, Result, Ok, Err, refl, ap, ◌∙◌, subst, arith, length-append}
use Rattle.std.specs.Char.{len_utf8}
use Rattle.std.specs.Result.{MatchResult, IfOk, IfErr}
use Rattle.std.specs.Str.{IsUtf8, chars, encode_utf8_all, all_scalars}
use Rattle.std.proofs.lemmas.List.{take_all}
use Rattle.std.proofs.lemmas.List.Sums.{sum_by-cons}
use Rattle.std.proofs.lemmas.Str.{length-encode, encodes-chars, scalars-chars}
use Rattle.std.specs.Char.{encode_utf8}
use Rattle.jh_name.specs.declared.place.Place.{Place}
use Rattle.jh_lex.specs.lexer.Lexes.{Lexes, IsFirstFault, in_text}
use Rattle.jh_lex.specs.lexer.Places.{start, after, byte_count}
use Rattle.jh_lex.specs.lexer.Reports.{UnlessMemory, ReadsText}
use Rattle.jh_lex.specs.lexer.Texts.{Run, CodeStep, cut, fault, token}
use Rattle.jh_lex.specs.declared.lexer.error.LexError.{LexError}
use Rattle.jh_lex.specs.declared.lexer.error.LexError.TheVariants.{NotUtf8, BadChar, OpenComment, OpenQuote, TooWide, Memory}
use Rattle.jh_lex.specs.declared.lexer.token.Token.{Token}
use Rattle.jh_lex.specs.declared.lexer.token.TokenKind.TheVariants.{End}
use Rattle.jh_lex.proofs.lexer.Reading.{unless_weaker}
use Rattle.jh_lex.proofs.lexer.Unique.{one_list, one_fault, fault_or_list}

bytes_counted : (cs : List ℕ) → byte_count cs ≡ length (encode_utf8_all cs)
bytes_counted [] = refl
bytes_counted (c ∷ cs) = omega (arith, sum_by-cons len_utf8 c cs, bytes_counted cs, length-append (encode_utf8 c) (encode_utf8_all cs), length-encode c)

-- the characters of a text take its bytes
pub bytes_of_text : (bs cs : List ℕ) → IsUtf8 bs → cs ≡ chars bs → byte_count cs ≡ length bs
bytes_of_text bs cs utf8 e = bytes_counted cs ∙ ap length (ap encode_utf8_all e ∙ encodes-chars bs utf8)

-- what is read of a text from its start
pub text_lexes : (bs cs ds : List ℕ) (p q : Place) (old middle new : List Token) (n : ℕ) → IsUtf8 bs → cs ≡ chars bs → ds ≡ cs → p ≡ start → old ≡ [] → ReadsText CodeStep p ds old middle (Ok (tt {0})) → q ≡ after p (take n ds) → n ≡ length cs → new ≡ middle ++ token End q ∷ [] → Lexes bs new
text_lexes bs cs ds p q old middle new n utf8 is text place empty (ts, made, run) behind whole pushed =
    let tokens : middle ≡ ts = made ∙ ap (λ xs. xs ++ ts) empty in
    let all_taken : take n ds ≡ cs = ap (λ xs. take n xs) text ∙ take_all n cs (omega arith) in
    let end : q ≡ after start cs = behind ∙ (λ i. after (place i) (all_taken i)) in
    record {
      characters = cs;
      before_end = ts;
      are_scalars = ap all_scalars is ∙ scalars-chars bs utf8;
      encoded = ap encode_utf8_all is ∙ encodes-chars bs utf8;
      run = subst (λ x. Run CodeStep x cs (cut ts)) place (subst (λ xs. Run CodeStep p xs (cut ts)) text run);
      all = pushed ∙ (λ i. tokens i ++ token End (end i) ∷ []);
    }

pub text_faults : (bs cs ds : List ℕ) (p : Place) (old middle : List Token) (e : LexError) → IsUtf8 bs → cs ≡ chars bs → ds ≡ cs → p ≡ start → ReadsText {A = Unit {0}} CodeStep p ds old middle (Err e) → UnlessMemory e (IsFirstFault bs e)
text_faults bs cs ds p old middle e utf8 is text place x =
    let found : Run CodeStep p ds (fault e) → IsFirstFault bs e = λ run. in_text cs (ap all_scalars is ∙ scalars-chars bs utf8) (ap encode_utf8_all is ∙ encodes-chars bs utf8) (subst (λ x. Run CodeStep x cs (fault e)) place (subst (λ xs. Run CodeStep p xs (fault e)) text run)) in
    unless_weaker e found x

memory_only : {P : Type 0} (e : LexError) → UnlessMemory e P → (P → ⊥) → e ≡ Memory
memory_only Memory x f = refl
memory_only (NotUtf8 p) x f = absurd (f x)
memory_only (BadChar p) x f = absurd (f x)
memory_only (OpenComment p) x f = absurd (f x)
memory_only (OpenQuote p) x f = absurd (f x)
memory_only (TooWide p) x f = absurd (f x)

pub source_accepted : {A : Type 0} (items : A → List Token) (bs : List ℕ) (r : Result A LexError) → IfOk r (λ made. Lexes bs (items made)) → IfErr r (λ e. UnlessMemory e (IsFirstFault bs e)) → (all : List Token) → Lexes bs all → MatchResult r (λ made. items made ≡ all) (λ e. e ≡ Memory)
source_accepted items bs (Ok made) x y all lexes = one_list bs (items made) all x lexes
source_accepted items bs (Err e) x y all lexes = memory_only e y (λ f. fault_or_list bs e all f lexes)

pub source_refused : {A : Type 0} (items : A → List Token) (bs : List ℕ) (r : Result A LexError) → IfOk r (λ made. Lexes bs (items made)) → IfErr r (λ e. UnlessMemory e (IsFirstFault bs e)) → (first : LexError) → IsFirstFault bs first → MatchResult r (λ _. ⊥) (λ e. UnlessMemory e (e ≡ first))
source_refused items bs (Ok made) x y first f = fault_or_list bs first (items made) f x
source_refused items bs (Err e) x y first f = unless_weaker e (λ found. one_fault bs e first found f) y
