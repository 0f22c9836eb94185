-- One turn of the readers that go over lists.
use Rattle.std.proofs.Common.{◌≡◌, ◌++◌, append_assoc, true, ℕ, zero, suc, ◌+◌, ◌-◌, ◌<◌, List, [], ◌∷◌, refl, ap, sym, ◌∙◌, arith}
use Rattle.std.specs.Prelude.{Option, None, Some}
use Rattle.jh_lex.specs.declared.lexer.symbol.Symbol.TheVariants as symbol
use Rattle.jh_lex.specs.declared.lexer.token.Token.{Token}
use Rattle.jh_ast.specs.declared.word.Word.{Word}
use Rattle.jh_ast.specs.Forms.{FormTree, FormTrees, place_of, moved}
use Rattle.jh_ast.specs.Forms as form
use Rattle.jh_operators.specs.lookahead.Choices.{and_then, choose}
use Rattle.jh_operators.specs.lookahead.Standing.{is_at, is_plain_word_at, name_at, word_at}
use Rattle.jh_spec.specs.parser.Reading.{names_at, words_at, dots_at}

pub names-turn : (ts : List Token) (k i : ℕ) → 0 < k → names_at ts k i ≡ and_then (name_at ts i) (λ w. choose (is_at ts (i + 1) symbol.Comma) (and_then (names_at ts (k - 1) (i + 2)) (λ r. Some (w ∷ r.0, r.1))) (Some (w ∷ [], i + 1)))
unfolding names_at
names-turn ts zero i h = absurd (omega arith)
names-turn ts (suc k) i h = ap (λ m. and_then (name_at ts i) (λ w. choose (is_at ts (i + 1) symbol.Comma) (and_then (names_at ts m (i + 2)) (λ r. Some (w ∷ r.0, r.1))) (Some (w ∷ [], i + 1)))) (sym (before k)) where
  before : (k : ℕ) → suc k - 1 ≡ k
  before k = omega arith

pub words-turn : (ts : List Token) (k i : ℕ) → 0 < k → words_at ts k i ≡ choose (is_plain_word_at ts i) (and_then (word_at ts i) (λ w. and_then (words_at ts (k - 1) (i + 1)) (λ r. Some (w ∷ r.0, r.1)))) (Some ([], i))
unfolding words_at
words-turn ts zero i h = absurd (omega arith)
words-turn ts (suc k) i h = ap (λ m. choose (is_plain_word_at ts i) (and_then (word_at ts i) (λ w. and_then (words_at ts m (i + 1)) (λ r. Some (w ∷ r.0, r.1)))) (Some ([], i))) (sym (before k)) where
  before : (k : ℕ) → suc k - 1 ≡ k
  before k = omega arith

pub dots-turn : (ts : List Token) (k : ℕ) (a : FormTree) (i : ℕ) → 0 < k → dots_at ts k a i ≡ choose (is_at ts i symbol.DotDot) (and_then (name_at ts (i + 1)) (λ w. dots_at ts (k - 1) (form.member (place_of a) a w) (i + 2))) (Some (a, i))
unfolding dots_at
dots-turn ts zero a i h = absurd (omega arith)
dots-turn ts (suc k) a i h = ap (λ m. choose (is_at ts i symbol.DotDot) (and_then (name_at ts (i + 1)) (λ w. dots_at ts m (form.member (place_of a) a w) (i + 2))) (Some (a, i))) (sym (before k)) where
  before : (k : ℕ) → suc k - 1 ≡ k
  before k = omega arith

pub ruleset turn_steps = (names-turn, words-turn, dots-turn)

front : (r : Option (List Word × ℕ)) (made : List Word) (w : Word) → and_then {B = List Word × ℕ} (and_then {A = List Word × ℕ} {B = List Word × ℕ} r (λ r. Some (w ∷ r.0, r.1))) (λ r. Some (made ++ r.0, r.1)) ≡ and_then {A = List Word × ℕ} {B = List Word × ℕ} r (λ r. Some ((made ++ w ∷ []) ++ r.0, r.1))
unfolding and_then
front None made w = refl
front (Some r) made w = ap (λ l. Some (l, r.1)) (sym (append_assoc made (w ∷ []) r.0))

pub names-next : (ts : List Token) (k i : ℕ) (w : Word) (made more : List Word) → 0 < k → name_at ts i ≡ Some w → is_at ts (i + 1) symbol.Comma ≡ true → more ≡ made ++ w ∷ []
    → and_then {B = List Word × ℕ} (names_at ts k i) (λ r. Some (made ++ r.0, r.1)) ≡ and_then {B = List Word × ℕ} (names_at ts (k - 1) (i + 2)) (λ r. Some (more ++ r.0, r.1))
unfolding and_then choose
names-next ts k i w made more h e c m = ap (λ (o : Option (List Word × ℕ)). and_then {B = List Word × ℕ} o (λ r. Some (made ++ r.0, r.1))) (names-turn ts k i h ∙ ap (λ (o : Option Word). and_then {B = List Word × ℕ} o (λ w. choose (is_at ts (i + 1) symbol.Comma) (and_then {B = List Word × ℕ} (names_at ts (k - 1) (i + 2)) (λ r. Some (w ∷ r.0, r.1))) (Some (w ∷ [], i + 1)))) e
    ∙ ap (λ b. choose b (and_then {B = List Word × ℕ} (names_at ts (k - 1) (i + 2)) (λ r. Some (w ∷ r.0, r.1))) (Some (w ∷ [], i + 1))) c)
    ∙ front (names_at ts (k - 1) (i + 2)) made w ∙ ap (λ l. and_then {B = List Word × ℕ} (names_at ts (k - 1) (i + 2)) (λ r. Some (l ++ r.0, r.1))) (sym m)

pub words-next : (ts : List Token) (k i : ℕ) (w : Word) (made more : List Word) → 0 < k → is_plain_word_at ts i ≡ true → word_at ts i ≡ Some w → more ≡ made ++ w ∷ []
    → and_then {B = List Word × ℕ} (words_at ts k i) (λ r. Some (made ++ r.0, r.1)) ≡ and_then {B = List Word × ℕ} (words_at ts (k - 1) (i + 1)) (λ r. Some (more ++ r.0, r.1))
unfolding and_then choose
words-next ts k i w made more h b e m = ap (λ (o : Option (List Word × ℕ)). and_then {B = List Word × ℕ} o (λ r. Some (made ++ r.0, r.1))) (words-turn ts k i h ∙ ap (λ b. choose b (and_then {B = List Word × ℕ} (word_at ts i) (λ w. and_then {B = List Word × ℕ} (words_at ts (k - 1) (i + 1)) (λ r. Some (w ∷ r.0, r.1)))) (Some ([], i))) b
    ∙ ap (λ (o : Option Word). and_then {B = List Word × ℕ} o (λ w. and_then {B = List Word × ℕ} (words_at ts (k - 1) (i + 1)) (λ r. Some (w ∷ r.0, r.1)))) e)
    ∙ front (words_at ts (k - 1) (i + 1)) made w ∙ ap (λ l. and_then {B = List Word × ℕ} (words_at ts (k - 1) (i + 1)) (λ r. Some (l ++ r.0, r.1))) (sym m)
