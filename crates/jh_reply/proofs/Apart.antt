-- At most one refusal applies to given bytes.
use Rattle.std.proofs.Common.{◌≡◌, ◌≢◌, ◌≤◌, ◌<◌, ℕ, suc, List, [], ◌∷◌, ◌++◌, ap, sym, subst, ◌∙◌, refl, arith, inl, inr}
use Rattle.std.proofs.lemmas.Bool.{cases_order}
use Rattle.std.specs.Prelude.{Some, None, slice_get}
use Rattle.std.specs.List.{Contains}
use Rattle.std.specs.Option.{option_map_or}
use Rattle.jh_ast.specs.Programs.{ProgramTree}
use Rattle.jh_lex.specs.declared.lexer.error.LexError.{LexError}
use Rattle.jh_lex.specs.declared.lexer.error.LexError.TheVariants as lex
use Rattle.jh_lex.specs.declared.lexer.token.Token.{Token}
use Rattle.jh_lex.specs.lexer.Lexes.{Lexes, IsFirstFault}
use Rattle.jh_lex.proofs.lexer.Unique.{one_list, one_fault, fault_or_list}
use Rattle.jh_name.specs.declared.place.Place.{Place}
use Rattle.jh_spec.specs.nesting.Nesting.{AllShallow, IsFirstDeep}
use Rattle.jh_rules.specs.Breaks.{Breaks}
use Rattle.jh_vars.specs.States.{Variable, class_text}
use Rattle.jh_gen_laws.specs.jh_obligations.program_sequents.Laws.{OneIsFirst}
use Rattle.jh_gen_laws.specs.jh_obligations.program_sequents.Sources.{OwesMuch}
use Rattle.jh_vars.specs.Reading.{IsCyclic, IsFirst, IsFirstCyclic, variables}
use Rattle.jh_reply.specs.Refusals.{RefusedAt, not_utf8, bad_char, open_comment, open_quote, too_wide, syntax, too_deep, IsMistyped, IsCircular, IsCrowded, method_text}
use Rattle.jh_reply.proofs.Verifying.{parses-one, spells-one, refused-parses}

-- the number and the place of a fault of the text
abbrev fault_number : LexError → ℕ
fault_number (lex.NotUtf8 p) = 1
fault_number (lex.BadChar p) = 2
fault_number (lex.OpenComment p) = 3
fault_number (lex.OpenQuote p) = 4
fault_number (lex.TooWide p) = 5
fault_number lex.Memory = 0

abbrev fault_place : LexError → Place
fault_place (lex.NotUtf8 p) = p
fault_place (lex.BadChar p) = p
fault_place (lex.OpenComment p) = p
fault_place (lex.OpenQuote p) = p
fault_place (lex.TooWide p) = p
fault_place lex.Memory = record { line = 0; column = 0 }

-- a refusal is for a fault of the text, for tokens that spell nothing, or for one that is nested too deep
data Why (bytes : List ℕ) : ℕ → Place → Type 0 where
  by_fault : (e : LexError) → IsFirstFault bytes e → Why bytes (fault_number e) (fault_place e)
  by_syntax : {p : Place} (ts : List Token) → Lexes bytes ts → AllShallow ts → Why bytes 6 p
  by_depth : {p : Place} (ts : List Token) → Lexes bytes ts → IsFirstDeep ts p → Why bytes 7 p

why : {bytes : List ℕ} {n : ℕ} {p : Place} → RefusedAt bytes n p → Why bytes n p
why (not_utf8 {p = p} f) = by_fault (lex.NotUtf8 p) f
why (bad_char {p = p} f) = by_fault (lex.BadChar p) f
why (open_comment {p = p} f) = by_fault (lex.OpenComment p) f
why (open_quote {p = p} f) = by_fault (lex.OpenQuote p) f
why (too_wide {p = p} f) = by_fault (lex.TooWide p) f
why (syntax {ts = ts} cut shallow none start) = by_syntax ts cut shallow
why (too_deep {ts = ts} cut deep) = by_depth ts cut deep

shallow-deep : (bytes : List ℕ) (ts us : List Token) (p : Place) → Lexes bytes ts → AllShallow ts → Lexes bytes us → IsFirstDeep us p → ⊥
shallow-deep bytes ts us p first shallow second deep = apart (subst (λ l. AllShallow l) (one_list bytes ts us first second) shallow deep.index deep.within) deep.deep where
  apart : {n : ℕ} → n ≤ 64 → 64 < n → ⊥
  apart low high = omega (arith, low, high)

number-of : (bytes : List ℕ) {m n : ℕ} {p q : Place} → Why bytes m p → Why bytes n q → m ≡ n
number-of bytes (by_fault e f) (by_fault d g) = ap fault_number (one_fault bytes e d f g)
number-of bytes (by_fault e f) (by_syntax ts cut shallow) = absurd (fault_or_list bytes e ts f cut)
number-of bytes (by_fault e f) (by_depth ts cut deep) = absurd (fault_or_list bytes e ts f cut)
number-of bytes (by_syntax ts cut shallow) (by_fault e f) = absurd (fault_or_list bytes e ts f cut)
number-of bytes (by_syntax ts cut shallow) (by_syntax us other plain) = refl
number-of bytes (by_syntax ts cut shallow) (by_depth {p = q} us other deep) = absurd (shallow-deep bytes ts us q cut shallow other deep)
number-of bytes (by_depth ts cut deep) (by_fault e f) = absurd (fault_or_list bytes e ts f cut)
number-of bytes (by_depth {p = p} ts cut deep) (by_syntax us other shallow) = absurd (shallow-deep bytes us ts p other shallow cut deep)
number-of bytes (by_depth ts cut deep) (by_depth us other more) = refl

pub one-number : (bytes : List ℕ) (m n : ℕ) (p q : Place) → RefusedAt bytes m p → RefusedAt bytes n q → m ≡ n
one-number bytes m n p q first second = number-of bytes (why first) (why second)

-- the first token that is nested too deep is one
one-deep : (ts : List Token) (p q : Place) → IsFirstDeep ts p → IsFirstDeep ts q → p ≡ q
one-deep ts p q first second = some-one (sym first.place ∙ ap (λ i. option_map_or (λ (t : Token). Some t.place) (slice_get ts i) None) same ∙ second.place) where
  some-one : {a b : Place} → Some a ≡ Some b → a ≡ b
  some-one e = cc

  same : first.index ≡ second.index
  same = elim (cases_order first.index second.index) [
    | inl is ↦ is
    | inr order ↦ elim order [
      | inl less ↦ absurd (omega (arith, second.first first.index less, first.deep))
      | inr less ↦ absurd (omega (arith, first.first second.index less, second.deep))
    ]
  ]

place-of : (bytes : List ℕ) {m n : ℕ} {p q : Place} → n ≢ 6 → Why bytes m p → Why bytes n q → p ≡ q
place-of bytes not (by_fault e f) (by_fault d g) = ap fault_place (one_fault bytes e d f g)
place-of bytes not (by_fault e f) (by_syntax ts cut shallow) = absurd (fault_or_list bytes e ts f cut)
place-of bytes not (by_fault e f) (by_depth ts cut deep) = absurd (fault_or_list bytes e ts f cut)
place-of bytes not (by_syntax ts cut shallow) (by_fault e f) = absurd (fault_or_list bytes e ts f cut)
place-of bytes not (by_syntax ts cut shallow) (by_syntax us other plain) = absurd (not refl)
place-of bytes not (by_syntax ts cut shallow) (by_depth {p = q} us other deep) = absurd (shallow-deep bytes ts us q cut shallow other deep)
place-of bytes not (by_depth ts cut deep) (by_fault e f) = absurd (fault_or_list bytes e ts f cut)
place-of bytes not (by_depth ts cut deep) (by_syntax us other shallow) = absurd (not refl)
place-of bytes not (by_depth {p = p} ts cut deep) (by_depth {p = q} us other more) = one-deep us p q (subst (λ l. IsFirstDeep l p) (one_list bytes ts us cut other) deep) more

pub one-place : (bytes : List ℕ) (n : ℕ) (p q : Place) → n ≢ 6 → RefusedAt bytes n p → RefusedAt bytes n q → p ≡ q
one-place bytes n p q not first second = place-of bytes not (why first) (why second)

pub refused-typed : (bytes : List ℕ) (n rule : ℕ) (p q : Place) → RefusedAt bytes n p → IsMistyped bytes rule q → ⊥
refused-typed bytes n rule p q refused ill = refused-parses bytes n p ill.tree refused ill.parsed

pub refused-crowded : (bytes class name : List ℕ) (n count : ℕ) (p : Place) → RefusedAt bytes n p → IsCrowded bytes class name count → ⊥
refused-crowded bytes class name n count p refused crowd = refused-parses bytes n p crowd.tree refused crowd.spelled.parsed

pub ill-crowded : (bytes class name : List ℕ) (rule count : ℕ) (p : Place) → IsMistyped bytes rule p → IsCrowded bytes class name count → ⊥
ill-crowded bytes class name rule count p ill crowd = crowd.spelled.typed rule p (subst (λ t. Breaks t rule p) (parses-one bytes ill.tree crowd.tree ill.parsed crowd.spelled.parsed) ill.least.breaks)

pub refused-circular : (bytes : List ℕ) (n : ℕ) (p : Place) (name : List ℕ) → RefusedAt bytes n p → IsCircular bytes name → ⊥
refused-circular bytes n p name refused loop = refused-parses bytes n p loop.tree refused loop.parsed

pub ill-circular : (bytes : List ℕ) (rule : ℕ) (p : Place) (name : List ℕ) → IsMistyped bytes rule p → IsCircular bytes name → ⊥
ill-circular bytes rule p name ill loop = loop.typed rule p (subst (λ t. Breaks t rule p) (parses-one bytes ill.tree loop.tree ill.parsed loop.parsed) ill.least.breaks)

pub circular-crowded : (bytes x class name : List ℕ) (count : ℕ) → IsCircular bytes x → IsCrowded bytes class name count → ⊥
circular-crowded bytes x class name count loop crowd =
    crowd.spelled.acyclic (record { class = loop.class; name = x }) (subst (λ t. IsFirstCyclic t (record { class = loop.class; name = x })) (parses-one bytes loop.tree crowd.tree loop.parsed crowd.spelled.parsed) loop.first).here

-- the first method with too many sequents is one
pub one-method : OneIsFirst → (bytes c x d y : List ℕ) (m n : ℕ) → IsCrowded bytes c x m → IsCrowded bytes d y n → (c ≡ d) × (x ≡ y) × (m ≡ n)
one-method law bytes c x d y m n h k =
    let same : h.tree ≡ k.tree = spells-one bytes h.tree k.tree h.spelled k.spelled in
    let one = law k.tree h.id k.id m n (subst (λ (t : ProgramTree). OwesMuch t h.id m) same h.much) k.much in
    (h.class_is ∙ (λ i. class_text (same i) (one.0 i).class) ∙ sym k.class_is, h.name_is ∙ (λ i. method_text (same i) (one.0 i)) ∙ sym k.name_is, one.1)

-- a list has one first item of which something is so
module _ {X : Type 0} (H : X → Type 0) where
  heads : {a b : X} {us vs : List X} → a ∷ us ≡ b ∷ vs → a ≡ b
  heads e = cc

  tails : {a b : X} {us vs : List X} → a ∷ us ≡ b ∷ vs → us ≡ vs
  tails e = cc

  head-of : (z : X) (a : List X) → Contains (z ∷ a) z
  head-of z a = (0, omega arith, refl)

  tail-of : (z y : X) (a : List X) → Contains a y → Contains (z ∷ a) y
  tail-of z y a h = (suc h.0, omega (arith, h.1), h.2)

  one-first : (a b : List X) (x y : X) (us vs : List X) → a ++ x ∷ us ≡ b ++ y ∷ vs → H x → H y → ((z : X) → Contains a z → H z → ⊥) → ((z : X) → Contains b z → H z → ⊥) → x ≡ y
  one-first [] [] x y us vs e here there n m = heads e
  one-first [] (w ∷ b) x y us vs e here there n m = absurd (m w (head-of w b) (subst H (heads e) here))
  one-first (z ∷ a) [] x y us vs e here there n m = absurd (n z (head-of z a) (subst H (sym (heads e)) there))
  one-first (z ∷ a) (w ∷ b) x y us vs e here there n m = one-first a b x y us vs (tails e) here there (λ v h. n v (tail-of z v a h)) (λ v h. m v (tail-of w v b h))

  pub same-first : (xs : List X) (x y : X) → IsFirst H xs x → IsFirst H xs y → x ≡ y
  same-first xs x y f g = one-first f.before g.before x y f.behind g.behind (sym f.stands ∙ g.stands) f.here g.here f.none_before g.none_before

pub one-name : (bytes x y : List ℕ) → IsCircular bytes x → IsCircular bytes y → x ≡ y
one-name bytes x y f g =
    ap (λ (v : Variable). v.name)
    (same-first (IsCyclic g.tree) (variables g.tree) (record { class = f.class; name = x }) (record { class = g.class; name = y }) (subst (λ t. IsFirstCyclic t (record { class = f.class; name = x })) (parses-one bytes f.tree g.tree f.parsed g.parsed) f.first) g.first)
