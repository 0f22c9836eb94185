-- With which tokens the parts of programs begin.
use Rattle.std.proofs.Common.{◌≡◌, ℕ, Bool, true, false, List, [], ◌∷◌, refl, ap, sym, ◌∙◌}
use Rattle.std.proofs.lemmas.Bool.{false≢true, eqb-true}
use Rattle.std.specs.Prelude.{◌==◌}
use Rattle.std.specs.List.{list_any}
use Rattle.jh_lex.specs.declared.lexer.token.Token.{Token}
use Rattle.jh_ast.specs.declared.word.JType.{JType}
use Rattle.jh_operators.specs.lookahead.Standing.{kind_at}
use Rattle.jh_operators.proofs.lookahead.Facts.{word-kind}
use Rattle.jh_parse.specs.statements.Statements.{Typed}
use Rattle.jh_parse.specs.statements.Statements as grammar

-- the numbers of the kinds of tokens with which a type begins
abbrev pub of_type : ℕ → Bool
of_type m = list_any (λ x. x == m) (40 ∷ 41 ∷ 75 ∷ [])

-- what is true of the number of the kind of token that stands there, and which numbers it isn't
pub of_kind : (ts : List Token) (i m : ℕ) (test : ℕ → Bool) → (kind_at ts i == m) ≡ true → test m ≡ true → test (kind_at ts i) ≡ true
of_kind ts i m test e h = ap test (eqb-true (kind_at ts i) m e) ∙ h

pub not_kind : (ts : List Token) (i n : ℕ) (test : ℕ → Bool) → test (kind_at ts i) ≡ true → test n ≡ false → (kind_at ts i == n) ≡ false
not_kind ts i n test h d = by_test (kind_at ts i == n) refl where
  by_test : (b : Bool) → (kind_at ts i == n) ≡ b → b ≡ false
  by_test false e = refl
  by_test true e = absurd (false≢true (sym d ∙ sym (ap test (eqb-true (kind_at ts i) n e)) ∙ h))

pub type-start : (ts : List Token) {i j : ℕ} {t : JType} → Typed ts i t j → of_type (kind_at ts i) ≡ true
type-start ts {i = i} (grammar.an_int e) = of_kind ts i 40 of_type e refl
type-start ts {i = i} (grammar.a_boolean e) = of_kind ts i 41 of_type e refl
type-start ts {i = i} (grammar.of_class {w = w} e) = of_kind ts i 75 of_type (word-kind ts i w e) refl
