-- Modifiers, each of which stands at most once.
use Rattle.std.specs.Prelude.{ℕ, zero, suc, ◌+◌, ◌≡◌, ◌==◌, Bool, false, List, [], ◌∷◌, ◌++◌, Option, None, Some}
use Rattle.std.specs.List.{list_any}
use Rattle.jh_lex.specs.lexer.Numbers.{symbol_number}
use Rattle.jh_lex.specs.declared.lexer.symbol.Symbol.{Symbol}
use Rattle.jh_lex.specs.declared.lexer.token.Token.{Token}
use Rattle.jh_operators.specs.lookahead.Choices.{given, choose}
use Rattle.jh_operators.specs.lookahead.Standing.{is_at}

-- whether a symbol is among these
abbrev pub has : List Symbol → Symbol → Bool
has ss s = list_any (λ x. symbol_number x == symbol_number s) ss

-- the one of the allowed symbols that stands there
unfoldable pub allowed_at : List Token → List Symbol → ℕ → Option Symbol
allowed_at ts [] i = None
allowed_at ts (s ∷ ss) i = choose (is_at ts i s) (Some s) (allowed_at ts ss i)

-- Allowed modifiers stand from one place up to another, none of them twice. `seen` are those before.
pub data ModifiersAfter (ts : List Token) (allowed : List Symbol) : List Symbol → ℕ → List Symbol → ℕ → Type 0 where
  no_more : {i : ℕ} {seen : List Symbol} → ModifiersAfter ts allowed seen i [] i
  one_more : {i j : ℕ} {seen ms : List Symbol} {s : Symbol} → allowed_at ts allowed i ≡ Some s → has seen s ≡ false → ModifiersAfter ts allowed (seen ++ s ∷ []) (i + 1) ms j → ModifiersAfter ts allowed seen i (s ∷ ms) j

abbrev pub Modifiers : List Token → List Symbol → ℕ → List Symbol → ℕ → Type 0
Modifiers ts allowed i ms j = ModifiersAfter ts allowed [] i ms j

-- The same as a function: all that stand so far, and the place after them. Among k symbols no more than k stand once each.
unfoldable pub modifiers_at : List Token → List Symbol → ℕ → List Symbol → ℕ → Option (List Symbol × ℕ)
modifiers_at ts allowed zero seen i = None
modifiers_at ts allowed (suc k) seen i = given (allowed_at ts allowed i)
    (λ s. choose (has seen s) None (modifiers_at ts allowed k (seen ++ s ∷ []) (i + 1)))
    (Some (seen, i))
