-- What a parser answers.
use Rattle.std.specs.Prelude.{ℕ, ◌≡◌, ◌<◌, List, length, Result, Ok, Err}
use Rattle.jh_name.specs.declared.place.Place.{Place}
use Rattle.jh_lex.specs.declared.lexer.token.Token.{Token}
use Rattle.jh_spec.specs.nesting.Nesting.{AllShallow, IsFirstDeep}
use Rattle.jh_operators.specs.lookahead.Standing.{place_at}
use Rattle.jh_spec.specs.declared.parser.error.ParseError.{ParseError}
use Rattle.jh_spec.specs.declared.parser.error.ParseError.TheVariants.{Syntax, TooDeep, Memory}

-- the place is the start of a token
abbrev pub IsStart : List Token → Place → Type 0
IsStart ts p = (k : ℕ) × (k < length ts) × (p ≡ place_at ts k)

-- Where no token is too deep, what is answered, seen by a view, is spelled, or nothing is spelled. Where one is, the first
-- such token is named. Memory may be wanting in both cases. Since at most one thing is spelled, and since tokens can't be
-- both, the answer is Ok exactly where something is spelled and nothing too deep, memory aside.
abbrev pub Parsed : {X A : Type 0} → List Token → (X → A) → (A → Type 0) → Result X ParseError → Type 0
Parsed ts view Spells (Ok x) = AllShallow ts × Spells (view x)
Parsed {A = A} ts view Spells (Err (Syntax p)) = AllShallow ts × ((a : A) → Spells a → ⊥) × IsStart ts p
Parsed ts view Spells (Err (TooDeep p)) = IsFirstDeep ts p
Parsed ts view Spells (Err Memory) = Unit {0}
