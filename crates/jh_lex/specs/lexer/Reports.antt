-- What a function of the lexer answers, against the definitions of a step and a run.
use Rattle.std.specs.Prelude.{◌≡◌, ℕ, List, ◌++◌, Result, Ok, Err}
use Rattle.jh_name.specs.declared.place.Place.{Place}
use Rattle.jh_lex.specs.lexer.Texts.{Step, moves, stops, cut, fault, Run}
use Rattle.jh_lex.specs.declared.lexer.error.LexError.{LexError}
use Rattle.jh_lex.specs.declared.lexer.error.LexError.TheVariants as error
use Rattle.jh_lex.specs.declared.lexer.token.Token.{Token}

-- want of memory says nothing of the text
abbrev pub UnlessMemory : LexError → Type 0 → Type 0
UnlessMemory error.Memory P = Unit {0}
UnlessMemory (error.NotUtf8 p) P = P
UnlessMemory (error.BadChar p) P = P
UnlessMemory (error.OpenComment p) P = P
UnlessMemory (error.OpenQuote p) P = P
UnlessMemory (error.TooWide p) P = P

-- a step was read: how many characters it takes, and its tokens stand behind the old ones
abbrev pub ReadsStep : (Place → List ℕ → Step → Type 0) → Place → List ℕ → List Token → List Token → Result ℕ LexError → Type 0
ReadsStep S p cs old new (Ok n) = (ts : List Token) × (new ≡ old ++ ts) × S p cs (moves ts n)
ReadsStep S p cs old new (Err e) = UnlessMemory e (S p cs (stops e))

-- a whole text was read, and its tokens stand behind the old ones
abbrev pub ReadsText : {A : Type 0} → (Place → List ℕ → Step → Type 0) → Place → List ℕ → List Token → List Token → Result A LexError → Type 0
ReadsText S p cs old new (Ok x) = (ts : List Token) × (new ≡ old ++ ts) × Run S p cs (cut ts)
ReadsText S p cs old new (Err e) = UnlessMemory e (Run S p cs (fault e))
