-- Where comments, specifications and formulas end.
use Rattle.std.specs.Prelude.{ℕ, suc, ◌&&◌, ◌==◌, List, [], ◌∷◌, length, Option, Some, None, option_map, unwrap_or, if◌then◌else◌}
use Rattle.std.specs.List.{position}
use Rattle.jh_lex.specs.lexer.Characters.{first}

-- how many characters stand before the first `*/`
abbrev pub close_at : List ℕ → Option ℕ
close_at [] = None
close_at (c ∷ cs) = if (c == 42) && (first cs == 47) then Some 0 else option_map suc (close_at cs)

-- how many characters stand before the first quote
abbrev pub quote_at : List ℕ → Option ℕ
quote_at cs = position (λ c. c == 34) cs

-- how many characters the line still has, without the line feed that ends it
abbrev pub line_length : List ℕ → ℕ
line_length cs = unwrap_or (position (λ c. c == 10) cs) (length cs)
