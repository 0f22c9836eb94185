-- How the lengths of tokens are found, an element at a time.
use Rattle.std.proofs.Common.{◌≡◌, ℕ, ◌+◌, ◌<◌, ◌≤◌, max, List, length, drop, get_or, ap, arith}
use Rattle.std.proofs.lemmas.List.{drop_more, drop_all}
use Rattle.jh_lex.specs.lexer.Lengths.{symbol_length, sign_length}
use Rattle.jh_lex.specs.declared.lexer.symbol.Symbol.{Symbol}

pub sign_length_more : (xs : List Symbol) (i : ℕ) (x : Symbol) (cs : List ℕ) → i < length xs → sign_length (drop i xs) cs ≡ max (symbol_length (get_or xs i x) cs) (sign_length (drop (i + 1) xs) cs)
unfolding sign_length
sign_length_more xs i x cs h = ap (λ ys. sign_length ys cs) (drop_more xs i x h)

pub sign_length_all : (xs : List Symbol) (i : ℕ) (cs : List ℕ) → length xs ≤ i → sign_length (drop i xs) cs ≡ 0
unfolding sign_length
sign_length_all xs i cs h = ap (λ ys. sign_length ys cs) (drop_all i xs h)

-- a loop over the table that keeps the longest symbol so far
pub sign_length_step : (xs : List Symbol) (i : ℕ) (x : Symbol) (cs : List ℕ) (n old new total : ℕ) → i < length xs → n ≡ symbol_length (get_or xs i x) cs → new ≡ max n old → max old (sign_length (drop i xs) cs) ≡ total → max new (sign_length (drop (i + 1) xs) cs) ≡ total
sign_length_step xs i x cs n old new total h is new_is before =
    let more = sign_length_more xs i x cs h in
    omega (arith, more, is, new_is, before)
