-- The number that digits spell, a digit at a time.
use Rattle.std.proofs.Common.{◌≡◌, ℕ, ◌+◌, ◌*◌, ◌-◌, ◌<◌, ◌≤◌, ◌^◌, cond, List, [], ◌∷◌, length, take, drop, get_or, Some, None, sym, ap, ◌∙◌, arith}
use Rattle.std.specs.List.{fold}
use Rattle.std.proofs.lemmas.Bool.{le-ltb}
use Rattle.std.proofs.lemmas.List.{take-append-drop}
use Rattle.std.proofs.lemmas.List.Sums.{fold-append, fold_more}
use Rattle.jh_lex.specs.lexer.Lexemes.{value, small_value}

grows : (a : ℕ) (cs : List ℕ) → a ≤ fold (λ n c. n * 10 + (c - 48)) a cs
grows a [] = omega arith
grows a (c ∷ cs) = omega (arith, grows (a * 10 + (c - 48)) cs)

-- a front's number is at most the whole number
pub value-take-le : (i : ℕ) (cs : List ℕ) → value (take i cs) ≤ value cs
value-take-le i cs =
    let parts : value cs ≡ fold (λ n c. n * 10 + (c - 48)) (value (take i cs)) (drop i cs) = ap value (sym (take-append-drop i cs)) ∙ fold-append (λ n c. n * 10 + (c - 48)) 0 (take i cs) (drop i cs) in
    omega (arith, parts, grows (value (take i cs)) (drop i cs))

pub value_more : (cs : List ℕ) (i d : ℕ) → i < length cs → value (take (i + 1) cs) ≡ value (take i cs) * 10 + (get_or cs i d - 48)
value_more cs i d h = fold_more (λ n c. n * 10 + (c - 48)) 0 cs i d h

pub small_value-great : (cs : List ℕ) → 2 ^ 63 ≤ value cs → small_value cs ≡ None
small_value-great cs h = ap (λ b. cond b (Some (value cs)) None) (le-ltb (value cs) (2 ^ 63) h)
