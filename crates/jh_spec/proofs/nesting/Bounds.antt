-- How the nesting grows.
use Rattle.std.proofs.Common.{◌≡◌, ℕ, ◌+◌, ◌-◌, ◌<◌, ◌≤◌, Bool, true, false, List, [], ◌∷◌, ◌++◌, length, get_or, take, refl, sym, arith, length-append}
use Rattle.std.proofs.lemmas.List.Sums.{sum_by-set, sum_by-take-le}
use Rattle.std.proofs.lemmas.Grind.{common_steps}
use Rattle.std.specs.Prelude.{sum, slice_set, slice_index, nat_lt, if◌then◌else◌, ◌&&◌, not}
use Rattle.jh_lex.specs.declared.lexer.mode.Mode.{Mode}
use Rattle.jh_lex.specs.declared.lexer.token.TokenKind.{TokenKind}
use Rattle.jh_spec.specs.nesting.Nesting.{with_token, behind_token, nesting, opens, closes, counts, separates}

raised-few : (ls : List ℕ) → 0 < length ls → nesting (slice_set ls (length ls - 1) (slice_index ls (length ls - 1) + 1)) ≡ nesting ls + 1
raised-few ls h = grind (arith, common_steps)

raised-some : (ls : List ℕ) (n : ℕ) → length (slice_set ls (length ls - 1) n) ≡ length ls
raised-some ls n = grind (arith, common_steps)

opened-few : (ls : List ℕ) → 0 < length ls → nesting (ls ++ 0 ∷ []) ≡ nesting ls + 1
opened-few ls h = grind (arith, common_steps)

closed-few : (ls : List ℕ) → 0 < length ls → nesting (take (length ls - 1) ls) ≤ nesting ls
closed-few ls h = grind (arith, common_steps)

cleared-few : (ls : List ℕ) → 0 < length ls → nesting (slice_set ls (length ls - 1) 0) ≤ nesting ls
cleared-few ls h = let e : sum (slice_set ls (length ls - 1) 0) + get_or ls (length ls - 1) 0 ≡ sum ls + 0 = sum_by-set (λ x. x) ls (length ls - 1) 0 0 (omega arith) in omega (arith, e, raised-some ls 0)

with_by : (a b c d : Bool) (ls : List ℕ) → 0 < length ls → d ≡ nat_lt 1 (length ls)
    → (0 < length (if a then ls ++ 0 ∷ [] else if b then (if d then take (length ls - 1) ls else ls) else if c then slice_set ls (length ls - 1) (slice_index ls (length ls - 1) + 1) else ls))
    × (nesting (if a then ls ++ 0 ∷ [] else if b then (if d then take (length ls - 1) ls else ls) else if c then slice_set ls (length ls - 1) (slice_index ls (length ls - 1) + 1) else ls) ≤ nesting ls + 1)
with_by true b c d ls h e = (omega (arith, length-append ls (0 ∷ [])), omega (arith, opened-few ls h))
with_by false true c true ls h e = (grind (arith, common_steps, sym e), omega (arith, closed-few ls h))
with_by false true c false ls h e = (h, omega arith)
with_by false false true d ls h e = (omega (arith, raised-some ls (slice_index ls (length ls - 1) + 1)), omega (arith, raised-few ls h))
with_by false false false d ls h e = (h, omega arith)

pub with-some : (m : Mode) (k : TokenKind) (ls : List ℕ) → 0 < length ls → 0 < length (with_token m k ls)
unfolding with_token
with-some m k ls h = (with_by (opens k) (closes k) (counts m k) (nat_lt 1 (length ls)) ls h refl).0

pub with-few : (m : Mode) (k : TokenKind) (ls : List ℕ) → 0 < length ls → nesting (with_token m k ls) ≤ nesting ls + 1
unfolding with_token
with-few m k ls h = (with_by (opens k) (closes k) (counts m k) (nat_lt 1 (length ls)) ls h refl).1

behind_by : (a : Bool) (ls : List ℕ) → 0 < length ls → (0 < length (if a then slice_set ls (length ls - 1) 0 else ls)) × (nesting (if a then slice_set ls (length ls - 1) 0 else ls) ≤ nesting ls)
behind_by true ls h = (omega (arith, raised-some ls 0), cleared-few ls h)
behind_by false ls h = (h, omega arith)

pub behind-some : (m : Mode) (k : TokenKind) (b : Bool) (ls : List ℕ) → 0 < length ls → 0 < length (behind_token m k b ls)
unfolding behind_token
behind-some m k b ls h = (behind_by (separates m k && not b) ls h).0

pub behind-few : (m : Mode) (k : TokenKind) (b : Bool) (ls : List ℕ) → 0 < length ls → nesting (behind_token m k b ls) ≤ nesting ls
unfolding behind_token
behind-few m k b ls h = (behind_by (separates m k && not b) ls h).1

pub partial_sum : (ls : List ℕ) (i : ℕ) → sum (take i ls) ≤ sum ls
partial_sum ls i = sum_by-take-le (λ x. x) ls i
