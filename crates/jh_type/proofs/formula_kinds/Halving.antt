-- The halves of a qualified word are what stands before and behind its first dot.
use Rattle.std.proofs.Common.{◌≡◌, ◌≢◌, refl, sym, ap, ◌∙◌, ℕ, suc, ◌<◌, ◌==◌, false, List, [], ◌∷◌, ◌++◌, length, get_or, Option, Some, None, option_map, arith, Bor}
use Rattle.std.specs.Prelude.{MatchOption}
use Rattle.std.proofs.lemmas.Bool.Decides.{nat_tests}
use Rattle.jh_rules.specs.Words.{halves}
use Rattle.jh_type.specs.formula_kinds.Parts.{pointed}

not-dot : (c : ℕ) → c ≢ 46 → (c == 46) ≡ false
not-dot c h = grind (arith, nat_tests)

halves-none : (bs : List ℕ) → ((i : ℕ) → i < length bs → get_or bs i 0 ≢ 46) → halves bs ≡ None
unfolding halves
halves-none [] h = refl
halves-none (c ∷ cs) h = rw (not-dot c (h 0 (omega arith))) (ap (option_map (λ p. (c ∷ p.0, p.1))) (halves-none cs (λ i lt. h (suc i) (omega arith))))

halves-some : (xs ys : List ℕ) → ((i : ℕ) → i < length xs → get_or xs i 0 ≢ 46) → halves (xs ++ (46 ∷ ys)) ≡ Some (xs, ys)
unfolding halves
halves-some [] ys h = refl
halves-some (c ∷ xs) ys h = rw (not-dot c (h 0 (omega arith))) (ap (option_map (λ p. (c ∷ p.0, p.1))) (halves-some xs ys (λ i lt. h (suc i) (omega arith))))

pub halved : (bs : List ℕ) (r : Option (Bor (List ℕ) × Bor (List ℕ))) → MatchOption r ((i : ℕ) → i < length bs → get_or bs i 0 ≢ 46) (λ x. (bs ≡ x.0.now ++ (46 ∷ x.1.now)) × ((i : ℕ) → i < length x.0.now → get_or x.0.now i 0 ≢ 46)) → pointed r ≡ halves bs
halved bs None h = sym (halves-none bs h)
halved bs (Some x) h = sym (ap halves h.0 ∙ halves-some x.0.now x.1.now h.1)
