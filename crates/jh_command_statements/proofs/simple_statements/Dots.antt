-- What stands before the first dot of a text.
use Rattle.std.proofs.Common.{◌≡◌, ◌≢◌, refl, sym, ap, ◌∙◌, ℕ, suc, ◌<◌, ◌==◌, false, List, [], ◌∷◌, ◌++◌, length, get_or, Option, Some, None, option_map, arith, Bor}
use Rattle.std.specs.Prelude.{MatchOption}
use Rattle.std.specs.Option.{option_map_or}
use Rattle.std.proofs.lemmas.Bool.Decides.{nat_tests}
use Rattle.jh_rules.specs.Words.{halves}
use Rattle.jh_semantics.specs.LoweredStmts.{class_before_dot}

not-dot : (c : ℕ) → c ≢ 46 → (c == 46) ≡ false
not-dot c h = grind (arith, nat_tests)

halves-none : (bs : List ℕ) → ((i : ℕ) → i < length bs → get_or bs i 0 ≢ 46) → halves bs ≡ None
unfolding halves
halves-none [] h = refl
halves-none (c ∷ cs) h = rw (not-dot c (h 0 (omega arith))) (ap (option_map (λ p. (c ∷ p.0, p.1))) (halves-none cs (λ i lt. h (suc i) (omega arith))))

halves-some : (xs ys : List ℕ) → ((i : ℕ) → i < length xs → get_or xs i 0 ≢ 46) → halves (xs ++ (46 ∷ ys)) ≡ Some (xs, ys)
unfolding halves
halves-some [] ys h = refl
halves-some (c ∷ xs) ys h = rw (not-dot c (h 0 (omega arith))) (ap (option_map (λ p. (c ∷ p.0, p.1))) (halves-some xs ys (λ i lt. h (suc i) (omega arith))))

-- what a search for the first dot finds before it
abbrev pub first_of : Option (Bor (List ℕ) × Bor (List ℕ)) → List ℕ
first_of r = option_map_or (λ x. x.0.now) r []

pub before-dot : (bs : List ℕ) (r : Option (Bor (List ℕ) × Bor (List ℕ))) → MatchOption r ((i : ℕ) → i < length bs → get_or bs i 0 ≢ 46) (λ x. (bs ≡ x.0.now ++ (46 ∷ x.1.now)) × ((i : ℕ) → i < length x.0.now → get_or x.0.now i 0 ≢ 46)) → first_of r ≡ class_before_dot bs
before-dot bs None h = sym (ap (λ o. option_map_or (λ p. p.0) o []) (halves-none bs h))
before-dot bs (Some x) h = sym (ap (λ o. option_map_or (λ p. p.0) o []) (ap halves h.0 ∙ halves-some x.0.now x.1.now h.1))
