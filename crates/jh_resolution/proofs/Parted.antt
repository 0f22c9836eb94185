-- The halves of a word.
use Rattle.std.proofs.Common.{◌≡◌, refl, ap, ◌∙◌, ℕ, suc, ◌<◌, ◌==◌, Bool, true, false, if◌then◌else◌, List, [], ◌∷◌, ◌++◌, length, get_or, Option, Some, None, option_map, Bor, arith}
use Rattle.std.proofs.lemmas.Bool.Decides.{nat_tests}
use Rattle.std.specs.Option.{MatchOption}
use Rattle.jh_rules.specs.Words.{halves}

by-test : (c : ℕ) (b : Bool) → (c == 46) ≡ b → (c ≡ 46 → ⊥) → b ≡ false
by-test c false e h = refl
by-test c true e h = absurd (h (grind (arith, nat_tests)))

not-dot : (c : ℕ) → (c ≡ 46 → ⊥) → (c == 46) ≡ false
not-dot c h = by-test c (c == 46) refl h

-- one more character before
unfolding-step : (c : ℕ) (cs : List ℕ) (b : Bool) (o : Option (List ℕ × List ℕ)) → (c == 46) ≡ b → halves cs ≡ o → halves (c ∷ cs) ≡ (if b then Some ([], cs) else option_map (λ p. (c ∷ p.0, p.1)) o)
unfolding halves
unfolding-step c cs b o e f = λ i. if e i then Some ([], cs) else option_map (λ p. (c ∷ p.0, p.1)) (f i)

pub halves-before : (xs ys : List ℕ) → ((i : ℕ) → i < length xs → get_or xs i 0 ≡ 46 → ⊥) → halves (xs ++ 46 ∷ ys) ≡ Some (xs, ys)
unfolding halves
halves-before [] ys h = refl
halves-before (x ∷ xs) ys h = unfolding-step x (xs ++ 46 ∷ ys) false (Some (xs, ys)) (not-dot x (h 0 (omega arith))) (halves-before xs ys (λ i l. h (suc i) (omega arith)))

pub halves-none : (xs : List ℕ) → ((i : ℕ) → i < length xs → get_or xs i 0 ≡ 46 → ⊥) → halves xs ≡ None
unfolding halves
halves-none [] h = refl
halves-none (x ∷ xs) h = unfolding-step x xs false None (not-dot x (h 0 (omega arith))) (halves-none xs (λ i l. h (suc i) (omega arith)))

pub halves-of : (bs : List ℕ) (r : Option (Bor (List ℕ) × Bor (List ℕ))) → MatchOption r ((i : ℕ) → i < length bs → get_or bs i 0 ≡ 46 → ⊥) (λ x. (bs ≡ x.0.now ++ (46 ∷ x.1.now)) × ((i : ℕ) → i < length x.0.now → get_or x.0.now i 0 ≡ 46 → ⊥)) → MatchOption r (halves bs ≡ None) (λ h. halves bs ≡ Some (h.0.now, h.1.now))
halves-of bs None h = halves-none bs h
halves-of bs (Some x) h = ap halves h.0 ∙ halves-before x.0.now x.1.now h.1
