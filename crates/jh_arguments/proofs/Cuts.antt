-- What stands behind a hyphen, and round the first byte of a kind.
use Rattle.std.proofs.Common.{◌≡◌, ◌≢◌, refl, sym, ap, ◌∙◌, ℕ, suc, ◌<◌, ◌==◌, Bool, true, false, List, [], ◌∷◌, ◌++◌, length, get_or, Option, Some, None, option_map, arith, Bor}
use Rattle.std.specs.Prelude.{MatchOption}
use Rattle.std.proofs.lemmas.Bool.Decides.{nat_tests}
use Rattle.jh_arguments.specs.Arguments.{after_hyphen, cut_at}

is-not : (b c : ℕ) → b ≢ c → (b == c) ≡ false
is-not b c h = grind (arith, nat_tests)

is-same : (c : ℕ) → (c == c) ≡ true
is-same c = grind (arith, nat_tests)

pub hyphen-from : (bs : List ℕ) (r : Option (Bor (List ℕ))) → MatchOption r ((rest : List ℕ) → bs ≢ 45 ∷ rest) (λ x. bs ≡ 45 ∷ x.now) → option_map (λ s. s.now) r ≡ after_hyphen bs
hyphen-from [] None h = refl
hyphen-from [] (Some x) h = cc
hyphen-from (b ∷ bs) None h = go (b == 45) refl where
  go : (t : Bool) → (b == 45) ≡ t → None ≡ after_hyphen (b ∷ bs)
  go true e = absurd (h bs (ap (λ n. n ∷ bs) (grind (arith, nat_tests))))
  go false e = rw e
hyphen-from (b ∷ bs) (Some x) h = sym (ap after_hyphen h)

cut-none : (c : ℕ) (bs : List ℕ) → ((i : ℕ) → i < length bs → get_or bs i 0 ≢ c) → cut_at c bs ≡ None
cut-none c [] h = refl
cut-none c (b ∷ bs) h = rw (is-not b c (h 0 (omega arith))) (ap (option_map (λ p. (b ∷ p.0, p.1))) (cut-none c bs (λ i lt. h (suc i) (omega arith))))

cut-some : (c : ℕ) (xs ys : List ℕ) → ((i : ℕ) → i < length xs → get_or xs i 0 ≢ c) → cut_at c (xs ++ (c ∷ ys)) ≡ Some (xs, ys)
cut-some c [] ys h = rw (is-same c) refl
cut-some c (b ∷ xs) ys h = rw (is-not b c (h 0 (omega arith))) (ap (option_map (λ p. (b ∷ p.0, p.1))) (cut-some c xs ys (λ i lt. h (suc i) (omega arith))))

pub cut-from : (c : ℕ) (bs : List ℕ) (r : Option (Bor (List ℕ) × Bor (List ℕ))) → MatchOption r ((i : ℕ) → i < length bs → get_or bs i 0 ≢ c) (λ x. (bs ≡ x.0.now ++ (c ∷ x.1.now)) × ((i : ℕ) → i < length x.0.now → get_or x.0.now i 0 ≢ c)) →
    option_map (λ p. (p.0.now, p.1.now)) r ≡ cut_at c bs
cut-from c bs None h = sym (cut-none c bs h)
cut-from c bs (Some x) h = sym (ap (cut_at c) h.0 ∙ cut-some c x.0.now x.1.now h.1)
