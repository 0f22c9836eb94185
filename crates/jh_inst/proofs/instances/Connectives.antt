-- Quantifiers over the objects below a number, and connectives.
use Rattle.std.proofs.Common.{◌≡◌, refl, sym, ap, ◌∙◌, ℕ, zero, suc, ◌<◌, ◌==◌, arith, Bool, true, false, ◌&&◌, ◌||◌, ◌⊎◌, inl, inr}
use Rattle.std.proofs.lemmas.Bool.{true≢false}
use Rattle.std.proofs.lemmas.Bool.Decides.{nat_tests}
use Rattle.jh_form.specs.Meaning.{all_below, any_below}
use Rattle.jh_form.proofs.ClosedLemmas.{both-left, both-right}

-- quantifiers
pub all-step : (n : ℕ) (p : ℕ → Bool) (x : ℕ) (b : Bool) → (x == n) ≡ b → x < suc n → p n ≡ true → (x < n → p x ≡ true) → p x ≡ true
all-step n p x true e lt h rest = let same : x ≡ n = grind (arith, nat_tests) in ap p same ∙ h
all-step n p x false e lt h rest = let less : x < n = grind (arith, nat_tests) in rest less

pub all-at : (n : ℕ) (p : ℕ → Bool) (x : ℕ) → all_below n p ≡ true → x < n → p x ≡ true
all-at zero p x h lt = absurd (omega arith)
all-at (suc n) p x h lt = all-step n p x (x == n) refl lt (both-right (all_below n p) (p n) h) (λ less. all-at n p x (both-left (all_below n p) (p n) h) less)

pub all-made : (n : ℕ) (p : ℕ → Bool) → ((x : ℕ) → x < n → p x ≡ true) → all_below n p ≡ true
all-made zero p h = refl
all-made (suc n) p h = λ i. all-made n p (λ x lt. h x (omega arith)) i && h n (omega arith) i

pub any-step : (n : ℕ) (p : ℕ → Bool) (b : Bool) → any_below n p ≡ b → (any_below n p || p n) ≡ true → (any_below n p ≡ true → (x : ℕ) × (x < n) × (p x ≡ true)) → (x : ℕ) × (x < suc n) × (p x ≡ true)
any-step n p true e h rest = let found = rest e in (found.0, omega (arith, found.1), found.2)
any-step n p false e h rest = (n, omega arith, ap (λ b. b || p n) (sym e) ∙ h)

pub any-found : (n : ℕ) (p : ℕ → Bool) → any_below n p ≡ true → (x : ℕ) × (x < n) × (p x ≡ true)
any-found zero p h = absurd (true≢false (sym h))
any-found (suc n) p h = any-step n p (any_below n p) refl h (λ e. any-found n p e)

pub or_right : (a b : Bool) → b ≡ true → (a || b) ≡ true
or_right true b e = refl
or_right false b e = e

pub or_left : (a b : Bool) → a ≡ true → (a || b) ≡ true
or_left true b e = refl
or_left false b e = absurd (true≢false (sym e))

pub either : (a b : Bool) → (a || b) ≡ true → (a ≡ true) ⊎ (b ≡ true)
either true b h = inl refl
either false b h = inr h
