-- Truths over the objects below a number, and connectives.
use Rattle.std.proofs.Common.{◌≡◌, refl, sym, ap, ◌∙◌, ℕ, zero, suc, ◌<◌, ◌==◌, arith, Bool, true, false, not, ◌&&◌, ◌||◌}
use Rattle.std.proofs.lemmas.Bool.{true≢false}
use Rattle.std.proofs.lemmas.Bool.Decides.{nat_tests}
use Rattle.jh_form.specs.Meaning.{all_below, any_below}
use Rattle.jh_form.proofs.ClosedLemmas.{both-left, both-right}

pub both-ways : (p q : Bool) → (p ≡ true → q ≡ true) → (q ≡ true → p ≡ true) → p ≡ q
both-ways true q f g = sym (f refl)
both-ways false true f g = g refl
both-ways false false f g = refl

pub both-true : (p q : Bool) → p ≡ true → q ≡ true → (p && q) ≡ true
both-true p q h k = λ i. h i && k i

pub or-left : (p q : Bool) → p ≡ true → (p || q) ≡ true
or-left true q h = refl
or-left false q h = absurd (true≢false (sym h))

pub or-right : (p q : Bool) → q ≡ true → (p || q) ≡ true
or-right true q h = refl
or-right false q h = h

pub implied : (p q : Bool) → (p ≡ true → q ≡ true) → (not p || q) ≡ true
implied true q h = h refl
implied false q h = refl

pub imply : (p q : Bool) → (not p || q) ≡ true → p ≡ true → q ≡ true
imply true q h e = h
imply false q h e = absurd (true≢false (sym e))

all-step : (n : ℕ) (p : ℕ → Bool) (x : ℕ) (b : Bool) → (x == n) ≡ b → x < suc n → p n ≡ true → (x < n → p x ≡ true) → p x ≡ true
all-step n p x true e lt h rest = let same : x ≡ n = grind (arith, nat_tests) in ap p same ∙ h
all-step n p x false e lt h rest = let less : x < n = grind (arith, nat_tests) in rest less

pub all-at : (n : ℕ) (p : ℕ → Bool) (x : ℕ) → all_below n p ≡ true → x < n → p x ≡ true
all-at zero p x h lt = absurd (omega arith)
all-at (suc n) p x h lt = all-step n p x (x == n) refl lt (both-right (all_below n p) (p n) h) (λ less. all-at n p x (both-left (all_below n p) (p n) h) less)

pub all-made : (n : ℕ) (p : ℕ → Bool) → ((x : ℕ) → x < n → p x ≡ true) → all_below n p ≡ true
all-made zero p h = refl
all-made (suc n) p h = λ i. all-made n p (λ x lt. h x (omega arith)) i && h n (omega arith) i

any-step : (n : ℕ) (p : ℕ → Bool) (b : Bool) → any_below n p ≡ b → (any_below n p || p n) ≡ true → (any_below n p ≡ true → (x : ℕ) × (x < n) × (p x ≡ true)) → (x : ℕ) × (x < suc n) × (p x ≡ true)
any-step n p true e h rest = let found = rest e in (found.0, omega (arith, found.1), found.2)
any-step n p false e h rest = (n, omega arith, ap (λ b. b || p n) (sym e) ∙ h)

pub any-found : (n : ℕ) (p : ℕ → Bool) → any_below n p ≡ true → (x : ℕ) × (x < n) × (p x ≡ true)
any-found zero p h = absurd (true≢false (sym h))
any-found (suc n) p h = any-step n p (any_below n p) refl h (λ e. any-found n p e)

any-put : (n : ℕ) (p : ℕ → Bool) (x : ℕ) (b : Bool) → (x == n) ≡ b → x < suc n → p x ≡ true → (x < n → any_below n p ≡ true) → (any_below n p || p n) ≡ true
any-put n p x true e lt h rest = let same : x ≡ n = grind (arith, nat_tests) in or-right (any_below n p) (p n) (ap p (sym same) ∙ h)
any-put n p x false e lt h rest = let less : x < n = grind (arith, nat_tests) in or-left (any_below n p) (p n) (rest less)

pub any-made : (n : ℕ) (p : ℕ → Bool) (x : ℕ) → x < n → p x ≡ true → any_below n p ≡ true
any-made zero p x lt h = absurd (omega arith)
any-made (suc n) p x lt h = any-put n p x (x == n) refl lt h (λ less. any-made n p x less h)

-- what is said of the one object of which something is true
module _ (n y : ℕ) (lt : y < n) (s p : ℕ → Bool) (is : s y ≡ true) (alone : (x : ℕ) → x < n → s x ≡ true → x ≡ y) where
  pub all-one : all_below n (λ x. not (s x) || p x) ≡ p y
  all-one =
      both-ways (all_below n (λ x. not (s x) || p x)) (p y)
      (λ h. imply (s y) (p y) (all-at n (λ x. not (s x) || p x) y h lt) is)
      (λ h. all-made n (λ x. not (s x) || p x) (λ x less. implied (s x) (p x) (λ e. ap p (alone x less e) ∙ h)))

  pub any-one : any_below n (λ x. s x && p x) ≡ p y
  any-one =
      both-ways (any_below n (λ x. s x && p x)) (p y)
      (λ h. let found = any-found n (λ x. s x && p x) h in ap p (sym (alone found.0 found.1 (both-left (s found.0) (p found.0) found.2))) ∙ both-right (s found.0) (p found.0) found.2)
      (λ h. any-made n (λ x. s x && p x) y lt (both-true (s y) (p y) is h))
