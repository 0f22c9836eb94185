-- Products of whole numbers over sums.
use Rattle.std.proofs.Common.{◌≡◌, refl, ℕ, zero, suc, ℤ, pos, negsuc, ◌+ℤ◌, ◌-ℤ◌, ◌*ℤ◌, neg_ℤ, ap, sym, ◌∙◌, arith}
use Rattle.std.proofs.lemmas.Int.{ints}
use Rattle.std.proofs.Math.IntN.{suc_ℤ, pred_ℤ, suc_ℤ-*ℤ, pred_ℤ-*ℤ, zero-*ℤ, *ℤ_comm}

suc_is : (x : ℤ) → suc_ℤ x ≡ x +ℤ pos 1
suc_is (pos n) = omega (arith, ints)
suc_is (negsuc zero) = refl
suc_is (negsuc (suc n)) = omega (arith, ints)

pred_is : (x : ℤ) → pred_ℤ x ≡ x -ℤ pos 1
pred_is (pos zero) = refl
pred_is (pos (suc n)) = omega (arith, ints)
pred_is (negsuc n) = omega (arith, ints)

more_times : (x c : ℤ) → (x +ℤ pos 1) *ℤ c ≡ (x *ℤ c) +ℤ c
more_times x c = ap (λ y. y *ℤ c) (sym (suc_is x)) ∙ suc_ℤ-*ℤ x c

less_times : (x c : ℤ) → (x -ℤ pos 1) *ℤ c ≡ (x *ℤ c) -ℤ c
less_times x c = ap (λ y. y *ℤ c) (sym (pred_is x)) ∙ pred_ℤ-*ℤ x c

pub add-times : (a b c : ℤ) → (a +ℤ b) *ℤ c ≡ (a *ℤ c) +ℤ (b *ℤ c)
add-times (pos zero) b c =
    let none : pos zero *ℤ c ≡ pos 0 = zero-*ℤ c in
    let same : pos zero +ℤ b ≡ b = omega (arith, ints) in
    rw (same, none) (omega (arith, ints))
add-times (pos (suc n)) b c =
    let more : pos (suc n) ≡ pos n +ℤ pos 1 = omega (arith, ints) in
    let whole : pos (suc n) +ℤ b ≡ (pos n +ℤ b) +ℤ pos 1 = omega (arith, ints) in
    let first : pos (suc n) *ℤ c ≡ (pos n *ℤ c) +ℤ c = ap (λ y. y *ℤ c) more ∙ more_times (pos n) c in
    let both : (pos (suc n) +ℤ b) *ℤ c ≡ ((pos n +ℤ b) *ℤ c) +ℤ c = ap (λ y. y *ℤ c) whole ∙ more_times (pos n +ℤ b) c in
    omega (arith, ints, first, both, add-times (pos n) b c)
add-times (negsuc zero) b c =
    let whole : negsuc zero +ℤ b ≡ b -ℤ pos 1 = omega (arith, ints) in
    let less : negsuc zero ≡ pos 0 -ℤ pos 1 = omega (arith, ints) in
    let first : negsuc zero *ℤ c ≡ pos 0 -ℤ c = ap (λ y. y *ℤ c) less ∙ less_times (pos 0) c ∙ ap (λ y. y -ℤ c) (zero-*ℤ c) in
    let both : (negsuc zero +ℤ b) *ℤ c ≡ (b *ℤ c) -ℤ c = ap (λ y. y *ℤ c) whole ∙ less_times b c in
    omega (arith, ints, first, both)
add-times (negsuc (suc n)) b c =
    let less : negsuc (suc n) ≡ negsuc n -ℤ pos 1 = omega (arith, ints) in
    let whole : negsuc (suc n) +ℤ b ≡ (negsuc n +ℤ b) -ℤ pos 1 = omega (arith, ints) in
    let first : negsuc (suc n) *ℤ c ≡ (negsuc n *ℤ c) -ℤ c = ap (λ y. y *ℤ c) less ∙ less_times (negsuc n) c in
    let both : (negsuc (suc n) +ℤ b) *ℤ c ≡ ((negsuc n +ℤ b) *ℤ c) -ℤ c = ap (λ y. y *ℤ c) whole ∙ less_times (negsuc n +ℤ b) c in
    omega (arith, ints, first, both, add-times (negsuc n) b c)

pub times-add : (c a b : ℤ) → c *ℤ (a +ℤ b) ≡ (c *ℤ a) +ℤ (c *ℤ b)
times-add c a b =
    *ℤ_comm c (a +ℤ b) ∙ add-times a b c ∙ ap (λ x. x +ℤ (b *ℤ c)) (*ℤ_comm a c) ∙ ap (λ x. (c *ℤ a) +ℤ x) (*ℤ_comm b c)

pub neg-times : (a c : ℤ) → neg_ℤ a *ℤ c ≡ neg_ℤ (a *ℤ c)
neg-times a c =
    let none : neg_ℤ a +ℤ a ≡ pos 0 = omega (arith, ints) in
    let split : (neg_ℤ a +ℤ a) *ℤ c ≡ (neg_ℤ a *ℤ c) +ℤ (a *ℤ c) = add-times (neg_ℤ a) a c in
    let whole : (neg_ℤ a +ℤ a) *ℤ c ≡ pos 0 = ap (λ x. x *ℤ c) none ∙ zero-*ℤ c in
    omega (arith, ints, split, whole)

-- the product of three, by the first
times_up : (n : ℕ) (b c : ℤ) → (pos n *ℤ b) *ℤ c ≡ pos n *ℤ (b *ℤ c)
times_up zero b c = ap (λ x. x *ℤ c) (zero-*ℤ b) ∙ zero-*ℤ c ∙ sym (zero-*ℤ (b *ℤ c))
times_up (suc n) b c =
    let more : pos (suc n) ≡ pos n +ℤ pos 1 = omega (arith, ints) in
    ap (λ x. (x *ℤ b) *ℤ c) more ∙ ap (λ x. x *ℤ c) (more_times (pos n) b) ∙ add-times (pos n *ℤ b) b c
    ∙ ap (λ x. x +ℤ (b *ℤ c)) (times_up n b c) ∙ sym (more_times (pos n) (b *ℤ c)) ∙ ap (λ x. x *ℤ (b *ℤ c)) (sym more)

pub times-times : (a b c : ℤ) → (a *ℤ b) *ℤ c ≡ a *ℤ (b *ℤ c)
times-times (pos n) b c = times_up n b c
times-times (negsuc n) b c =
    let under : negsuc n ≡ neg_ℤ (pos (suc n)) = omega (arith, ints) in
    ap (λ x. (x *ℤ b) *ℤ c) under ∙ ap (λ x. x *ℤ c) (neg-times (pos (suc n)) b) ∙ neg-times (pos (suc n) *ℤ b) c
    ∙ ap neg_ℤ (times_up (suc n) b c) ∙ sym (neg-times (pos (suc n)) (b *ℤ c)) ∙ ap (λ x. x *ℤ (b *ℤ c)) (sym under)
