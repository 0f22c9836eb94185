-- The names without a dot, one number after another.
use Rattle.std.proofs.Common.{◌≡◌, ◌⊎◌, inl, inr, refl, sym, ap, subst, ◌∙◌, ℕ, zero, suc, ◌<◌, ◌≤◌, arith, true, false, List, [], ◌∷◌, ◌++◌, length, Some, slice_get}
use Rattle.std.proofs.lemmas.Bool.{true≢false}
use Rattle.std.proofs.lemmas.Option.{slice_get_within}
use Rattle.jh_name.specs.declared.naming.Name.{Name}
use Rattle.jh_semantics.specs.Locals.{has_dot}
use Rattle.jh_operands.specs.Exprs.{text_at, IsPlain}
use Rattle.jh_machine.specs.locals.Locals.{AreLocals}
use Rattle.jh_machine.proofs.slots.Pushing.{one-of, still, last-one}

-- numbers are those of the names without a dot below a number
pub record AreLocalsBelow (names : List Name) (n : ℕ) (made : List ℕ) : Type 0 where
  pub plain : (i k : ℕ) → slice_get made i ≡ Some k → IsPlain names k
  pub dotless : (i k : ℕ) → slice_get made i ≡ Some k → has_dot (text_at names k) ≡ false
  pub all : (k : ℕ) (x : Name) → k < n → slice_get names k ≡ Some x → has_dot x.text ≡ false → (i : ℕ) × (slice_get made i ≡ Some k)

pub none-below : (names : List Name) → AreLocalsBelow names 0 []
none-below names = record { plain = λ i k h. cc; dotless = λ i k h. cc; all = λ k x lt h none. absurd (omega arith) }

text-there : (names : List Name) (k : ℕ) (x : Name) → slice_get names k ≡ Some x → text_at names k ≡ x.text
text-there names k x h = rw h refl

pub local-more : (names : List Name) (n : ℕ) (made : List ℕ) → AreLocalsBelow names n made → IsPlain names n → has_dot (text_at names n) ≡ false → AreLocalsBelow names (suc n) (made ++ n ∷ [])
local-more names n made below plain none = record {
  plain = λ i k h. plain-by i k (one-of made n i k h);
  dotless = λ i k h. dotless-by i k (one-of made n i k h);
  all = λ k x lt h without. all-by k x lt h without (le-cases k n);
}
  where
    plain-by : (i k : ℕ) → (slice_get made i ≡ Some k) ⊎ ((i ≡ length made) × (k ≡ n)) → IsPlain names k
    plain-by i k (inl at) = below.plain i k at
    plain-by i k (inr e) = subst (IsPlain names) (sym e.1) plain

    dotless-by : (i k : ℕ) → (slice_get made i ≡ Some k) ⊎ ((i ≡ length made) × (k ≡ n)) → has_dot (text_at names k) ≡ false
    dotless-by i k (inl at) = below.dotless i k at
    dotless-by i k (inr e) = subst (λ j. has_dot (text_at names j) ≡ false) (sym e.1) none

    le-cases : (a b : ℕ) → (a < b) ⊎ (b ≤ a)
    le-cases a zero = inr (omega arith)
    le-cases zero (suc b) = inl (omega arith)
    le-cases (suc a) (suc b) = up (le-cases a b)
      where
        up : (a < b) ⊎ (b ≤ a) → (suc a < suc b) ⊎ (suc b ≤ suc a)
        up (inl lt) = inl (omega arith)
        up (inr le) = inr (omega arith)

    all-by : (k : ℕ) (x : Name) → k < suc n → slice_get names k ≡ Some x → has_dot x.text ≡ false → (k < n) ⊎ (n ≤ k) → (i : ℕ) × (slice_get (made ++ n ∷ []) i ≡ Some k)
    all-by k x lt h without (inl less) = let found = below.all k x less h without in (found.0, still made n found.0 k found.1)
    all-by k x lt h without (inr le) = let same : n ≡ k = omega arith in (length made, subst (λ j. slice_get (made ++ n ∷ []) (length made) ≡ Some j) same (last-one made n))

pub local-less : (names : List Name) (n : ℕ) (made : List ℕ) → AreLocalsBelow names n made → has_dot (text_at names n) ≡ true → AreLocalsBelow names (suc n) made
local-less names n made below dot = record {
  plain = below.plain;
  dotless = below.dotless;
  all = λ k x lt h without. all-by k x lt h without;
}
  where
    less : (k : ℕ) (x : Name) → k < suc n → slice_get names k ≡ Some x → has_dot x.text ≡ false → (k ≡ n → ⊥)
    less k x lt h without e = true≢false (sym dot ∙ ap (λ j. has_dot (text_at names j)) (sym e) ∙ ap has_dot (text-there names k x h) ∙ without)

    all-by : (k : ℕ) (x : Name) → k < suc n → slice_get names k ≡ Some x → has_dot x.text ≡ false → (i : ℕ) × (slice_get made i ≡ Some k)
    all-by k x lt h without = let apart = less k x lt h without in below.all k x (omega arith) h without

pub locals-whole : (names : List Name) (n : ℕ) (made : List ℕ) → length names ≤ n → AreLocalsBelow names n made → AreLocals names made
locals-whole names n made le below = record {
  plain = below.plain;
  dotless = below.dotless;
  all = λ k x h without. let within : k < length names = slice_get_within names k x h in below.all k x (omega arith) h without;
}

-- a name at turn 0 is that of its text
pub plain-there : (names : List Name) (k : ℕ) (x : Name) → slice_get names k ≡ Some x → x.turn ≡ 0 → IsPlain names k
plain-there names k x h turn = h ∙ ap (λ z. Some z) (named-again x (text_at names k) turn (sym (text-there names k x h)))
  where
    named-again : (y : Name) (text : List ℕ) → y.turn ≡ 0 → y.text ≡ text → y ≡ record { text = text; turn = 0 }
    named-again y text e same = λ i. record { text = same i; turn = e i }
