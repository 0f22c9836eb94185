-- Choices of flags as numbers, and what words of 64 choices allow.
use Rattle.std.proofs.Common.{◌≡◌, refl, ℕ, zero, suc, ◌+◌, ◌*◌, ◌-◌, ◌/◌, ◌%◌, ◌^◌, ◌<◌, ◌≤◌, ◌==◌, nat_lt, Bool, true, false, not, ◌&&◌, ◌||◌, cond, List, [], ◌∷◌, ◌++◌, length, map, take, get_or, max, min, Option, Some, None, ap, sym, ◌∙◌, arith, ◌⊎◌, inl, inr, subst, ⊎_elim}
use Rattle.std.specs.Prelude.{slice_index_or, MatchOption}
use Rattle.std.specs.List.{list_all}
use Rattle.std.specs.Int.{bit_at, bit_not, w64}
use Rattle.std.specs.Int.RustNames.{bit_or, bit_and}
use Rattle.std.proofs.lemmas.Bool.{cases_lt, eqb-true, ltb-true, true≢false}
use Rattle.std.proofs.lemmas.List.{map-append, take_more}
use Rattle.std.proofs.lemmas.Nat.{shr_split, mod_below, pow-add}
use Rattle.std.proofs.Math.Nat.{pow-le-pow_right, one-le-pow, pow-suc}
use Rattle.jh_bapa.proofs.decision.Belows.{all-at, both, first, second}
use Rattle.std.proofs.lemmas.Nat.Bits.{bit_at_and, bit_at_or, bit_at_cat_low, bit_at_cat_high, bit_at_lowest, bit_at-suc, bit_at-zero, bit_at-lt, bit_at_ones, bit_at_not, shr_and_one}
use Rattle.jh_form.specs.Meaning.{agree, all_below}
use Rattle.jh_query.specs.declared.queries.query.Cond.{Cond}
use Rattle.jh_query.specs.queries.Bare.{cond_tree}
use Rattle.jh_query.specs.queries.Tree as t
use Rattle.jh_query.specs.queries.Tree.{CondTree, QueryTree}
use Rattle.jh_query.specs.queries.Sizing.{Sizing}
use Rattle.jh_query.specs.queries.Truth.{holds, implied, query_true}
use Rattle.jh_query.specs.declared.queries.sizes.Spot.{Spot}
use Rattle.jh_query.specs.declared.partial_truth.casing.Atom.{Atom}
use Rattle.jh_query.specs.partial_truth.Judged.{Agrees, Tells}
use Rattle.jh_bapa.specs.declared.decision.flagging.May.{May}
use Rattle.jh_bapa.specs.decision.Choices.{IsChoice, Allows, AllowsAll, IsVain}
use Rattle.jh_bapa.specs.decision.Searching.{IsLeft, NoneLeft}
use Rattle.jh_bapa.proofs.decision.Meeting.{agrees}

-- the choice of the flags of sizes
abbrev pub number_of : List Bool → ℕ
number_of [] = 0
number_of (b ∷ bs) = 2 * number_of bs + cond b 1 0

half : (m : ℕ) (b : Bool) → (2 * m + cond b 1 0) / 2 ≡ m
half m true = omega arith
half m false = omega arith

low : (m : ℕ) (b : Bool) → (2 * m + cond b 1 0) % 2 ≡ cond b 1 0
low m true = omega arith
low m false = omega arith

number_bit : (bs : List Bool) (f : ℕ) → bit_at (number_of bs) f ≡ cond (slice_index_or bs f false) 1 0
number_bit [] f = bit_at-zero f
number_bit (b ∷ bs) zero = bit_at_lowest (2 * number_of bs + cond b 1 0) ∙ low (number_of bs) b
number_bit (b ∷ bs) (suc f) = bit_at-suc (2 * number_of bs + cond b 1 0) f ∙ ap (λ n. bit_at n f) (half (number_of bs) b) ∙ number_bit bs f

below-more : (m p : ℕ) (b : Bool) → m < p → 2 * m + cond b 1 0 < 2 * p
below-more m p true h = omega (arith, h)
below-more m p false h = omega (arith, h)

twice : (a p : ℕ) → a < 2 * p → a < p * 2
twice a p h = omega (arith, h)

number_below : (bs : List Bool) → number_of bs < 2 ^ length bs
number_below [] = omega arith
number_below (b ∷ bs) = rw (pow-suc 2 (length bs)) (twice (2 * number_of bs + cond b 1 0) (2 ^ length bs) (below-more (number_of bs) (2 ^ length bs) b (number_below bs)))

pub choice_of : (z : Sizing) → IsChoice z (number_of z.flags)
choice_of z f = number_bit z.flags f

-- ---- words

-- flags below the sixth, by their words; the others by the number of the block
pub low-word : (c f block : ℕ) → f < 6 → all_below 64 (λ i. bit_at c i == bit_at i f) ≡ true → (i : ℕ) → i < 64 → bit_at c i ≡ bit_at (block * 64 + i) f
low-word c f block h e i k = eqb-true (bit_at c i) (bit_at i f) (all-at 64 i (λ i. bit_at c i == bit_at i f) e k) ∙ sym (bit_at_cat_low block 6 i f h)

high-word : (f block i : ℕ) → i < 64 → 6 ≤ f → bit_at (block * 64 + i) f ≡ bit_at block (f - 6)
high-word f block i h k = bit_at_cat_high block 6 i f h k

pub high-set : (f block : ℕ) → 6 ≤ f → bit_and (block / 2 ^ (f - 6)) 1 ≡ 1 → (i : ℕ) → i < 64 → bit_at (2 ^ 64 - 1) i ≡ bit_at (block * 64 + i) f
high-set f block k e i h = bit_at_ones 64 i h ∙ sym (high-word f block i h k ∙ sym (shr_and_one block (f - 6)) ∙ e)

pub high-clear : (f block : ℕ) → 6 ≤ f → (bit_and (block / 2 ^ (f - 6)) 1 ≡ 1 → ⊥) → (i : ℕ) → i < 64 → bit_at 0 i ≡ bit_at (block * 64 + i) f
high-clear f block k e i h =
    let no : bit_at block (f - 6) ≡ 1 → ⊥ = λ g. e (shr_and_one block (f - 6) ∙ g) in
    let zero : bit_at block (f - 6) ≡ 0 = omega (arith, no, bit_at-lt block (f - 6)) in
    bit_at-zero i ∙ sym (high-word f block i h k ∙ zero)

abbrev bit : Bool → ℕ
bit p = cond p 1 0

one-of : (p : Bool) → p ≡ true → bit p ≡ 1
one-of p e = rw e refl

none-of : (p : Bool) → p ≡ false → 1 - bit p ≡ 1
none-of p e = rw e refl

pub flag-yes : (z : Sizing) (f block i w : ℕ) → IsChoice z (block * 64 + i) → bit_at w i ≡ bit_at (block * 64 + i) f → holds z (t.flag f) ≡ true → bit_at w i ≡ 1
flag-yes z f block i w c e h = e ∙ c f ∙ one-of (holds z (t.flag f)) h

pub flag-no : (z : Sizing) (f block i w : ℕ) → i < 64 → w < 2 ^ 64 → IsChoice z (block * 64 + i) → bit_at w i ≡ bit_at (block * 64 + i) f → holds z (t.flag f) ≡ false → bit_at (bit_not w64 w) i ≡ 1
flag-no z f block i w h small c e g = bit_at_not w64 w i small h ∙ ap (λ b. 1 - b) (e ∙ c f) ∙ none-of (holds z (t.flag f)) g

pub all-ones : (i : ℕ) → i < 64 → bit_at 18446744073709551615 i ≡ 1
all-ones i h = bit_at_ones 64 i h

pub known-true : (i : ℕ) → i < 64 → Allows (record { yes = 18446744073709551615; no = 0 }) i true
known-true i h = (λ e. all-ones i h, λ e. absurd (true≢false e))

pub known-false : (i : ℕ) → i < 64 → Allows (record { yes = 0; no = 18446744073709551615 }) i false
known-false i h = (λ e. absurd (true≢false (sym e)), λ e. all-ones i h)

pub unknown : (i : ℕ) → i < 64 → (p : Bool) → Allows (record { yes = 18446744073709551615; no = 18446744073709551615 }) i p
unknown i h p = (λ e. all-ones i h, λ e. all-ones i h)

-- ---- connectives

pub and-ones : (a b i : ℕ) → bit_at a i ≡ 1 → bit_at b i ≡ 1 → bit_at (bit_and a b) i ≡ 1
and-ones a b i e f = bit_at_and a b i ∙ omega (arith, e, f)

or-left : (a b i : ℕ) → bit_at a i ≡ 1 → bit_at (bit_or a b) i ≡ 1
or-left a b i e = bit_at_or a b i ∙ omega (arith, e, bit_at-lt b i)

or-right : (a b i : ℕ) → bit_at b i ≡ 1 → bit_at (bit_or a b) i ≡ 1
or-right a b i e = bit_at_or a b i ∙ omega (arith, e, bit_at-lt a i)

pub both-yes : (m n : May) (i : ℕ) (p q : Bool) → Allows m i p → Allows n i q → (p && q) ≡ true → bit_at (bit_and m.yes n.yes) i ≡ 1
both-yes m n i true q f g e = and-ones m.yes n.yes i (f.0 refl) (g.0 e)
both-yes m n i false q f g e = absurd (true≢false (sym e))

pub both-no : (m n : May) (i : ℕ) (p q : Bool) → Allows m i p → Allows n i q → (p && q) ≡ false → bit_at (bit_or m.no n.no) i ≡ 1
both-no m n i true q f g e = or-right m.no n.no i (g.1 e)
both-no m n i false q f g e = or-left m.no n.no i (f.1 refl)

pub one-yes : (m n : May) (i : ℕ) (p q : Bool) → Allows m i p → Allows n i q → (p || q) ≡ true → bit_at (bit_or m.yes n.yes) i ≡ 1
one-yes m n i true q f g e = or-left m.yes n.yes i (f.0 refl)
one-yes m n i false q f g e = or-right m.yes n.yes i (g.0 e)

pub one-no : (m n : May) (i : ℕ) (p q : Bool) → Allows m i p → Allows n i q → (p || q) ≡ false → bit_at (bit_and m.no n.no) i ≡ 1
one-no m n i true q f g e = absurd (true≢false e)
one-no m n i false q f g e = and-ones m.no n.no i (f.1 refl) (g.1 e)

pub agree-is : (p q : Bool) → ((p && q) || (not p && not q)) ≡ agree p q
agree-is true true = refl
agree-is true false = refl
agree-is false true = refl
agree-is false false = refl

-- ---- conditions

pub known-allows : (r : Option Bool) (m : May) (block : ℕ) (s : List Spot) (atoms : List Atom) (c : CondTree) → ((i : ℕ) → i < 64 → MatchOption r ((p : Bool) → Allows m i p) (λ p. Allows m i p)) → Tells r s atoms c → AllowsAll m block s atoms c
known-allows None m block s atoms c k tells z i h a ch = k i h (holds z c)
known-allows (Some p) m block s atoms c k tells z i h a ch = subst (λ x. Allows m i x) (sym (tells z a)) (k i h)

-- a condition of two
pub joined-all : (m n r : May) (block : ℕ) (s : List Spot) (atoms : List Atom) (c a b : CondTree) (f : Bool → Bool → Bool) → ((z : Sizing) → holds z c ≡ f (holds z a) (holds z b))
    → ((i : ℕ) (p q : Bool) → Allows m i p → Allows n i q → Allows r i (f p q)) → AllowsAll m block s atoms a → AllowsAll n block s atoms b → AllowsAll r block s atoms c
joined-all m n r block s atoms c a b f e k x y = λ z i h g ch. subst (λ p. Allows r i p) (sym (e z)) (k i (holds z a) (holds z b) (x z i h g ch) (y z i h g ch))

-- conditions one by one
all-both : (p : CondTree → Bool) (xs : List CondTree) (y : CondTree) → list_all p (xs ++ y ∷ []) ≡ true → (list_all p xs ≡ true) × (p y ≡ true)
all-both p [] y e = (refl, first (p y) true e)
all-both p (x ∷ xs) y e =
    let rest = all-both p xs y (second (p x) (list_all p (xs ++ y ∷ [])) e) in
    (both (p x) (list_all p xs) (first (p x) (list_all p (xs ++ y ∷ [])) e) rest.0, rest.1)

pub all-more : (z : Sizing) (conds : List Cond) (i : ℕ) (x : Cond) → i < length conds → x ≡ get_or conds i x → list_all (holds z) (map cond_tree (take (i + 1) conds)) ≡ true → (list_all (holds z) (map cond_tree (take i conds)) ≡ true) × (holds z (cond_tree x) ≡ true)
all-more z conds i x h e all =
    let more : take (i + 1) conds ≡ take i conds ++ x ∷ [] = rw (← e) at (take_more conds i x h) in
    all-both (holds z) (map cond_tree (take i conds)) (cond_tree x) (rw (more, map-append cond_tree (take i conds) (x ∷ [])) at all)

-- blocks one by one
pub more-vain : (P : ℕ → Type 0) (n : ℕ) → ((b : ℕ) → b < n → P b) → P n → (b : ℕ) → b < n + 1 → P b
more-vain P n old new b h =
    ⊎_elim
    (λ (l : b < n). old b l)
    (λ (l : n ≤ b). let e : b ≡ n = omega (arith, h, l) in subst P (sym e) new)
    (cases_lt b n)

vain : (p g : Bool) (y n i : ℕ) → (p ≡ true → bit_at y i ≡ 1) → (g ≡ false → bit_at n i ≡ 1) → bit_and y n ≡ 0 → (not p || g) ≡ true
vain false g y n i f h e = refl
vain true true y n i f h e = refl
vain true false y n i f h e =
    let one : bit_at (bit_and y n) i ≡ 1 = and-ones y n i (f refl) (h refl) in
    let zero : bit_at (bit_and y n) i ≡ 0 = ap (λ x. bit_at x i) e ∙ bit_at-zero i in
    absurd (omega (arith, one, zero))

pub vain-block : (q : QueryTree) (s : List Spot) (atoms : List Atom) (block y : ℕ) (m : May)
    → ((z : Sizing) (i : ℕ) → i < 64 → Agrees z s atoms → IsChoice z (block * 64 + i) → list_all (holds z) q.hyps ≡ true → bit_at y i ≡ 1)
    → AllowsAll m block s atoms q.goal → bit_and y m.no ≡ 0 → IsVain block s atoms q
vain-block q s atoms block y m hyps goal e z i h a ch = vain (list_all (holds z) q.hyps) (holds z q.goal) y m.no i (hyps z i h a ch) (goal z i h a ch).1 e

power-split : (n : ℕ) → 6 ≤ n → 2 ^ n ≡ 2 ^ (n - 6) * 64
power-split n h = let e : n ≡ (n - 6) + 6 = omega (arith, h) in ap (λ k. 2 ^ k) e ∙ pow-add 2 (n - 6) 6

few : (n m : ℕ) → n ≤ m → 2 ^ n ≤ 2 ^ m
few n m h = pow-le-pow_right (omega arith) h

block-below : (n c : ℕ) → c < 2 ^ n → c / 64 < 2 ^ (n - 6)
block-below n c h =
    ⊎_elim
    (λ (l : n < 6). omega (arith, h, few n 6 (omega (arith, l)), one-le-pow (n - 6) 2 (omega arith)))
    (λ (l : 6 ≤ n). omega (arith, h, power-split n l))
    (cases_lt n 6)

pub vain-none : (q : QueryTree) (s : List Spot) (atoms : List Atom) → ((block : ℕ) → block < 2 ^ (q.flags - 6) → IsVain block s atoms q) → NoneLeft q s atoms
vain-none q s atoms vain z left =
    let n : ℕ = number_of z.flags in
    let small : n < 2 ^ q.flags = subst (λ k. n < 2 ^ k) left.fits.flags (number_below z.flags) in
    let whole : (n / 64) * 64 + n % 64 ≡ n = shr_split n 6 in
    let choice : IsChoice z ((n / 64) * 64 + n % 64) = subst (λ x. IsChoice z x) (sym whole) (choice_of z) in
    vain (n / 64) (block-below q.flags n small) z (n % 64) (mod_below n 64 (omega arith)) (agrees z s atoms left.placed left.met) choice
