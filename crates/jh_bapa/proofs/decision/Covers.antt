-- Any sizes meet an atom in one of its cases.
use Rattle.std.proofs.Common.{◌≡◌, refl, ℕ, zero, suc, ◌+◌, ◌*◌, ◌-◌, ◌/◌, ◌%◌, ◌<◌, ◌≤◌, ◌==◌, Bool, true, false, if◌then◌else◌, List, [], ◌∷◌, Option, Some, None, ℤ, pos, negsuc, ◌+ℤ◌, ◌-ℤ◌, ◌*ℤ◌, neg_ℤ, ap, sym, ◌∙◌, arith, ◌⊎◌, inl, inr}
use Rattle.std.specs.Prelude.{unsigned_abs}
use Rattle.std.proofs.lemmas.Bool.{cases_eq, lt-ltb, ltb-true}
use Rattle.std.proofs.lemmas.Int.{ints}
use Rattle.std.proofs.Math.IntN.{zero-*ℤ, pos-*ℤ-pos}
use Rattle.std.proofs.Math.Nat.{div-add-mod, mod-lt}
use Rattle.jh_query.specs.queries.Named.{is_divisor}
use Rattle.jh_query.specs.queries.Tree.{NumTree, CondTree}
use Rattle.jh_query.specs.queries.Tree as t
use Rattle.jh_query.specs.queries.Sizing.{Sizing}
use Rattle.jh_query.specs.queries.Truth.{holds, number_value}
use Rattle.jh_query.proofs.queries.Products.{neg-times}
use Rattle.jh_query.specs.declared.partial_truth.casing.Case.{Case}
use Rattle.jh_query.specs.declared.partial_truth.casing.Case.TheVariants.{Open, True, False, Greater, Remainder}
use Rattle.jh_query.specs.partial_truth.Judged.{case_truth}
use Rattle.jh_bapa.specs.decision.Cases.{LineMet, LineTree, Met, case_at, case_count, is_case_of, line_of}
use Rattle.jh_bapa.specs.decision.Counted.{has_divisor}
use Rattle.jh_bapa.proofs.decision.Belows.{sure}
use Rattle.jh_bapa.proofs.decision.Truths.{divides-truth, equal-truth, less-truth, less_times, one_times, some-is}

abbrev pub Covered : Sizing → CondTree → Type 0
Covered z c = (n : ℕ) × (n < case_count c) × Met z c (case_at c n)

plain : (z : Sizing) (c : CondTree) (k : Case) (b : Bool) → is_case_of c k ≡ true → line_of c k ≡ None → ((x : Bool) → case_truth k ≡ Some x → b ≡ x) → holds z c ≡ b → Met z c k
plain z c k b s l h e = record { suits = s; truth = λ x f. e ∙ h x f; line = (λ j. 0, rw l tt) }

two_cases : (z : Sizing) (c : CondTree) → case_count c ≡ 2 → case_at c 0 ≡ True → case_at c 1 ≡ False → is_case_of c True ≡ true → is_case_of c False ≡ true → line_of c True ≡ None → line_of c False ≡ None → Covered z c
two_cases z c n f g s u l m =
    elim (sure (holds z c)) [
      | inl e ↦ (0, rw n (omega arith), rw f (plain z c True true s l (λ x h. some-is true x h) e))
      | inr e ↦ (1, rw n (omega arith), rw g (plain z c False false u m (λ x h. some-is false x h) e))
    ]

equal_case : (z : Sizing) (a b : NumTree) (d : ℤ) → number_value z a -ℤ number_value z b ≡ d → Covered z (t.equal_num a b)
equal_case z a b (pos zero) e =
    let line : LineMet z (line_of (t.equal_num a b) True) (λ j. 0) 0 = omega (arith, ints, e, zero-*ℤ (pos 0)) in
    (0, omega arith, record { suits = refl; truth = λ x f. equal-truth z a b (λ j. 0) 0 True x refl line f; line = (λ j. 0, line) })
equal_case z a b (pos (suc n)) e =
    let line : LineMet z (line_of (t.equal_num a b) Greater) (λ j. n) 0 = omega (arith, ints, e, less_times n) in
    (2, omega arith, record { suits = refl; truth = λ x f. equal-truth z a b (λ j. n) 0 Greater x refl line f; line = (λ j. n, line) })
equal_case z a b (negsuc n) e =
    let line : LineMet z (line_of (t.equal_num a b) False) (λ j. n) 0 = omega (arith, ints, e, one_times n) in
    (1, omega arith, record { suits = refl; truth = λ x f. equal-truth z a b (λ j. n) 0 False x refl line f; line = (λ j. n, line) })

less_case : (z : Sizing) (a b : NumTree) (d : ℤ) → number_value z a -ℤ number_value z b ≡ d → Covered z (t.less_num a b)
less_case z a b (pos n) e =
    let line : LineMet z (line_of (t.less_num a b) False) (λ j. n) 0 = omega (arith, ints, e, less_times n) in
    (1, omega arith, record { suits = refl; truth = λ x f. less-truth z a b (λ j. n) 0 False x refl line f; line = (λ j. n, line) })
less_case z a b (negsuc n) e =
    let line : LineMet z (line_of (t.less_num a b) True) (λ j. n) 0 = omega (arith, ints, e, one_times n) in
    (0, omega arith, record { suits = refl; truth = λ x f. less-truth z a b (λ j. n) 0 True x refl line f; line = (λ j. n, line) })

-- two numbers
abbrev two : ℕ → ℕ → ℕ → ℕ
two u w zero = u
two u w (suc j) = w

remains : (z : Sizing) (n : ℕ) (a : NumTree) (u w j : ℕ) → is_divisor (pos n) ≡ true → j < n → number_value z a +ℤ ((neg_ℤ (pos n) *ℤ pos u) +ℤ ((pos n *ℤ pos w) +ℤ pos 0)) ≡ pos j → Covered z (t.divides (pos n) a)
remains z n a u w j d h e =
    let suits : is_case_of (t.divides (pos n) a) (Remainder j) ≡ true = lt-ltb j n h in
    (j, h, record { suits = suits; truth = λ x f. divides-truth z (pos n) a (two u w) 0 (Remainder j) x d suits e f; line = (two u w, e) })

divide_case : (z : Sizing) (n : ℕ) (a : NumTree) (v : ℤ) → is_divisor (pos n) ≡ true → number_value z a ≡ v → Covered z (t.divides (pos n) a)
divide_case z n a (pos y) d e =
    let some : 0 < n = ltb-true 0 n d in
    remains z n a (y / n) 0 (y % n) d (mod-lt y some) (omega (arith, ints, e, neg-times (pos n) (pos (y / n)), pos-*ℤ-pos n (y / n), pos-*ℤ-pos n 0, div-add-mod y n))
divide_case z n a (negsuc y) d e =
    let some : 0 < n = ltb-true 0 n d in
    let low : suc y % n < n = mod-lt (suc y) some in
    elim (cases_eq (suc y % n) 0) [
      | inl f ↦ remains z n a 0 (suc y / n) 0 d some (omega (arith, ints, e, f, neg-times (pos n) (pos 0), pos-*ℤ-pos n 0, pos-*ℤ-pos n (suc y / n), div-add-mod (suc y) n))
      | inr f ↦
          let more : n * (suc y / n + 1) ≡ n * (suc y / n) + n = omega arith in
          remains z n a 0 (suc y / n + 1) (n - suc y % n) d (omega (arith, low, f)) (omega (arith, ints, e, low, more, neg-times (pos n) (pos 0), pos-*ℤ-pos n 0, pos-*ℤ-pos n (suc y / n + 1), div-add-mod (suc y) n))
    ]

pub covers : (z : Sizing) (c : CondTree) → has_divisor c ≡ true → Covered z c
covers z (t.equal_num a b) d = equal_case z a b (number_value z a -ℤ number_value z b) refl
covers z (t.less_num a b) d = less_case z a b (number_value z a -ℤ number_value z b) refl
covers z (t.divides (pos n) a) d = divide_case z n a (number_value z a) d refl
covers z (t.divides (negsuc n) a) d = cc
covers z t.yes d = two_cases z t.yes refl refl refl refl refl refl refl
covers z t.no d = two_cases z t.no refl refl refl refl refl refl refl
covers z (t.flag f) d = two_cases z (t.flag f) refl refl refl refl refl refl refl
covers z (t.same_element i j) d = two_cases z (t.same_element i j) refl refl refl refl refl refl refl
covers z (t.member i s) d = two_cases z (t.member i s) refl refl refl refl refl refl refl
covers z (t.equal_set a b) d = two_cases z (t.equal_set a b) refl refl refl refl refl refl refl
covers z (t.within a b) d = two_cases z (t.within a b) refl refl refl refl refl refl refl
covers z (t.negation a) d = two_cases z (t.negation a) refl refl refl refl refl refl refl
covers z (t.and a b) d = two_cases z (t.and a b) refl refl refl refl refl refl refl
covers z (t.or a b) d = two_cases z (t.or a b) refl refl refl refl refl refl refl
covers z (t.implies a b) d = two_cases z (t.implies a b) refl refl refl refl refl refl refl
covers z (t.iff a b) d = two_cases z (t.iff a b) refl refl refl refl refl refl refl
