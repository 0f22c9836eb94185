-- Lists that a loop goes through from behind.
use Rattle.std.proofs.Common.{◌++◌, take, add-one, ◌≡◌, sym, ap, ◌∙◌, ℕ, zero, suc, ◌+◌, ◌-◌, ◌≤◌, ◌<◌, List, [], ◌∷◌, length, drop, get_or, arith}
use Rattle.std.proofs.lemmas.List.{drop_all, take_all}
use Rattle.jh_symbols.proofs.scopes.Lists.{drop-at}

module _ {A : Type 0} where
  -- what a loop has gone through
  abbrev pub behind : List A → ℕ → List A
  behind xs back = drop (length xs - back) xs

  pub behind-start : (xs : List A) → behind xs 0 ≡ []
  behind-start xs = drop_all (length xs - 0) xs (omega arith)

  pub behind-next : (xs : List A) (back index : ℕ) (a : A) → index + back + 1 ≡ length xs → a ≡ get_or xs index a → behind xs (back + 1) ≡ a ∷ behind xs back
  behind-next xs back index a e is =
      let here : length xs - (back + 1) ≡ index = omega arith in
      let next : index + 1 ≡ length xs - back = omega arith in
      ap (λ n. drop n xs) here ∙ drop-at xs index a (omega arith) is ∙ ap (λ n. a ∷ drop n xs) next

  pub behind-end : (xs : List A) (back : ℕ) → length xs ≤ back → behind xs back ≡ xs
  behind-end xs back le =
      let none : length xs - back ≡ 0 = omega arith in
      ap (λ n. drop n xs) none

  take-suc : (xs : List A) (i : ℕ) (a : A) → i < length xs → a ≡ get_or xs i a → take (suc i) xs ≡ take i xs ++ a ∷ []
  take-suc [] i a lt is = absurd (omega arith)
  take-suc (x ∷ xs) zero a lt is = ap (λ y. y ∷ []) (sym is)
  take-suc (x ∷ xs) (suc i) a lt is = ap (λ ys. x ∷ ys) (take-suc xs i a (omega arith) is)

  pub take-next : (xs : List A) (i : ℕ) (a : A) → i < length xs → a ≡ get_or xs i a → take (i + 1) xs ≡ take i xs ++ a ∷ []
  take-next xs i a lt is = ap (λ n. take n xs) (add-one i) ∙ take-suc xs i a lt is

  pub take-whole : (xs : List A) (i : ℕ) → length xs ≤ i → take i xs ≡ xs
  take-whole xs i le = take_all i xs le
