-- A row's two sides, compared layer by layer.
use Rattle.std.proofs.Common.{◌≡◌, ℕ, suc, ◌+◌, ◌*◌, ◌/◌, ◌%◌, ◌≤◌, ◌<◌, ◌↔◌, List, [], ◌∷◌, Bool, length, get_or, drop, ℤ, refl, ap, ◌∙◌, arith, add-one, drop-cons, eqb, rules}
use Rattle.std.specs.Prelude.{IsTrue}
use Rattle.std.proofs.lemmas.List.{get_or_default}
use Rattle.jh_digits.specs.systems.Solution.{weighted, spelled}
use Rattle.jh_digits.specs.systems.Nodes.{plus, minus}
use Rattle.jh_digits.specs.systems.Totals.{plus_total, minus_total, digit}
use Rattle.jh_digits.proofs.systems.Sums.{plus_total-split, minus_total-split, plus_total-zero, minus_total-zero, equal_parts}
use Rattle.std.proofs.Math.ListN.{drop_of_length-le}

-- what is left of a row from a layer on agrees with what both sides carry
abbrev pub Agrees : (ℕ → ℤ) → ℕ → List (List Bool) → ℕ → ℕ → Type 0
Agrees e n layers left right = plus_total e (spelled layers) n + left ≡ minus_total e (spelled layers) n + right

halves : (p m dp dm wp wm left right : ℕ) → p ≡ dp + 2 * wp → m ≡ dm + 2 * wm → (left + dp) % 2 ≡ (right + dm) % 2 → (p + left ≡ m + right) ↔ (wp + (left + dp) / 2 ≡ wm + (right + dm) / 2)
halves p m dp dm wp wm left right e f g = (λ h. omega arith, λ h. omega arith)

unlike : (p m dp dm wp wm left right : ℕ) → p ≡ dp + 2 * wp → m ≡ dm + 2 * wm → p + left ≡ m + right → (left + dp) % 2 ≡ (right + dm) % 2
unlike p m dp dm wp wm left right e f g = omega arith

plus_layer : (e : ℕ → ℤ) (n : ℕ) (layer : List Bool) (layers : List (List Bool)) → plus_total e (spelled (layer ∷ layers)) n ≡ plus_total e (digit layer) n + 2 * plus_total e (spelled layers) n
plus_layer e n layer layers = plus_total-split e _ (digit layer) (spelled layers) n (λ j _. refl)

minus_layer : (e : ℕ → ℤ) (n : ℕ) (layer : List Bool) (layers : List (List Bool)) → minus_total e (spelled (layer ∷ layers)) n ≡ minus_total e (digit layer) n + 2 * minus_total e (spelled layers) n
minus_layer e n layer layers = minus_total-split e _ (digit layer) (spelled layers) n (λ j _. refl)

pub agrees_step : (e : ℕ → ℤ) (n : ℕ) (layers : List (List Bool)) (i left right : ℕ) → i < length layers
    → (left + plus_total e (digit (get_or layers i [])) n) % 2 ≡ (right + minus_total e (digit (get_or layers i [])) n) % 2
    → Agrees e n (drop i layers) left right ↔ Agrees e n (drop (i + 1) layers) ((left + plus_total e (digit (get_or layers i [])) n) / 2) ((right + minus_total e (digit (get_or layers i [])) n) / 2)
agrees_step e n layers i left right h g =
    rw (add-one i, drop-cons layers i [] h)
    (halves _ _ _ _ _ _ left right (plus_layer e n (get_or layers i []) (drop (suc i) layers)) (minus_layer e n (get_or layers i []) (drop (suc i) layers)) g)

pub agrees_parity : (e : ℕ → ℤ) (n : ℕ) (layers : List (List Bool)) (i left right : ℕ) → i < length layers
    → Agrees e n (drop i layers) left right
    → (left + plus_total e (digit (get_or layers i [])) n) % 2 ≡ (right + minus_total e (digit (get_or layers i [])) n) % 2
agrees_parity e n layers i left right h a =
    let b = rw (drop-cons layers i [] h) at a in
    unlike _ _ _ _ (plus_total e (spelled (drop (suc i) layers)) n) (minus_total e (spelled (drop (suc i) layers)) n) left right (plus_layer e n (get_or layers i []) (drop (suc i) layers)) (minus_layer e n (get_or layers i []) (drop (suc i) layers)) b

at_end : (p m left right : ℕ) → p ≡ 0 → m ≡ 0 → (p + left ≡ m + right) ↔ (left ≡ right)
at_end p m left right e f = (λ h. omega arith, λ h. omega arith)

pub agrees_end : (e : ℕ → ℤ) (n : ℕ) (layers : List (List Bool)) (i left right : ℕ) → length layers ≤ i → Agrees e n (drop i layers) left right ↔ (left ≡ right)
agrees_end e n layers i left right h =
    rw (drop_of_length-le layers h)
    (at_end _ _ left right (plus_total-zero e (λ _. 0) n (λ _ _. refl)) (minus_total-zero e (λ _. 0) n (λ _ _. refl)))

compose : {P Q R : Type 0} → P ↔ Q → Q ↔ R → P ↔ R
compose f g = (λ p. g.0 (f.0 p), λ r. f.1 (g.1 r))

-- before the first layer both sides carry the right side's two parts
pub layers_start : (e : ℕ → ℤ) (n : ℕ) (layers : List (List Bool)) (c : ℤ) (left right : ℕ) → left ≡ minus c → right ≡ plus c
    → (weighted e (spelled layers) n ≡ c) ↔ Agrees e n layers left right
layers_start e n layers c left right f g = rw (f, g) (equal_parts e (spelled layers) n c)

item_is : (layers : List (List Bool)) (i : ℕ) (item : List Bool) → i < length layers → item ≡ get_or layers i item → item ≡ get_or layers i []
item_is layers i item h e = e ∙ get_or_default layers i item [] h

pub layers_more : (P : Type 0) (e : ℕ → ℤ) (n : ℕ) (layers : List (List Bool)) (i left right dp dm : ℕ) (item : List Bool) → i < length layers → item ≡ get_or layers i item
    → dp ≡ plus_total e (digit item) n → dm ≡ minus_total e (digit item) n → (left + dp) % 2 ≡ (right + dm) % 2
    → P ↔ Agrees e n (drop i layers) left right
    → P ↔ Agrees e n (drop (i + 1) layers) ((left + dp) / 2) ((right + dm) / 2)
layers_more P e n layers i left right dp dm item h is f g even p =
    let at = item_is layers i item h is in
    let f' : dp ≡ plus_total e (digit (get_or layers i [])) n = f ∙ ap (λ x. plus_total e (digit x) n) at in
    let g' : dm ≡ minus_total e (digit (get_or layers i [])) n = g ∙ ap (λ x. minus_total e (digit x) n) at in
    let even' = rw (f', g') at even in
    rw (f', g') (compose p (agrees_step e n layers i left right h even'))

-- two sides of unlike parity are never equal
pub layers_unlike : (P : Type 0) (e : ℕ → ℤ) (n : ℕ) (layers : List (List Bool)) (i left right dp dm : ℕ) (item : List Bool) → i < length layers → item ≡ get_or layers i item
    → dp ≡ plus_total e (digit item) n → dm ≡ minus_total e (digit item) n
    → P ↔ Agrees e n (drop i layers) left right
    → P → (left + dp) % 2 ≡ (right + dm) % 2
layers_unlike P e n layers i left right dp dm item h is f g p x =
    let at = item_is layers i item h is in
    let f' : dp ≡ plus_total e (digit (get_or layers i [])) n = f ∙ ap (λ y. plus_total e (digit y) n) at in
    let g' : dm ≡ minus_total e (digit (get_or layers i [])) n = g ∙ ap (λ y. minus_total e (digit y) n) at in
    rw (f', g') (agrees_parity e n layers i left right h (p.0 x))

pub layers_end : (P : Type 0) (e : ℕ → ℤ) (n : ℕ) (layers : List (List Bool)) (i left right : ℕ) → length layers ≤ i
    → P ↔ Agrees e n (drop i layers) left right → P ↔ (left ≡ right)
layers_end P e n layers i left right h p = compose p (agrees_end e n layers i left right h)

pub tested : (P : Type 0) (x y : ℕ) → P ↔ (x ≡ y) → IsTrue (eqb x y) ↔ P
tested P x y p = (λ t. p.1 (search rules), λ h. let e : x ≡ y = p.0 h in search rules)
