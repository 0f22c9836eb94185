-- Tests of lists that are made of parts.
use Rattle.std.proofs.Common.{arith, ◌-◌, take, ◌≡◌, refl, sym, ap, ◌∙◌, ℕ, ◌+◌, ◌≤◌, ◌<◌, ◌||◌, Bool, true, false, List, [], ◌∷◌, ◌++◌, length, drop, get_or, Option, Some, None}
use Rattle.std.specs.List.{list_any, flat_map}
use Rattle.std.specs.Option.{option_map_or}
use Rattle.std.proofs.lemmas.List.{drop_all, take_all, length-drop}
use Rattle.jh_rules.specs.declared.entries.StateEntry.{StateEntry}
use Rattle.jh_rules.specs.Rules.{same_state, has_twice}
use Rattle.jh_symbols.proofs.scopes.Lists.{drop-at}

or-false : (a : Bool) → a || false ≡ a
or-false true = refl
or-false false = refl

or-assoc : (a b c : Bool) → (a || b) || c ≡ a || (b || c)
or-assoc true b c = refl
or-assoc false b c = refl

module _ {A B : Type 0} (t : B → Bool) (g : A → List B) where
  any-append : (xs ys : List B) → list_any t (xs ++ ys) ≡ list_any t xs || list_any t ys
  any-append [] ys = refl
  any-append (x ∷ xs) ys = ap (λ b. t x || b) (any-append xs ys) ∙ sym (or-assoc (t x) (list_any t xs) (list_any t ys))

  pub or-next : (xs : List A) (i : ℕ) (x : A) (found new : Bool) → i < length xs → x ≡ get_or xs i x → new ≡ found || list_any t (g x) → new || list_any t (flat_map g (drop (i + 1) xs)) ≡ found || list_any t (flat_map g (drop i xs))
  or-next xs i x found new lt is n =
      ap (λ b. b || list_any t (flat_map g (drop (i + 1) xs))) n ∙ or-assoc found (list_any t (g x)) (list_any t (flat_map g (drop (i + 1) xs)))
      ∙ ap (λ b. found || b) (sym (any-append (g x) (flat_map g (drop (i + 1) xs)))) ∙ ap (λ ys. found || list_any t (flat_map g ys)) (sym (drop-at xs i x lt is))

  pub or-end : (xs : List A) (i : ℕ) (found : Bool) → length xs ≤ i → found || list_any t (flat_map g (drop i xs)) ≡ found
  or-end xs i found le = ap (λ ys. found || list_any t (flat_map g ys)) (drop_all i xs le) ∙ or-false found

pub some-of : {B : Type 0} (t : B → Bool) (x : B) → list_any t (x ∷ []) ≡ t x
some-of t x = or-false (t x)

abbrev named : List ℕ → Option StateEntry → List (StateEntry × List ℕ)
named x o = option_map_or (λ s. (s, x) ∷ []) o []

abbrev again : List ℕ → Option StateEntry → List (StateEntry × List ℕ) → Bool
again x o rest = option_map_or (λ s. list_any (same_state (s, x)) rest) o false

one-name : (x : List ℕ) (o : Option StateEntry) (rest : List (StateEntry × List ℕ)) → has_twice (named x o ++ rest) ≡ again x o rest || has_twice rest
unfolding has_twice
one-name x None rest = refl
one-name x (Some s) rest = refl

module _ {A : Type 0} (name : A → List ℕ) (state : A → Option StateEntry) where
  abbrev states : List A → List (StateEntry × List ℕ)
  states xs = flat_map (λ x. named (name x) (state x)) xs

  pub twice-next : (xs : List A) (i : ℕ) (x : A) (found new : Bool) → i < length xs → x ≡ get_or xs i x → new ≡ found || again (name x) (state x) (states (drop (i + 1) xs)) → new || has_twice (states (drop (i + 1) xs)) ≡ found || has_twice (states (drop i xs))
  twice-next xs i x found new lt is n =
      ap (λ b. b || has_twice (states (drop (i + 1) xs))) n ∙ or-assoc found (again (name x) (state x) (states (drop (i + 1) xs))) (has_twice (states (drop (i + 1) xs)))
      ∙ ap (λ b. found || b) (sym (one-name (name x) (state x) (states (drop (i + 1) xs)))) ∙ ap (λ ys. found || has_twice (states ys)) (sym (drop-at xs i x lt is))

  pub twice-end : (xs : List A) (i : ℕ) (found : Bool) → length xs ≤ i → found || has_twice (states (drop i xs)) ≡ found
  unfolding has_twice
  twice-end xs i found le = ap (λ ys. found || has_twice (states ys)) (drop_all i xs le) ∙ or-false found

pub same-none : (t : StateEntry × List ℕ → Bool) (x : List ℕ) (o : Option StateEntry) → o ≡ None → list_any t (named x o) ≡ false
same-none t x o e = ap (λ p. list_any t (named x p)) e

pub same-some : (t : StateEntry × List ℕ → Bool) (x : List ℕ) (o : Option StateEntry) (s : StateEntry) → o ≡ Some s → list_any t (named x o) ≡ t (s, x)
same-some t x o s e = ap (λ p. list_any t (named x p)) e ∙ or-false (t (s, x))

pub rest-taken : {A : Type 0} (i : ℕ) (xs : List A) → take (length xs - i) (drop i xs) ≡ drop i xs
rest-taken i xs =
    let long : length (drop i xs) ≡ length xs - i = length-drop i xs in
    take_all (length xs - i) (drop i xs) (omega arith)
