-- What stands at places of lists of nodes.
use Rattle.std.proofs.Common.{◌≡◌, refl, sym, ap, subst, ◌∙◌, ℕ, zero, suc, ◌+◌, ◌<◌, List, [], ◌∷◌, ◌++◌, map, take, drop, length, slice_get, Option, Some, None, IfSome, position, nat_eq, add-one}
use Rattle.std.proofs.lemmas.List.{take_more, drop_more}
use Rattle.std.proofs.lemmas.Option.{slice_get_within, get_or_from_slice_get}
use Rattle.std.proofs.lemmas.Bool.{eqb-true, eq-eqb}
use Rattle.jh_form.specs.Tree.{ValueTree}
use Rattle.jh_arena.proofs.table.Keys.{position-found, stands-not}
use Rattle.jh_local_form.specs.updates.Updating.{AreValues}

pub some-same : {X : Type 0} (x y : X) → Some x ≡ Some y → x ≡ y
some-same x y e = cc

none-some : {X : Type 0} (x : X) → None ≡ Some x → ⊥
none-some x e = cc

-- one more of the first items of a list, and of the last ones
pub take-next : {X : Type 0} (xs : List X) (i : ℕ) (x : X) → slice_get xs i ≡ Some x → take (i + 1) xs ≡ take i xs ++ x ∷ []
take-next xs i x at = take_more xs i x (slice_get_within xs i x at) ∙ ap (λ y. take i xs ++ y ∷ []) (get_or_from_slice_get xs i x x at)

pub drop-next : {X : Type 0} (xs : List X) (i : ℕ) (x : X) → slice_get xs i ≡ Some x → drop i xs ≡ x ∷ drop (i + 1) xs
drop-next xs i x at = drop_more xs i x (slice_get_within xs i x at) ∙ ap (λ y. y ∷ drop (i + 1) xs) (get_or_from_slice_get xs i x x at)

pub map-next : {X Y : Type 0} (f : X → Y) (xs : List X) (i : ℕ) (x : X) → slice_get xs i ≡ Some x → map f (take (i + 1) xs) ≡ map f (take i xs) ++ f x ∷ []
map-next f [] i x at = absurd (none-some x at)
map-next f (y ∷ xs) zero x at = ap (λ z. f z ∷ []) (some-same y x at)
map-next f (y ∷ xs) (suc i) x at = ap (λ k. map f (take k (y ∷ xs))) (add-one (suc i)) ∙ ap (λ zs. f y ∷ zs) (ap (λ k. map f (take k xs)) (sym (add-one i)) ∙ map-next f xs i x at)

pub map-at : {X Y : Type 0} (f : X → Y) (xs : List X) (i : ℕ) (x : X) → slice_get xs i ≡ Some x → slice_get (map f xs) i ≡ Some (f x)
map-at f [] i x at = absurd (none-some x at)
map-at f (y ∷ xs) zero x at = ap (λ z. Some (f z)) (some-same y x at)
map-at f (y ∷ xs) (suc i) x at = map-at f xs i x at

module _ (ts : List ValueTree) where
  -- the value at a place of a list of nodes
  pub value-at : (ns : List ℕ) (vs : List ValueTree) (i n : ℕ) → AreValues ts ns vs → slice_get ns i ≡ Some n → (v : ValueTree) × (slice_get vs i ≡ Some v) × (slice_get ts n ≡ Some v)
  unfolding AreValues
  value-at [] vs i n h at = absurd (none-some n at)
  value-at (m ∷ ns) [] i n h at = absurd h
  value-at (m ∷ ns) (v ∷ vs) zero n h at = (v, refl, ap (slice_get ts) (sym (some-same m n at)) ∙ h.0)
  value-at (m ∷ ns) (v ∷ vs) (suc i) n h at = value-at ns vs i n h.1 at

  -- the node at a place of a list of values
  pub node-of : (ns : List ℕ) (vs : List ValueTree) (i : ℕ) (v : ValueTree) → AreValues ts ns vs → slice_get vs i ≡ Some v → (n : ℕ) × (slice_get ns i ≡ Some n) × (slice_get ts n ≡ Some v)
  unfolding AreValues
  node-of [] [] i v h at = absurd (none-some v at)
  node-of [] (w ∷ vs) i v h at = absurd h
  node-of (m ∷ ns) [] i v h at = absurd h
  node-of (m ∷ ns) (w ∷ vs) zero v h at = (m, refl, h.0 ∙ at)
  node-of (m ∷ ns) (w ∷ vs) (suc i) v h at = node-of ns vs i v h.1 at

  pub values-length : (ns : List ℕ) (vs : List ValueTree) → AreValues ts ns vs → length vs ≡ length ns
  unfolding AreValues
  values-length [] [] h = refl
  values-length [] (v ∷ vs) h = absurd h
  values-length (n ∷ ns) [] h = absurd h
  values-length (n ∷ ns) (v ∷ vs) h = ap suc (values-length ns vs h.1)

  pub values-none : (ns : List ℕ) → ns ≡ [] → AreValues ts ns []
  unfolding AreValues
  values-none ns e = subst (λ (ms : List ℕ). AreValues ts ms []) (sym e) tt

-- ---- places that were looked for

module _ (ns : List ℕ) (n : ℕ) where
  pub found-some : (o : Option ℕ) → o ≡ position (nat_eq n) ns → IfSome o (λ i. slice_get ns i ≡ Some n)
  found-some (Some i) e = position-found nat_eq eqb-true (λ k. eq-eqb k k refl) ns i n e
  found-some None e = tt

  pub found-none : (o : Option ℕ) → o ≡ position (nat_eq n) ns → o ≡ None → (i : ℕ) → slice_get ns i ≡ Some n → ⊥
  found-none o e none i at = stands-not nat_eq eqb-true (λ k. eq-eqb k k refl) ns i n (sym none ∙ e) at
