-- Nodes at which trees stand.
use Rattle.std.proofs.Common.{◌≡◌, refl, sym, ap, ◌∙◌, ℕ, zero, suc, ◌<◌, ◌+◌, Bool, true, false, ◌||◌, if◌then◌else◌, List, [], ◌∷◌, ◌++◌, append_assoc, drop, map, length, slice_get, Some, None, nat_eq, arith}
use Rattle.std.proofs.lemmas.Bool.{eq-eqb}
use Rattle.std.specs.Prelude.{filter}
use Rattle.std.specs.List.{list_any}
use Rattle.std.proofs.lemmas.List.{drop_more}
use Rattle.std.proofs.lemmas.Option.{slice_get_within, get_or_from_slice_get}
use Rattle.jh_form.specs.Tree.{ValueTree}
use Rattle.jh_arena.specs.table.Entries.{the_value}
use Rattle.jh_arena.specs.table.Growth.{Grows}
use Rattle.jh_query_names.specs.query_names.Kinds.{value_at}
use Rattle.jh_query_names.specs.query_names.Finding.{values_at, has_node}
use Rattle.jh_query_names.specs.mentioned_names.Notes.{AreTrees, AreInside}

pub head-same : {X : Type 0} (x y : X) (xs ys : List X) → x ∷ xs ≡ y ∷ ys → x ≡ y
head-same x y xs ys e = cc

pub rest-same : {X : Type 0} (x y : X) (xs ys : List X) → x ∷ xs ≡ y ∷ ys → xs ≡ ys
rest-same x y xs ys e = cc

nothing-some : {X : Type 0} (x : X) (xs : List X) → [] ≡ x ∷ xs → ⊥
nothing-some x xs e = cc

none-some : {X : Type 0} (x : X) → None ≡ Some x → ⊥
none-some x e = cc

pub value-of : (ts : List ValueTree) (n : ℕ) → n < length ts → slice_get ts n ≡ Some (value_at ts n)
unfolding the_value
value-of [] n lt = absurd (omega arith)
value-of (v ∷ ts) zero lt = refl
value-of (v ∷ ts) (suc n) lt = value-of ts n (omega arith)

pub value-is : (ts : List ValueTree) (n : ℕ) (v : ValueTree) → slice_get ts n ≡ Some v → value_at ts n ≡ v
unfolding the_value
value-is ts n v e = ap the_value e

-- the trees at nodes stand there in a longer list
pub trees-grow : (ts us : List ValueTree) → Grows ts us → (ns : List ℕ) (vs : List ValueTree) → AreTrees ts ns vs → AreTrees us ns vs
trees-grow ts us g [] [] h = refl
trees-grow ts us g [] (v ∷ vs) h = absurd (nothing-some (Some v) (map (λ w. Some w) vs) h)
trees-grow ts us g (n ∷ ns) [] h = absurd (nothing-some (slice_get ts n) (map (slice_get ts) ns) (sym h))
trees-grow ts us g (n ∷ ns) (v ∷ vs) h = λ i.
    g.keeps n v (head-same (slice_get ts n) (Some v) (map (slice_get ts) ns) (map (λ w. Some w) vs) h) i
    ∷ trees-grow ts us g ns vs (rest-same (slice_get ts n) (Some v) (map (slice_get ts) ns) (map (λ w. Some w) vs) h) i

-- the trees at nodes of a table
pub values-are : (ts : List ValueTree) (ns : List ℕ) → ((n : ℕ) → has_node ns n ≡ true → n < length ts) → AreTrees ts ns (values_at ts ns)
values-are ts [] h = refl
values-are ts (n ∷ ns) h = λ i.
    value-of ts n (h n (λ j. eq-eqb n n refl j || has_node ns n)) i ∷ values-are ts ns (λ m k. h m (behind (nat_eq m n) (has_node ns m) k)) i
  where
    behind : (p q : Bool) → q ≡ true → (p || q) ≡ true
    behind true q h = refl
    behind false q h = h

pub trees-inside : (ts : List ValueTree) (ns : List ℕ) (vs : List ValueTree) → AreTrees ts ns vs → AreInside ts ns
trees-inside ts [] vs h i n at = absurd (none-some n at)
trees-inside ts (m ∷ ns) [] h i n at = absurd (nothing-some (slice_get ts m) (map (slice_get ts) ns) (sym h))
trees-inside ts (m ∷ ns) (v ∷ vs) h zero n at = slice_get_within ts n v (ap (slice_get ts) (sym (the-some m n at)) ∙ head-same (slice_get ts m) (Some v) (map (slice_get ts) ns) (map (λ w. Some w) vs) h)
  where
    the-some : (k l : ℕ) → Some k ≡ Some l → k ≡ l
    the-some k l e = cc
trees-inside ts (m ∷ ns) (v ∷ vs) h (suc i) n at = trees-inside ts ns vs (rest-same (slice_get ts m) (Some v) (map (slice_get ts) ns) (map (λ w. Some w) vs) h) i n at

-- ---- tests that go along a list

drop-next : (xs : List ℕ) (i x : ℕ) → slice_get xs i ≡ Some x → drop i xs ≡ x ∷ drop (i + 1) xs
drop-next xs i x at = drop_more xs i x (slice_get_within xs i x at) ∙ ap (λ y. y ∷ drop (i + 1) xs) (get_or_from_slice_get xs i x x at)

module _ (f : ℕ → Bool) (xs : List ℕ) (i n : ℕ) where
  pub any-found : (b : Bool) → slice_get xs i ≡ Some n → b ≡ f n → b ≡ true → list_any f (drop i xs) ≡ list_any f xs → true ≡ list_any f xs
  any-found b at e holds h = sym (ap (list_any f) (drop-next xs i n at) ∙ ap (λ c. c || list_any f (drop (i + 1) xs)) (sym e ∙ holds)) ∙ h

  pub any-passed : (b : Bool) → slice_get xs i ≡ Some n → b ≡ f n → b ≡ false → list_any f (drop i xs) ≡ list_any f xs → list_any f (drop (i + 1) xs) ≡ list_any f xs
  any-passed b at e fails h = sym (ap (list_any f) (drop-next xs i n at) ∙ ap (λ c. c || list_any f (drop (i + 1) xs)) (sym e ∙ fails)) ∙ h

  here : (made : List ℕ) (b : Bool) → slice_get xs i ≡ Some n → f n ≡ b → made ++ filter f (drop i xs) ≡ made ++ (if b then n ∷ filter f (drop (i + 1) xs) else filter f (drop (i + 1) xs))
  here made b at e = ap (λ ys. made ++ filter f ys) (drop-next xs i n at) ∙ ap (λ c. made ++ (if c then n ∷ filter f (drop (i + 1) xs) else filter f (drop (i + 1) xs))) e

  pub kept-more : (made more : List ℕ) → slice_get xs i ≡ Some n → f n ≡ true → more ≡ made ++ n ∷ [] → made ++ filter f (drop i xs) ≡ filter f xs → more ++ filter f (drop (i + 1) xs) ≡ filter f xs
  kept-more made more at holds e h = ap (λ ys. ys ++ filter f (drop (i + 1) xs)) e ∙ append_assoc made (n ∷ []) (filter f (drop (i + 1) xs)) ∙ sym (here made true at holds) ∙ h

  pub kept-none : (made : List ℕ) → slice_get xs i ≡ Some n → f n ≡ false → made ++ filter f (drop i xs) ≡ filter f xs → made ++ filter f (drop (i + 1) xs) ≡ filter f xs
  kept-none made at fails h = sym (here made false at fails) ∙ h
