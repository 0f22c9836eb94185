-- Lists, tests of their items, and lists that belong to one another place by place.
use Rattle.std.proofs.Common.{◌≡◌, refl, sym, ap, subst, ◌∙◌, ℕ, zero, suc, ◌+◌, Bool, true, false, not, ◌&&◌, ◌||◌, if◌then◌else◌, ◌⊎◌, inl, inr, List, [], ◌∷◌, ◌++◌, length, take, drop, ◌≤◌, slice_get, Some, None, nat_eq}
use Rattle.std.specs.Prelude.{filter}
use Rattle.std.specs.List.{list_any, list_all}
use Rattle.std.proofs.lemmas.Bool.{true≢false, eqb-true, eq-eqb}
use Rattle.std.proofs.lemmas.List.{take_more, drop_more, drop_all}
use Rattle.std.proofs.lemmas.List.Folds.{list_all-append}
use Rattle.std.proofs.lemmas.Option.{slice_get_within, get_or_from_slice_get}
use Rattle.indexmap.specs.IndexSet.{insert_key, insert_all}
use Rattle.jh_containers.specs.connected_component.Reaching.{IsReach}
use Rattle.jh_splitting.specs.Pairs.{ArePaired}

pub both-ways : (p q : Bool) → (p ≡ true → q ≡ true) → (q ≡ true → p ≡ true) → p ≡ q
both-ways true q h k = sym (h refl)
both-ways false true h k = k refl
both-ways false false h k = refl

pub either : (p q : Bool) → (p || q) ≡ true → (p ≡ true) ⊎ (q ≡ true)
either true q h = inl refl
either false q h = inr h

pub in-front : (p q : Bool) → p ≡ true → (p || q) ≡ true
in-front p q h = λ i. h i || q

pub behind : (p q : Bool) → q ≡ true → (p || q) ≡ true
behind true q h = refl
behind false q h = h

some-same : {X : Type 0} (x y : X) → Some x ≡ Some y → x ≡ y
some-same x y e = cc

none-some : {X : Type 0} (x : X) → None ≡ Some x → ⊥
none-some x e = cc

-- what stands at a place is one thing
pub one-there : {X : Type 0} (xs : List X) (i : ℕ) (x y : X) → slice_get xs i ≡ Some x → slice_get xs i ≡ Some y → x ≡ y
one-there xs i x y h k = some-same x y (sym h ∙ k)

-- ---- tests of the items of a list, by an equality

module _ {X : Type 0} (eq : X → X → Bool) (same : (x y : X) → eq x y ≡ true → x ≡ y) (self : (x : X) → eq x x ≡ true) where
  pub any-some : (p : X → Bool) (xs : List X) → list_any p xs ≡ true → (x : X) × (list_any (eq x) xs ≡ true) × (p x ≡ true)
  any-some p [] h = absurd (true≢false (sym h))
  any-some p (x ∷ xs) h =
      elim (either (p x) (list_any p xs) h) [
        | inl e ↦ (x, in-front (eq x x) (list_any (eq x) xs) (self x), e)
        | inr k ↦ let r = any-some p xs k in (r.0, behind (eq r.0 x) (list_any (eq r.0) xs) r.1, r.2)
      ]

  pub some-any : (p : X → Bool) (xs : List X) (x : X) → list_any (eq x) xs ≡ true → p x ≡ true → list_any p xs ≡ true
  some-any p [] x h k = absurd (true≢false (sym h))
  some-any p (y ∷ xs) x h k =
      elim (either (eq x y) (list_any (eq x) xs) h) [
        | inl e ↦ in-front (p y) (list_any p xs) (ap p (sym (same x y e)) ∙ k)
        | inr l ↦ behind (p y) (list_any p xs) (some-any p xs x l k)
      ]

  -- a test hangs on what is in a list alone
  pub any-within : (p : X → Bool) (xs ys : List X) → ((x : X) → list_any (eq x) xs ≡ true → list_any (eq x) ys ≡ true) → list_any p xs ≡ true → list_any p ys ≡ true
  any-within p xs ys h k = let r = any-some p xs k in some-any p ys r.0 (h r.0 r.1) r.2

  filter-step : (p : X → Bool) (y : X) (xs : List X) (x : X) (b : Bool) → p y ≡ b → (list_any (eq x) (filter p xs) ≡ true → (list_any (eq x) xs ≡ true) × (p x ≡ true)) →
      list_any (eq x) (if b then y ∷ filter p xs else filter p xs) ≡ true → ((eq x y || list_any (eq x) xs) ≡ true) × (p x ≡ true)
  filter-step p y xs x true e rest h =
      elim (either (eq x y) (list_any (eq x) (filter p xs)) h) [
        | inl k ↦ (in-front (eq x y) (list_any (eq x) xs) k, ap p (same x y k) ∙ e)
        | inr k ↦ (behind (eq x y) (list_any (eq x) xs) (rest k).0, (rest k).1)
      ]
  filter-step p y xs x false e rest h = (behind (eq x y) (list_any (eq x) xs) (rest h).0, (rest h).1)

  pub filter-in : (p : X → Bool) (xs : List X) (x : X) → list_any (eq x) (filter p xs) ≡ true → (list_any (eq x) xs ≡ true) × (p x ≡ true)
  filter-in p [] x h = absurd (true≢false (sym h))
  filter-in p (y ∷ xs) x h = filter-step p y xs x (p y) refl (filter-in p xs x) h

  chosen-in : (p : X → Bool) (y : X) (xs : List X) (x : X) (b : Bool) → p y ≡ b → p x ≡ true → (eq x y ≡ true) ⊎ (list_any (eq x) (filter p xs) ≡ true) → list_any (eq x) (if b then y ∷ filter p xs else filter p xs) ≡ true
  chosen-in p y xs x true e k (inl h) = in-front (eq x y) (list_any (eq x) (filter p xs)) h
  chosen-in p y xs x true e k (inr h) = behind (eq x y) (list_any (eq x) (filter p xs)) h
  chosen-in p y xs x false e k (inl h) = absurd (true≢false (sym k ∙ ap p (same x y h) ∙ e))
  chosen-in p y xs x false e k (inr h) = h

  pub in-filter : (p : X → Bool) (xs : List X) (x : X) → list_any (eq x) xs ≡ true → p x ≡ true → list_any (eq x) (filter p xs) ≡ true
  in-filter p [] x h k = absurd (true≢false (sym h))
  in-filter p (y ∷ xs) x h k =
      chosen-in p y xs x (p y) refl k (elim (either (eq x y) (list_any (eq x) xs) h) [ inl e ↦ inl e | inr l ↦ inr (in-filter p xs x l k) ])

-- two tests of what is in a list
pub any-alike : (f g : ℕ → Bool) (ns : List ℕ) → ((n : ℕ) → list_any (nat_eq n) ns ≡ true → f n ≡ g n) → list_any f ns ≡ list_any g ns
any-alike f g [] h = refl
any-alike f g (n ∷ ns) h = λ i. h n (in-front (nat_eq n n) (list_any (nat_eq n) ns) (eq-eqb n n refl)) i || any-alike f g ns (λ m k. h m (behind (nat_eq m n) (list_any (nat_eq m) ns) k)) i

-- not all
pub not-all : (f : ℕ → Bool) (ns : List ℕ) → not (list_all f ns) ≡ list_any (λ n. not (f n)) ns
not-all f [] = refl
not-all f (n ∷ ns) = apart (f n) (list_all f ns) ∙ ap (λ b. not (f n) || b) (not-all f ns)
  where
    apart : (a b : Bool) → not (a && b) ≡ (not a || not b)
    apart true b = refl
    apart false b = refl

and-left : (a b : Bool) → (a && b) ≡ true → a ≡ true
and-left true b h = refl
and-left false b h = h

and-right : (a b : Bool) → (a && b) ≡ true → b ≡ true
and-right true b h = h
and-right false b h = absurd (true≢false (sym h))

-- ---- tests of the items of a list to which numbers are added

pub all-in : (f : ℕ → Bool) (ns : List ℕ) (n : ℕ) → list_all f ns ≡ true → list_any (nat_eq n) ns ≡ true → f n ≡ true
all-in f [] n h k = absurd (true≢false (sym k))
all-in f (m ∷ ns) n h k =
    elim (either (nat_eq n m) (list_any (nat_eq n) ns) k) [
      | inl e ↦ ap f (eqb-true n m e) ∙ and-left (f m) (list_all f ns) h
      | inr l ↦ all-in f ns n (and-right (f m) (list_all f ns) h) l
    ]

pub all-at : (f : ℕ → Bool) (ns : List ℕ) (i n : ℕ) → list_all f ns ≡ true → slice_get ns i ≡ Some n → f n ≡ true
all-at f [] i n h at = absurd (none-some n at)
all-at f (m ∷ ns) zero n h at = ap f (sym (some-same m n at)) ∙ and-left (f m) (list_all f ns) h
all-at f (m ∷ ns) (suc i) n h at = all-at f ns i n (and-right (f m) (list_all f ns) h) at

and-true : (b : Bool) → (b && true) ≡ b
and-true true = refl
and-true false = refl

absorbed : (a b : Bool) → (a ≡ true → b ≡ true) → a ≡ (a && b)
absorbed true b h = sym (h refl)
absorbed false b h = refl

one-all : (f : ℕ → Bool) (ks : List ℕ) (k : ℕ) (b : Bool) → list_any (nat_eq k) ks ≡ b → list_all f (if b then ks else ks ++ k ∷ []) ≡ (list_all f ks && f k)
one-all f ks k true e = absorbed (list_all f ks) (f k) (λ h. all-in f ks k h e)
one-all f ks k false e = list_all-append f ks (k ∷ []) ∙ ap (λ b. list_all f ks && b) (and-true (f k))

grouped : (a b c : Bool) → ((a && b) && c) ≡ (a && (b && c))
grouped true b c = refl
grouped false b c = refl

pub all-inserted : (f : ℕ → Bool) (xs ks : List ℕ) → list_all f (insert_all nat_eq ks xs) ≡ (list_all f ks && list_all f xs)
all-inserted f [] ks = sym (and-true (list_all f ks))
all-inserted f (x ∷ xs) ks =
    all-inserted f xs (insert_key nat_eq ks x) ∙ ap (λ b. b && list_all f xs) (one-all f ks x (list_any (nat_eq x) ks) refl) ∙ grouped (list_all f ks) (f x) (list_all f xs)

-- ---- tests that go along a list

pub drop-next : {X : Type 0} (xs : List X) (i : ℕ) (x : X) → slice_get xs i ≡ Some x → drop i xs ≡ x ∷ drop (i + 1) xs
drop-next xs i x at = drop_more xs i x (slice_get_within xs i x at) ∙ ap (λ y. y ∷ drop (i + 1) xs) (get_or_from_slice_get xs i x x at)

module _ (f : ℕ → Bool) (xs : List ℕ) where
  pub all-end : (i : ℕ) → length xs ≤ i → list_all f (drop i xs) ≡ list_all f xs → true ≡ list_all f xs
  all-end i far h = sym (ap (list_all f) (drop_all i xs far)) ∙ h

  pub all-next : (i n : ℕ) (b : Bool) → slice_get xs i ≡ Some n → b ≡ f n → b ≡ true → list_all f (drop i xs) ≡ list_all f xs → list_all f (drop (i + 1) xs) ≡ list_all f xs
  all-next i n b at e holds h = sym (ap (list_all f) (drop-next xs i n at) ∙ ap (λ c. c && list_all f (drop (i + 1) xs)) (sym e ∙ holds)) ∙ h

  pub all-stop : (i n : ℕ) (b : Bool) → slice_get xs i ≡ Some n → b ≡ f n → b ≡ false → list_all f (drop i xs) ≡ list_all f xs → false ≡ list_all f xs
  all-stop i n b at e fails h = sym (ap (list_all f) (drop-next xs i n at) ∙ ap (λ c. c && list_all f (drop (i + 1) xs)) (sym e ∙ fails)) ∙ h

-- ---- pairs

-- one more of the first items of a list
pub take-next : {X : Type 0} (xs : List X) (i : ℕ) (x : X) → slice_get xs i ≡ Some x → take (i + 1) xs ≡ take i xs ++ x ∷ []
take-next xs i x at = take_more xs i x (slice_get_within xs i x at) ∙ ap (λ y. take i xs ++ y ∷ []) (get_or_from_slice_get xs i x x at)

module _ {X Y : Type 0} (R S : X → Y → Type 0) (f : (x : X) (y : Y) → R x y → S x y) where
  pub paired-grows : (xs : List X) (ys : List Y) → ArePaired R xs ys → ArePaired S xs ys
  paired-grows [] [] h = h
  paired-grows [] (y ∷ ys) h = h
  paired-grows (x ∷ xs) [] h = h
  paired-grows (x ∷ xs) (y ∷ ys) h = (f x y h.0, paired-grows xs ys h.1)

module _ {X Y : Type 0} (R : X → Y → Type 0) where
  paired-push : (xs : List X) (ys : List Y) (x : X) (y : Y) → ArePaired R xs ys → R x y → ArePaired R (xs ++ x ∷ []) (ys ++ y ∷ [])
  paired-push [] [] x y h r = (r, tt)
  paired-push [] (z ∷ ys) x y h r = absurd h
  paired-push (w ∷ xs) [] x y h r = absurd h
  paired-push (w ∷ xs) (z ∷ ys) x y h r = (h.0, paired-push xs ys x y h.1 r)

  -- one more pair of the first ones
  pub paired-next : (xs : List X) (ys : List Y) (i : ℕ) (x : X) (y : Y) → slice_get xs i ≡ Some x → ArePaired R (take i xs) ys → R x y → ArePaired R (take (i + 1) xs) (ys ++ y ∷ [])
  paired-next xs ys i x y at h r = subst (λ (zs : List X). ArePaired R zs (ys ++ y ∷ [])) (sym (take-next xs i x at)) (paired-push (take i xs) ys x y h r)

  -- what belongs to the item at a place
  pub paired-at : (xs : List X) (ys : List Y) (i : ℕ) (x : X) → ArePaired R xs ys → slice_get xs i ≡ Some x → (y : Y) × (slice_get ys i ≡ Some y) × R x y
  paired-at [] ys i x h at = absurd (none-some x at)
  paired-at (w ∷ xs) [] i x h at = absurd h
  paired-at (w ∷ xs) (z ∷ ys) zero x h at = (z, refl, subst (λ (v : X). R v z) (some-same w x at) h.0)
  paired-at (w ∷ xs) (z ∷ ys) (suc i) x h at = paired-at xs ys i x h.1 at

  pub paired-length : (xs : List X) (ys : List Y) → ArePaired R xs ys → length ys ≡ length xs
  paired-length [] [] h = refl
  paired-length [] (y ∷ ys) h = absurd h
  paired-length (x ∷ xs) [] h = absurd h
  paired-length (x ∷ xs) (y ∷ ys) h = ap suc (paired-length xs ys h.1)

-- what is reached along the same rows
pub reach-at : (rows more : List (List ℕ)) (start begin known : List ℕ) → rows ≡ more → start ≡ begin → IsReach rows start known → IsReach more begin known
reach-at rows more start begin known e f h = subst (λ (x : List (List ℕ)). IsReach x begin known) e (subst (λ (x : List ℕ). IsReach rows x known) f h)
