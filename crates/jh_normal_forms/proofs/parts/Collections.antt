-- Lists of nodes to which the parts of nodes are added.
use Rattle.std.proofs.Common.{◌≡◌, refl, sym, ap, subst, ◌∙◌, ℕ, zero, suc, ◌+◌, ◌≤◌, ◌<◌, ◌⊎◌, inl, inr, Bool, true, false, ◌&&◌, ◌||◌, if◌then◌else◌, List, [], ◌∷◌, ◌++◌, length, slice_get, Option, Some, None, is_some, nat_eq, take, cond, add-one, arith}
use Rattle.std.specs.List.{list_any, filter}
use Rattle.std.proofs.lemmas.Bool.{true≢false, eqb-true, eq-eqb}
use Rattle.std.proofs.lemmas.List.{append-nil, map-append, take_all}
use Rattle.std.proofs.lemmas.List.Elements.{filter-append}
use Rattle.std.proofs.lemmas.List.Folds.{list_any-append}
use Rattle.indexmap.specs.IndexSet.{insert_key, insert_all}
use Rattle.jh_form.specs.Tree.{ValueTree}
use Rattle.jh_form.proofs.ClosedLemmas.{both-left, both-right}
use Rattle.jh_arena.specs.table.Entries.{Listing, the_value}
use Rattle.jh_arena.specs.table.Growth.{Grows}
use Rattle.jh_arena.specs.table.Nodes.{nodes, fits_in, tree_in}
use Rattle.jh_arena.specs.table.Parts.{parts}
use Rattle.jh_arena.specs.declared.table.shapes.Shape.{Shape}
use Rattle.jh_arena.proofs.table.Listed.{grows-refl, grows-append}
use Rattle.jh_normal_forms.specs.declared.parts.order.Order.{Order}
use Rattle.jh_normal_forms.specs.parts.Standing.{before, behind, around, value_parts}
use Rattle.jh_normal_forms.specs.parts.Collected.{IsCollected, HasTrees, IsCovered, has_all, all_parts}
use Rattle.jh_normal_forms.proofs.parts.Listings.{parts-shape, all_parts-append}

-- ---- adding numbers to a list

stays-in : (b : Bool) (k n : ℕ) (ks : List ℕ) → list_any (nat_eq k) ks ≡ true → list_any (nat_eq k) (if b then ks else ks ++ n ∷ []) ≡ true
stays-in true k n ks h = h
stays-in false k n ks h = list_any-append (nat_eq k) ks (n ∷ []) ∙ ap (λ b. b || list_any (nat_eq k) (n ∷ [])) h

one-stays : (k n : ℕ) (ks : List ℕ) → list_any (nat_eq k) ks ≡ true → list_any (nat_eq k) (insert_key nat_eq ks n) ≡ true
one-stays k n ks h = stays-in (list_any (nat_eq n) ks) k n ks h

or-true : (b : Bool) → (b || true) ≡ true
or-true true = refl
or-true false = refl

is-in : (b : Bool) (n : ℕ) (ks : List ℕ) → list_any (nat_eq n) ks ≡ b → list_any (nat_eq n) (if b then ks else ks ++ n ∷ []) ≡ true
is-in true n ks e = e
is-in false n ks e =
    list_any-append (nat_eq n) ks (n ∷ []) ∙ ap (λ b. list_any (nat_eq n) ks || (b || false)) (eq-eqb n n refl) ∙ or-true (list_any (nat_eq n) ks)

one-is : (n : ℕ) (ks : List ℕ) → list_any (nat_eq n) (insert_key nat_eq ks n) ≡ true
one-is n ks = is-in (list_any (nat_eq n) ks) n ks refl

some-stays : (k : ℕ) (ks ms : List ℕ) → list_any (nat_eq k) ks ≡ true → list_any (nat_eq k) (insert_all nat_eq ks ms) ≡ true
some-stays k ks [] h = h
some-stays k ks (m ∷ ms) h = some-stays k (insert_key nat_eq ks m) ms (one-stays k m ks h)

all-stay : (ks ms ns : List ℕ) → has_all ks ns ≡ true → has_all (insert_all nat_eq ks ms) ns ≡ true
all-stay ks ms [] h = refl
all-stay ks ms (n ∷ ns) h = λ i.
    some-stays n ks ms (both-left (list_any (nat_eq n) ks) (has_all ks ns) h) i && all-stay ks ms ns (both-right (list_any (nat_eq n) ks) (has_all ks ns) h) i

all-are : (ks ns : List ℕ) → has_all (insert_all nat_eq ks ns) ns ≡ true
all-are ks [] = refl
all-are ks (n ∷ ns) = λ i. some-stays n (insert_key nat_eq ks n) ns (one-is n ks) i && all-are (insert_key nat_eq ks n) ns i

all-known : (ks ns : List ℕ) → has_all ks ns ≡ true → insert_all nat_eq ks ns ≡ ks
all-known ks [] h = refl
all-known ks (n ∷ ns) h =
    let here : insert_key nat_eq ks n ≡ ks = ap (λ b. if b then ks else ks ++ n ∷ []) (both-left (list_any (nat_eq n) ks) (has_all ks ns) h) in
    ap (λ z. insert_all nat_eq z ns) here ∙ all-known ks ns (both-right (list_any (nat_eq n) ks) (has_all ks ns) h)

all-append : (ks ns ms : List ℕ) → insert_all nat_eq ks (ns ++ ms) ≡ insert_all nat_eq (insert_all nat_eq ks ns) ms
all-append ks [] ms = refl
all-append ks (n ∷ ns) ms = all-append (insert_key nat_eq ks n) ns ms

or-which : (a b : Bool) → (a || (b || false)) ≡ true → (a ≡ true) ⊎ (b ≡ true)
or-which true b h = inl refl
or-which false true h = inr refl
or-which false false h = absurd (true≢false (sym h))

which-of : (a b : Bool) (m n : ℕ) → (nat_eq m n ≡ b) → (a ≡ true) ⊎ (b ≡ true) → (m ≡ n) ⊎ (a ≡ true)
which-of a b m n e (inl h) = inr h
which-of a b m n e (inr h) = inl (eqb-true m n (e ∙ h))

which-in : (b : Bool) (m n : ℕ) (ks : List ℕ) → list_any (nat_eq m) (if b then ks else ks ++ n ∷ []) ≡ true → (m ≡ n) ⊎ (list_any (nat_eq m) ks ≡ true)
which-in true m n ks h = inr h
which-in false m n ks h =
    which-of (list_any (nat_eq m) ks) (nat_eq m n) m n refl (or-which (list_any (nat_eq m) ks) (nat_eq m n) (sym (list_any-append (nat_eq m) ks (n ∷ [])) ∙ h))

which : (m n : ℕ) (ks : List ℕ) → list_any (nat_eq m) (insert_key nat_eq ks n) ≡ true → (m ≡ n) ⊎ (list_any (nat_eq m) ks ≡ true)
which m n ks h = which-in (list_any (nat_eq n) ks) m n ks h

grows-in : (b : Bool) (ks : List ℕ) (n : ℕ) → Grows ks (if b then ks else ks ++ n ∷ [])
grows-in true ks n = grows-refl ks
grows-in false ks n = grows-append ks (n ∷ [])

pub grows-one : (ks new : List ℕ) (n : ℕ) → new ≡ insert_key nat_eq ks n → Grows ks new
grows-one ks new n e = subst (λ (l : List ℕ). Grows ks l) (sym e) (grows-in (list_any (nat_eq n) ks) ks n)

-- ---- adding parts to a list

pub collected-none : (ts : List ValueTree) (list : List ℕ) → IsCollected ts list [] list
collected-none ts list = record { numbers = []; are = refl; added = refl }

pub collected-join : (ts xs ys : List ValueTree) (a b c : List ℕ) → IsCollected ts a xs b → IsCollected ts b ys c → IsCollected ts a (xs ++ ys) c
collected-join ts xs ys a b c h k = record {
  numbers = h.numbers ++ k.numbers;
  are = map-append (slice_get ts) h.numbers k.numbers ∙ (λ i. h.are i ++ k.are i) ∙ sym (map-append (λ v. Some v) xs ys);
  added = k.added ∙ ap (λ z. insert_all nat_eq z k.numbers) h.added ∙ sym (all-append a h.numbers k.numbers);
}

pub collected-known : (ts xs : List ValueTree) (list : List ℕ) → HasTrees ts list xs → IsCollected ts list xs list
collected-known ts xs list h = record { numbers = h.numbers; are = h.are; added = sym (all-known list h.numbers h.within) }

trees-stay : (ts xs ys : List ValueTree) (list new : List ℕ) → HasTrees ts list xs → IsCollected ts list ys new → HasTrees ts new xs
trees-stay ts xs ys list new h c = record {
  numbers = h.numbers;
  are = h.are;
  within = ap (λ z. has_all z h.numbers) c.added ∙ all-stay list c.numbers h.numbers h.within;
}

trees-are : (ts xs : List ValueTree) (old new : List ℕ) → IsCollected ts old xs new → HasTrees ts new xs
trees-are ts xs old new c = record { numbers = c.numbers; are = c.are; within = ap (λ z. has_all z c.numbers) c.added ∙ all-are old c.numbers }

module _ (q : ValueTree → Bool) (o : Order) (ts : List ValueTree) where
  pub covered-none : (list : List ℕ) → IsCovered q o ts [] list
  covered-none list = record { parts = λ n h. absurd (true≢false (sym h)) }

  pub covered-stays : (xs : List ValueTree) (seen list new : List ℕ) → IsCovered q o ts seen list → IsCollected ts list xs new → IsCovered q o ts seen new
  covered-stays xs seen list new h c = record { parts = λ n e. trees-stay ts (filter q (value_parts (the_value (slice_get ts n)) o)) xs list new (h.parts n e) c }

  covers : (seen list : List ℕ) (m n : ℕ) → IsCovered q o ts seen list → HasTrees ts list (filter q (value_parts (the_value (slice_get ts n)) o)) → (m ≡ n) ⊎ (list_any (nat_eq m) seen ≡ true) →
      HasTrees ts list (filter q (value_parts (the_value (slice_get ts m)) o))
  covers seen list m n h t (inl e) = subst (λ (k : ℕ). HasTrees ts list (filter q (value_parts (the_value (slice_get ts k)) o))) (sym e) t
  covers seen list m n h t (inr e) = h.parts m e

  -- a node whose parts were added is seen
  pub covered-more : (seen now old list : List ℕ) (n : ℕ) → IsCovered q o ts seen list → IsCollected ts old (filter q (value_parts (the_value (slice_get ts n)) o)) list → now ≡ insert_key nat_eq seen n →
      IsCovered q o ts now list
  covered-more seen now old list n h c e = record {
    parts = λ m is. covers seen list m n h (trees-are ts (filter q (value_parts (the_value (slice_get ts n)) o)) old list c) (which m n seen (sym (ap (list_any (nat_eq m)) e) ∙ is));
  }

  -- the parts of a node that was seen are in the list
  pub collected-seen : (seen list : List ℕ) (n : ℕ) → IsCovered q o ts seen list → list_any (nat_eq n) seen ≡ true → IsCollected ts list (filter q (value_parts (the_value (slice_get ts n)) o)) list
  collected-seen seen list n h e = collected-known ts (filter q (value_parts (the_value (slice_get ts n)) o)) list (h.parts n e)

  pub collected-around : (v : ValueTree) (xs : List ValueTree) (a b c d : List ℕ) → IsCollected ts a (filter q (before o v)) b → IsCollected ts b (filter q xs) c → IsCollected ts c (filter q (behind o v)) d →
      IsCollected ts a (filter q (around o v xs)) d
  collected-around v xs a b c d h k l =
      let inner : IsCollected ts b (filter q xs ++ filter q (behind o v)) d = collected-join ts (filter q xs) (filter q (behind o v)) b c d k l in
      let whole : IsCollected ts a (filter q (before o v) ++ (filter q xs ++ filter q (behind o v))) d = collected-join ts (filter q (before o v)) (filter q xs ++ filter q (behind o v)) a b d h inner in
      let same : filter q (around o v xs) ≡ filter q (before o v) ++ (filter q xs ++ filter q (behind o v)) =
      filter-append q (before o v) (xs ++ behind o v) ∙ ap (λ z. filter q (before o v) ++ z) (filter-append q xs (behind o v)) in
      subst (λ (z : List ValueTree). IsCollected ts a z d) (sym same) whole

  take-next : (ps : List ℕ) (i p : ℕ) → slice_get ps i ≡ Some p → take (suc i) ps ≡ take i ps ++ p ∷ []
  take-next [] i p e = absurd (cc)
  take-next (x ∷ ps) zero p e = cc
  take-next (x ∷ ps) (suc i) p e = ap (λ qs. x ∷ qs) (take-next ps i p e)

  -- one more part of a shape
  pub collected-step : (ps a b c : List ℕ) (i p : ℕ) → IsCollected ts a (filter q (all_parts o ts (take i ps))) b → IsCollected ts b (filter q (value_parts (the_value (slice_get ts p)) o)) c → slice_get ps i ≡ Some p →
      IsCollected ts a (filter q (all_parts o ts (take (i + 1) ps))) c
  collected-step ps a b c i p h k e =
      let here = value_parts (the_value (slice_get ts p)) o in
      let next : take (i + 1) ps ≡ take i ps ++ p ∷ [] = ap (λ k. take k ps) (add-one i) ∙ take-next ps i p e in
      let parts : all_parts o ts (take (i + 1) ps) ≡ all_parts o ts (take i ps) ++ here =
      ap (all_parts o ts) next ∙ all_parts-append o ts (take i ps) (p ∷ []) ∙ ap (λ z. all_parts o ts (take i ps) ++ z) (append-nil here) in
      let same : filter q (all_parts o ts (take (i + 1) ps)) ≡ filter q (all_parts o ts (take i ps)) ++ filter q here =
      ap (filter q) parts ∙ filter-append q (all_parts o ts (take i ps)) here in
      subst (λ (z : List ValueTree). IsCollected ts a z c) (sym same) (collected-join ts (filter q (all_parts o ts (take i ps))) (filter q here) a b c h k)

  pub collected-whole : (ps a b : List ℕ) (i : ℕ) → IsCollected ts a (filter q (all_parts o ts (take i ps))) b → length ps ≤ i → IsCollected ts a (filter q (all_parts o ts ps)) b
  collected-whole ps a b i h le = subst (λ (z : List ℕ). IsCollected ts a (filter q (all_parts o ts z)) b) (take_all i ps le) h

-- the parts of a node, from those of its shape's parts
pub collected-node : (t : Listing) (q : ValueTree → Bool) (o : Order) (n : ℕ) (x : Shape) (a b c d : List ℕ) → slice_get (nodes t) n ≡ Some (tree_in t x) → fits_in t x ≡ true →
    IsCollected (nodes t) a (filter q (before o (the_value (slice_get (nodes t) n)))) b → IsCollected (nodes t) b (filter q (all_parts o (nodes t) (parts t.pools.lists x))) c →
    IsCollected (nodes t) c (filter q (behind o (the_value (slice_get (nodes t) n)))) d → IsCollected (nodes t) a (filter q (value_parts (the_value (slice_get (nodes t) n)) o)) d
unfolding the_value
collected-node t q o n x a b c d there fits h k l =
    let v = the_value (slice_get (nodes t) n) in
    let is : v ≡ tree_in t x = ap the_value there in
    let inside = all_parts o (nodes t) (parts t.pools.lists x) in
    let same : value_parts v o ≡ around o v inside =
    ap (λ w. value_parts w o) is ∙ parts-shape t.pools (nodes t) o x fits ∙ ap (λ w. around o w inside) (sym is) in
    subst (λ (z : List ValueTree). IsCollected (nodes t) a (filter q z) d) (sym same) (collected-around q o (nodes t) v inside a b c d h k l)

value-of : (o : Option ValueTree) → is_some o ≡ true → o ≡ Some (the_value o)
unfolding the_value
value-of (Some v) h = refl
value-of None h = absurd (true≢false (sym h))

some-of : (ts : List ValueTree) (n : ℕ) → n < length ts → is_some (slice_get ts n) ≡ true
some-of [] n lt = absurd (omega arith)
some-of (v ∷ ts) zero lt = refl
some-of (v ∷ ts) (suc n) lt = some-of ts n (omega arith)

-- a node alone, for which the test asks
pub collected-one : (ts : List ValueTree) (q : ValueTree → Bool) (old new : List ℕ) (n : ℕ) → n < length ts → q (the_value (slice_get ts n)) ≡ true → new ≡ insert_key nat_eq old n →
    IsCollected ts old (filter q (the_value (slice_get ts n) ∷ [])) new
collected-one ts q old new n lt h e =
    let v = the_value (slice_get ts n) in
    let asked : filter q (v ∷ []) ≡ v ∷ [] = ap (λ b. cond b (v ∷ []) []) h in
    let one : IsCollected ts old (v ∷ []) new = record { numbers = n ∷ []; are = ap (λ o. o ∷ []) (value-of (slice_get ts n) (some-of ts n lt)); added = e } in
    subst (λ (z : List ValueTree). IsCollected ts old z new) (sym asked) one

-- a node for which the test doesn't ask
pub collected-not : (ts : List ValueTree) (q : ValueTree → Bool) (list : List ℕ) (n : ℕ) → q (the_value (slice_get ts n)) ≡ false → IsCollected ts list (filter q (the_value (slice_get ts n) ∷ [])) list
collected-not ts q list n h =
    let v = the_value (slice_get ts n) in
    let asked : filter q (v ∷ []) ≡ [] = ap (λ b. cond b (v ∷ []) []) h in
    subst (λ (z : List ValueTree). IsCollected ts list z list) (sym asked) (collected-none ts list)
