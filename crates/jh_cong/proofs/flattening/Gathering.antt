-- Plain nodes and helpers, one after the other.
use Rattle.std.specs.Prelude.{IfOk, OnOk}
use Rattle.std.proofs.Common.{Result, Ok, Err, ◌≡◌, refl, sym, ap, subst, ℕ, zero, suc, ℤ, ◌+◌, ◌-◌, ◌<◌, List, [], ◌∷◌, ◌++◌, length, slice_get, ◌⊎◌, inl, inr, Some, arith}
use Rattle.std.proofs.lemmas.Option.{slice_get_within, same_Some}
use Rattle.jh_name.specs.declared.place.Sort as place
use Rattle.jh_closure.specs.congruence_closure.Closing.{PartsInside}
use Rattle.jh_closure.specs.congruence_closure.Nodes.{EachPart, Has}
use Rattle.jh_closure.specs.declared.congruence_closure.node.Node.{Node}
use Rattle.jh_closure.specs.declared.congruence_closure.node.Node.TheVariants as n
use Rattle.jh_closure.proofs.congruence_closure.Having.{has-right}
use Rattle.jh_closure.proofs.congruence_closure.Signing.{each-weaker}
use Rattle.jh_arena.specs.table.Entries.{Listing}
use Rattle.jh_arena.specs.table.Growth.{AreDifferent}
use Rattle.jh_arena.specs.table.Nodes.{nodes}
use Rattle.jh_arena.specs.table.Parts.{list_parts}
use Rattle.jh_arena.proofs.table.Listed.{slice_get-append, slice_get-last}
use Rattle.jh_cong.specs.flattening.Flattening.{Flattens}
use Rattle.jh_cong.specs.flattening.Plain.{flat, plus, minus, IsHelper, IsFactor, IsChain, IsPlain, IsMade, AreBehind, AddsHelpers, AreMade, sort_at}
use Rattle.jh_cong.specs.declared.flattening.flat.Flat.{Flat}
use Rattle.jh_cong.specs.declared.flattening.flat.Flat.TheVariants as f
use Rattle.jh_cong.proofs.flattening.Helping.{flat_parts}
use Rattle.jh_cong.proofs.flattening.Lifting.{lifts}
use Rattle.jh_cong.proofs.flattening.Lowering.{get-joined, part-before, same-before, lowers}

pub at-push : {X : Type 0} (xs : List X) (x y : X) (i : ℕ) → slice_get (xs ++ x ∷ []) i ≡ Some y → (slice_get xs i ≡ Some y) ⊎ ((i ≡ length xs) × (x ≡ y))
at-push [] x y zero e = inr (refl, same_Some x y e)
at-push [] x y (suc i) e = absurd (let l : suc i < length (x ∷ []) = slice_get_within (x ∷ []) (suc i) y e in omega (arith, l))
at-push (z ∷ xs) x y zero e = inl e
at-push (z ∷ xs) x y (suc i) e = elim (at-push xs x y i e) [ inl w ↦ inl w | inr w ↦ inr (ap suc w.0, w.1) ]

pub long-joined : {X : Type 0} (xs ys : List X) → length (xs ++ ys) ≡ length xs + length ys
long-joined [] ys = omega arith
long-joined (x ∷ xs) ys = let r : length (xs ++ ys) ≡ length xs + length ys = long-joined xs ys in omega (arith, r)

-- one more helper
pub helper-added : (count : ℕ) (old : List Node) (x : Node) → IsHelper count (old ++ x ∷ []) (count + length old) x
helper-added count old x =
    let e : length old ≡ count + length old - count = omega arith in
    (omega arith, subst (λ z. slice_get (old ++ x ∷ []) z ≡ Some x) e (slice_get-last old x))

pub adds-one : (count : ℕ) (old : List Node) (x : Node) → EachPart (λ p. p < count + length old) x → AddsHelpers count old (old ++ x ∷ [])
adds-one count old x h = record {
  keeps = λ j y e. slice_get-append old (x ∷ []) j y e;
  long = let e : length (old ++ x ∷ []) ≡ length old + 1 = long-joined old (x ∷ []) in omega (arith, e);
  behind = λ all j y e. elim (at-push old x y j e) [
    | inl w ↦ all j y w
    | inr w ↦ subst (λ (z : Node). EachPart (λ p. p < count + j) z) w.1 (subst (λ i. EachPart (λ p. p < count + i) x) (sym w.0) h)
  ];
}

pub adds-then : (count : ℕ) (a b c : List Node) → AddsHelpers count a b → AddsHelpers count b c → AddsHelpers count a c
adds-then count a b c h w = record {
  keeps = λ j y e. w.keeps j y (h.keeps j y e);
  long = let k = h.long in let l = w.long in omega (arith, k, l);
  behind = λ all. w.behind (h.behind all);
}

pub adds-none : (count : ℕ) (a : List Node) → AddsHelpers count a a
adds-none count a = record { keeps = λ j y e. e; long = omega arith; behind = λ all. all }

pub helper-inside : (count : ℕ) (helpers : List Node) (k : ℕ) (x : Node) → IsHelper count helpers k x → k < count + length helpers
helper-inside count helpers k x h = let l = slice_get_within helpers (k - count) x h.1 in let m = h.0 in omega (arith, l, m)

pub helper-grows : (count : ℕ) (old new : List Node) → AddsHelpers count old new → (k : ℕ) (x : Node) → IsHelper count old k x → IsHelper count new k x
helper-grows count old new a k x h = (h.0, a.keeps (k - count) x h.1)

pub factor-grows : (count : ℕ) (old new : List Node) → AddsHelpers count old new → (z : ℤ) (k : ℕ) → IsFactor count old z k → IsFactor count new z k
factor-grows count old new a z k h =
    (h.0, h.1, helper-grows count old new a h.0 (n.Leaf (plus z)) h.2, helper-grows count old new a h.1 (n.Leaf (minus z)) h.3, helper-grows count old new a k (n.Apply 37 h.0 h.1) h.4)

-- two helpers and their pair are a whole number
pub factor-made : {E : Type 0} (count : ℕ) (one two three : List Node) (z : ℤ) (i j : ℕ) → IsHelper count one i (n.Leaf (plus z)) → IsHelper count two j (n.Leaf (minus z)) → AddsHelpers count one two → (r : Result ℕ E) → OnOk r (AddsHelpers count two three) →
    IfOk r (λ k. IsHelper count three k (n.Apply 37 i j)) → IfOk r (λ k. IsFactor count three z k)
factor-made count one two three z i j a b first-adds (Ok k) second-adds h =
    (i, j, helper-grows count two three second-adds i (n.Leaf (plus z)) (helper-grows count one two first-adds i (n.Leaf (plus z)) a), helper-grows count two three second-adds j (n.Leaf (minus z)) b, h)
factor-made count one two three z i j a b first-adds (Err e) second-adds h = tt

pub factor-inside : (count : ℕ) (helpers : List Node) (z : ℤ) (k : ℕ) → IsFactor count helpers z k → k < count + length helpers
factor-inside count helpers z k h = helper-inside count helpers k (n.Apply 37 h.0 h.1) h.4

pub chain-grows : (count : ℕ) (old new : List Node) → AddsHelpers count old new → (ks : List ℕ) (k : ℕ) → IsChain count old ks k → IsChain count new ks k
chain-grows count old new a [] k h = helper-grows count old new a k (n.Leaf 0) h
chain-grows count old new a (x ∷ xs) k h = (h.0, helper-grows count old new a k (n.Apply 38 x h.0) h.1, chain-grows count old new a xs h.0 h.2)

pub chain-inside : (count : ℕ) (helpers : List Node) (ks : List ℕ) (k : ℕ) → IsChain count helpers ks k → k < count + length helpers
chain-inside count helpers [] k h = helper-inside count helpers k (n.Leaf 0) h
chain-inside count helpers (x ∷ xs) k h = helper-inside count helpers k (n.Apply 38 x h.0) h.1

module _ (count : ℕ) (made : List Node) (z : Node) (old new : List Node) (a : AddsHelpers count old new) (sorts : ℕ → place.Sort) (fs : List ℕ) (k : ℕ) where
  pub plain-grows : (y : Flat) (x : Node) → IsPlain count made old sorts fs k y x → IsPlain count (made ++ z ∷ []) new sorts fs k y x
  plain-grows f.Leaf x h = (h.0, helper-grows count old new a h.0 (n.Leaf k) h.1, h.2)
  plain-grows (f.Unary o b) x h = h
  plain-grows (f.Binary o b c) x h = h
  plain-grows (f.Scaled o u b) x h = (h.0, factor-grows count old new a u h.0 h.1, h.2)
  plain-grows (f.Updated b c d) x h = (h.0, helper-grows count old new a h.0 (n.Apply 37 c d) h.1, h.2)
  plain-grows (f.Reaches b c) x h = (h.0, h.1, chain-grows count old new a fs h.0 h.2, helper-grows count old new a h.1 (n.Apply 37 b c) h.3, h.4)
  plain-grows f.Listed x h = (h.0, chain-grows count old new a fs h.0 h.1, h.2)
  plain-grows (f.Same b) x h = slice_get-append made (z ∷ []) b x h

made-grows : (t : Listing) (made : List Node) (z : Node) (old new : List Node) → AddsHelpers (length (nodes t)) old new → (k : ℕ) (x : Node) → IsMade t made old k x → IsMade t (made ++ z ∷ []) new k x
made-grows t made z old new a k x m = record {
  shape = m.shape;
  tree = m.tree;
  fits = m.fits;
  below = m.below;
  plain = plain-grows (length (nodes t)) made z old new a (sort_at t) (list_parts t.pools.lists m.shape) k (flat m.shape) x m.plain;
}

-- one more plain node
pub made-one : (t : Listing) (made : List Node) (z : Node) (old new : List Node) → AddsHelpers (length (nodes t)) old new → AreMade t made old → IsMade t made new (length made) z → AreMade t (made ++ z ∷ []) new
made-one t made z old new a all one k x e = elim (at-push made z x k e) [
  | inl w ↦ made-grows t made z old new a k x (all k x w)
  | inr w ↦ subst (λ (y : Node). IsMade t (made ++ z ∷ []) new k y) w.1 (subst (λ i. IsMade t (made ++ z ∷ []) new i z) (sym w.0) (made-grows t made z new new (adds-none (length (nodes t)) new) (length made) z one))
]

module _ (t : Listing) (made helpers : List Node) (count-is : length made ≡ length (nodes t)) (behind : AreBehind (length (nodes t)) helpers) (ok : AreMade t made helpers) where
  abbrev whole : ℕ
  whole = length (nodes t) + length helpers

  plain-inside : (k : ℕ) (y : Flat) (x : Node) (fs : List ℕ) (sorts : ℕ → place.Sort) → IsPlain (length (nodes t)) made helpers sorts fs k y x → ((a : ℕ) → Has (fs ++ flat_parts y) a → a < whole) → ((a : ℕ) → y ≡ f.Same a → EachPart (λ p. p < whole) x) → EachPart (λ p. p < whole) x
  plain-inside k f.Leaf x fs sorts h parts same = let l = helper-inside (length (nodes t)) helpers h.0 (n.Leaf k) h.1 in subst (λ (z : Node). EachPart (λ p. p < whole) z) (sym h.2) (l, l)
  plain-inside k (f.Unary o a) x fs sorts h parts same = let l = parts a (has-right fs (a ∷ []) a (inl refl)) in subst (λ (z : Node). EachPart (λ p. p < whole) z) (sym h) (l, l)
  plain-inside k (f.Binary o a b) x fs sorts h parts same = subst (λ (z : Node). EachPart (λ p. p < whole) z) (sym h) (parts a (has-right fs (a ∷ b ∷ []) a (inl refl)), parts b (has-right fs (a ∷ b ∷ []) b (inr (inl refl))))
  plain-inside k (f.Scaled o u a) x fs sorts h parts same = subst (λ (z : Node). EachPart (λ p. p < whole) z) (sym h.2) (factor-inside (length (nodes t)) helpers u h.0 h.1, parts a (has-right fs (a ∷ []) a (inl refl)))
  plain-inside k (f.Updated a b c) x fs sorts h parts same = subst (λ (z : Node). EachPart (λ p. p < whole) z) (sym h.2) (parts a (has-right fs (a ∷ b ∷ c ∷ []) a (inl refl)), helper-inside (length (nodes t)) helpers h.0 (n.Apply 37 b c) h.1)
  plain-inside k (f.Reaches a b) x fs sorts h parts same = subst (λ (z : Node). EachPart (λ p. p < whole) z) (sym h.4) (chain-inside (length (nodes t)) helpers fs h.0 h.2, helper-inside (length (nodes t)) helpers h.1 (n.Apply 37 a b) h.3)
  plain-inside k f.Listed x fs sorts h parts same = let l = chain-inside (length (nodes t)) helpers fs h.0 h.1 in subst (λ (z : Node). EachPart (λ p. p < whole) z) (sym h.2) (l, l)
  plain-inside k (f.Same a) x fs sorts h parts same = same a refl

  made-inside : (room k : ℕ) (x : Node) → k < room → slice_get made k ≡ Some x → EachPart (λ p. p < whole) x
  made-inside zero k x l e = absurd (omega (arith, l))
  made-inside (suc room) k x l e =
      let m = ok k x e in
      let inside : k < length made = slice_get_within made k x e in
      plain-inside k (flat m.shape) x (list_parts t.pools.lists m.shape) (sort_at t) m.plain
      (λ a w. let b = part-before t made helpers k x m a w in omega (arith, b, inside, count-is))
      (λ a w. let r = same-before t made helpers k x m a w in made-inside room a x (let b = r.0 in omega (arith, b, l)) r.1)

  all-inside : PartsInside (length (made ++ helpers)) (made ++ helpers)
  all-inside =
      let long : length (made ++ helpers) ≡ length made + length helpers = long-joined made helpers in
      let same : whole ≡ length (made ++ helpers) = omega (arith, long, count-is) in
      record {
        inside = λ k x e. subst (λ z. EachPart (λ p. p < z) x) same (elim (get-joined made helpers k x e) [
          | inl w ↦ made-inside (suc k) k x (omega arith) w.1
          | inr w ↦
              let l = slice_get_within helpers (k - length made) x w.1 in
              each-weaker (λ p. p < length (nodes t) + (k - length made)) (λ p. p < whole) (λ p u. omega (arith, u, l)) x (behind (k - length made) x w.1)
        ]);
      }

  -- all is made
  pub flattens : AreDifferent (nodes t) → Flattens (nodes t) (made ++ helpers)
  flattens different = record {
    count = let long : length (made ++ helpers) ≡ length made + length helpers = long-joined made helpers in omega (arith, long, count-is);
    parts = all-inside;
    lowers = λ s. lowers s t made helpers count-is behind ok;
    lifts = λ c at g apart. lifts t made helpers count-is ok different c at g apart;
  }

-- nothing is made yet
pub made-start : (t : Listing) (made helpers : List Node) → length made ≡ 0 → AreMade t made helpers
made-start t made helpers e k x h = absurd (let l = slice_get_within made k x h in omega (arith, l, e))

-- no helper is there yet
pub behind-start : (count : ℕ) (helpers : List Node) → helpers ≡ [] → AreBehind count helpers
behind-start count helpers e j x h = absurd (let l : j < 0 = slice_get_within [] j x (subst (λ (xs : List Node). slice_get xs j ≡ Some x) e h) in omega (arith, l))
