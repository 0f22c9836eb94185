-- The nodes with a part in a class, as classes are joined and taken apart.
use Rattle.std.proofs.Common.{◌≡◌, ◌≢◌, refl, sym, ap, subst, ◌∙◌, ℕ, zero, suc, ◌+◌, ◌-◌, ◌<◌, ◌≤◌, ◌==◌, if◌then◌else◌, List, [], ◌∷◌, ◌++◌, length, take, slice_get, ◌⊎◌, inl, inr, Option, Some, None, arith}
use Rattle.std.proofs.lemmas.List.{take_at, length-append}
use Rattle.std.proofs.lemmas.Bool.Decides.{eqb_tells}
use Rattle.std.specs.declared.alloc.Global.{Global}
use Rattle.std.specs.declared.vec.Vec.{Vec}
use Rattle.jh_closure.specs.declared.union_find.merge.Merge.{Merge}
use Rattle.jh_closure.specs.union_find.Merges.{stepped, root, class_of}
use Rattle.jh_closure.proofs.union_find.Rooting.{merged-cases, get-front, get-last, one-longer}
use Rattle.jh_closure.specs.declared.congruence_closure.node.Node.{Node}
use Rattle.jh_closure.specs.declared.congruence_closure.node.Node.TheVariants as n
use Rattle.jh_closure.specs.congruence_closure.Nodes.{EachPart, Has}
use Rattle.jh_closure.specs.congruence_closure.Closing.{Touches}
use Rattle.jh_closure.specs.congruence_closure.Uses.{row, passed, passed_by, AreUses}
use Rattle.jh_closure.proofs.congruence_closure.Having.{has-left, has-right, has-either}

-- the list at the place of a number, or at another one
pub at-one : {X : Type 0} (r large : ℕ) (x y : X) → r ≡ large → (if r == large then x else y) ≡ x
at-one r large x y e = elim (eqb_tells r large) [ inl same ↦ ap (λ b. if b then x else y) same.0 | inr other ↦ absurd (other.1 e) ]

pub at-other : {X : Type 0} (r large : ℕ) (x y : X) → r ≢ large → (if r == large then x else y) ≡ y
at-other r large x y d = elim (eqb_tells r large) [ inl same ↦ absurd (d same.1) | inr other ↦ ap (λ b. if b then x else y) other.0 ]

passed-front : (first : ℕ → List ℕ) (ms : List Merge) (m : Merge) (t r : ℕ) → t ≤ length ms → passed_by first (ms ++ m ∷ []) t r ≡ passed_by first ms t r
passed-front first ms m zero r h = refl
passed-front first ms m (suc t) r h = λ i. passed (get-front ms m t (omega (arith, h)) i) (λ j. passed-front first ms m t j (omega (arith, h)) i) r

-- what one more merge makes of the lists
passed-push : (first : ℕ → List ℕ) (ms : List Merge) (m : Merge) (r : ℕ) →
    passed_by first (ms ++ m ∷ []) (length (ms ++ m ∷ [])) r ≡ (if r == m.large then passed_by first ms (length ms) m.large ++ passed_by first ms (length ms) m.small else passed_by first ms (length ms) r)
passed-push first ms m r =
    ap (λ t. passed_by first (ms ++ m ∷ []) t r) (one-longer ms m)
    ∙ (ap (λ o. passed o (passed_by first (ms ++ m ∷ []) (length ms)) r) (get-last ms m)
    ∙ (λ i. passed (Some m) (λ j. passed-front first ms m (length ms) j (omega arith) i) r))

stands-step : (o : Option Merge) (f : ℕ → ℕ) (l : ℕ → List ℕ) (j k : ℕ) → Has (l (f j)) k → Has (passed o l (stepped o f j)) k
stands-step None f l j k h = h
stands-step (Some m) f l j k h = elim (merged-cases f m.small m.large j) [
  | inl gone ↦
      subst (λ r. Has (passed (Some m) l r) k) (sym gone.1)
      (subst (λ ks. Has ks k) (sym (at-one m.large m.large (l m.large ++ l m.small) (l m.large) refl)) (has-right (l m.large) (l m.small) k (subst (λ r. Has (l r) k) gone.0 h)))
  | inr kept ↦
      subst (λ r. Has (passed (Some m) l r) k) (sym kept.1) (elim (eqb_tells (f j) m.large) [
        | inl same ↦ subst (λ ks. Has ks k) (sym (at-one (f j) m.large (l m.large ++ l m.small) (l (f j)) same.1)) (has-left (l m.large) (l m.small) k (subst (λ r. Has (l r) k) same.1 h))
        | inr other ↦ subst (λ ks. Has ks k) (sym (at-other (f j) m.large (l m.large ++ l m.small) (l (f j)) other.1)) h
      ])
]

-- what stands in the list of a node stands in that of its representative
stands : (first : ℕ → List ℕ) (ms : List Merge) (t j k : ℕ) → Has (first j) k → Has (passed_by first ms t (root ms t j)) k
stands first ms zero j k h = h
stands first ms (suc t) j k h = stands-step (slice_get ms t) (root ms t) (passed_by first ms t) j k (stands first ms t j k h)

inside-step : (n : ℕ) (o : Option Merge) (l : ℕ → List ℕ) (r k : ℕ) → ((r k : ℕ) → Has (l r) k → k < n) → Has (passed o l r) k → k < n
inside-step n None l r k w h = w r k h
inside-step n (Some m) l r k w h = elim (eqb_tells r m.large) [
  | inl same ↦ elim (has-either (l m.large) (l m.small) k (subst (λ ks. Has ks k) (at-one r m.large (l m.large ++ l m.small) (l r) same.1) h)) [ inl a ↦ w m.large k a | inr b ↦ w m.small k b ]
  | inr other ↦ w r k (subst (λ ks. Has ks k) (at-other r m.large (l m.large ++ l m.small) (l r) other.1) h)
]

stands-inside : (n : ℕ) (first : ℕ → List ℕ) → ((p k : ℕ) → Has (first p) k → k < n) → (ms : List Merge) (t r k : ℕ) → Has (passed_by first ms t r) k → k < n
stands-inside n first w ms zero r k h = w r k h
stands-inside n first w ms (suc t) r k h = inside-step n (slice_get ms t) (passed_by first ms t) r k (stands-inside n first w ms t) h

module _ (ns : List Node) (ms : List Merge) (uses : List (Vec ℕ Global)) (u : AreUses ns ms uses) where
  in-row : (j k small : ℕ) → Has (u.first j) k → class_of ms j ≡ small → Has (row uses small) k
  in-row j k small h e = subst (λ ks. Has ks k) (sym (u.each small)) (subst (λ r. Has (passed_by u.first ms (length ms) r) k) e (stands u.first ms (length ms) j k h))

  touched : (small k : ℕ) (x : Node) → EachPart (λ p. Has (u.first p) k) x → Has (row uses small) k ⊎ EachPart (λ p. (class_of ms p ≡ small) → ⊥) x
  touched small k (n.Leaf o) h = inr tt
  touched small k (n.Apply o a b) h = elim (eqb_tells (class_of ms a) small) [
    | inl same ↦ inl (in-row a k small h.0 same.1)
    | inr apart ↦ elim (eqb_tells (class_of ms b) small) [ inl same ↦ inl (in-row b k small h.1 same.1) | inr other ↦ inr (apart.1, other.1) ]
  ]

  -- each node with a part in a class is in its list
  pub touches : (small : ℕ) → Touches ns (class_of ms) small (row uses small)
  touches small = record {
    each = λ k x e. touched small k x (u.covers k x e);
    inside = λ k h. stands-inside (length ns) u.first u.inside ms (length ms) small k (subst (λ ks. Has ks k) (u.each small) h);
  }

  -- the list of the class that goes is passed on
  pub uses-joined : (m : Merge) (new : List (Vec ℕ Global)) → length new ≡ length uses →
      ((r : ℕ) → row new r ≡ (if r == m.large then row uses m.large ++ row uses m.small else row uses r)) → AreUses ns (ms ++ m ∷ []) new
  uses-joined m new long e = record {
    first = u.first;
    covers = u.covers;
    inside = u.inside;
    long = long ∙ u.long;
    each = λ r. e r ∙ ((λ i. if r == m.large then u.each m.large i ++ u.each m.small i else u.each r i) ∙ sym (passed-push u.first ms m r));
  }

  pub uses-same : (new : List (Vec ℕ Global)) → length new ≡ length uses → ((r : ℕ) → row new r ≡ row uses r) → AreUses ns ms new
  uses-same new long e = record { first = u.first; covers = u.covers; inside = u.inside; long = long ∙ u.long; each = λ r. e r ∙ u.each r }

module _ (ns : List Node) (ms : List Merge) (m : Merge) (uses : List (Vec ℕ Global)) (u : AreUses ns (ms ++ m ∷ []) uses) (apart : m.small ≢ m.large) where
  large-is : row uses m.large ≡ passed_by u.first ms (length ms) m.large ++ passed_by u.first ms (length ms) m.small
  large-is = u.each m.large ∙ (passed-push u.first ms m m.large ∙ at-one m.large m.large (passed_by u.first ms (length ms) m.large ++ passed_by u.first ms (length ms) m.small) (passed_by u.first ms (length ms) m.large) refl)

  other-is : (r : ℕ) → r ≢ m.large → row uses r ≡ passed_by u.first ms (length ms) r
  other-is r d = u.each r ∙ (passed-push u.first ms m r ∙ at-other r m.large (passed_by u.first ms (length ms) m.large ++ passed_by u.first ms (length ms) m.small) (passed_by u.first ms (length ms) r) d)

  row-before : (j k : ℕ) → Has (u.first j) k → class_of ms j ≡ m.small → Has (row uses m.small) k
  row-before j k h e =
      subst (λ ks. Has ks k) (sym (other-is m.small apart)) (subst (λ r. Has (passed_by u.first ms (length ms) r) k) e (stands u.first ms (length ms) j k h))

  touched-before : (k : ℕ) (x : Node) → EachPart (λ p. Has (u.first p) k) x → Has (row uses m.small) k ⊎ EachPart (λ p. (class_of ms p ≡ m.small) → ⊥) x
  touched-before k (n.Leaf o) h = inr tt
  touched-before k (n.Apply o a b) h = elim (eqb_tells (class_of ms a) m.small) [
    | inl same ↦ inl (row-before a k h.0 same.1)
    | inr far ↦ elim (eqb_tells (class_of ms b) m.small) [ inl same ↦ inl (row-before b k h.1 same.1) | inr other ↦ inr (far.1, other.1) ]
  ]

  -- each node that had a part in the class that went is in its list
  pub touches-before : Touches ns (class_of ms) m.small (row uses m.small)
  touches-before = record {
    each = λ k x e. touched-before k x (u.covers k x e);
    inside = λ k h. stands-inside (length ns) u.first u.inside ms (length ms) m.small k (subst (λ ks. Has ks k) (other-is m.small apart) h);
  }

  shorter : take (length (row uses m.large) - length (row uses m.small)) (row uses m.large) ≡ passed_by u.first ms (length ms) m.large
  shorter =
      let xs = passed_by u.first ms (length ms) m.large in
      let ys = passed_by u.first ms (length ms) m.small in
      let long : length (row uses m.large) ≡ length xs + length ys = ap length large-is ∙ length-append xs ys in
      let small : length (row uses m.small) ≡ length ys = ap length (other-is m.small apart) in
      let count : length xs ≡ length (row uses m.large) - length (row uses m.small) = omega (arith, long, small) in
      ap (take (length (row uses m.large) - length (row uses m.small))) large-is ∙ take_at xs ys (length (row uses m.large) - length (row uses m.small)) count

  -- and taken back
  pub uses-parted : (new : List (Vec ℕ Global)) → length new ≡ length uses →
      ((r : ℕ) → row new r ≡ (if r == m.large then take (length (row uses m.large) - length (row uses m.small)) (row uses m.large) else row uses r)) → AreUses ns ms new
  uses-parted new long e = record {
    first = u.first;
    covers = u.covers;
    inside = u.inside;
    long = long ∙ u.long;
    each = λ r. e r ∙ elim (eqb_tells r m.large) [
      | inl same ↦ at-one r m.large (take (length (row uses m.large) - length (row uses m.small)) (row uses m.large)) (row uses r) same.1 ∙ (shorter ∙ ap (passed_by u.first ms (length ms)) (sym same.1))
      | inr other ↦ at-other r m.large (take (length (row uses m.large) - length (row uses m.small)) (row uses m.large)) (row uses r) other.1 ∙ other-is r other.1
    ];
  }
