-- Nodes of which no equation is asserted.
use Rattle.std.proofs.Common.{◌≡◌, refl, sym, subst, ℕ, ◌+◌, add-one, ◌<◌, List, [], ◌∷◌, ◌++◌, length, slice_get, ◌⊎◌, inl, inr, Some, arith}
use Rattle.std.proofs.lemmas.Option.{slice_get_within}
use Rattle.std.specs.declared.alloc.Global.{Global}
use Rattle.std.specs.declared.vec.Vec.{Vec}
use Rattle.jh_closure.specs.declared.union_find.merge.Cause.{Cause}
use Rattle.jh_closure.specs.declared.union_find.merge.Merge.{Merge}
use Rattle.jh_closure.specs.union_find.Merges.{class_of}
use Rattle.jh_closure.proofs.union_find.Rooting.{below-next}
use Rattle.jh_closure.specs.declared.congruence_closure.node.Node.{Node}
use Rattle.jh_closure.specs.congruence_closure.Nodes.{EachPart, Has}
use Rattle.jh_closure.specs.congruence_closure.Closing.{PartsInside, IsTable, IsTrail, AreRight, AreAlike, Justified, alike}
use Rattle.jh_closure.specs.congruence_closure.Levels.{IsSettled, AreLevels}
use Rattle.jh_closure.specs.congruence_closure.Tables.{found}
use Rattle.jh_closure.specs.congruence_closure.Uses.{row, AreUses}
use Rattle.jh_closure.proofs.congruence_closure.Having.{has-left, has-last, has-pushed}

none-there : {X : Type 0} (i : ℕ) (x : X) → slice_get {X = X} [] i ≡ Some x → ⊥
none-there i x h = let l : i < 0 = slice_get_within [] i x h in omega (arith, l)

none-found : (x : Node) (q : ℕ) → found [] x ≡ Some q → ⊥
none-found x q h = cc

-- all nodes are to be looked up
pub table-start : (ns : List Node) (all : List ℕ) → PartsInside (length ns) ns → ((k : ℕ) → k < length ns → Has all k) → ((k : ℕ) → Has all k → k < length ns) → IsTable ns (class_of []) (found []) [] all
table-start ns all parts each inside = record {
  parts = parts;
  reps = record { inside = λ k h. h; root = λ k h. refl };
  entries = record { entry = λ x q e roots. absurd (none-found x q e) };
  covers = record { each = λ k h. inl (each k h) };
  waiting = record { left = λ p h. absurd h; right = λ p h. absurd h };
  dirty = inside;
}

pub trail-start : (ns : List Node) → IsTrail ns [] []
trail-start ns = record {
  left = λ t m h. absurd (none-there t m h);
  right = λ t m h. absurd (none-there t m h);
  left_inside = λ t m h. absurd (none-there t m h);
  right_inside = λ t m h. absurd (none-there t m h);
  why = λ t m h. absurd (none-there t m h);
}

-- those that wait have one signature
pub right-start : (ns : List Node) (ps : List Cause) → ((p : Cause) → Has ps p → Has {X = Cause} [] p ⊎ ((p ≡ alike p.left p.right) × AreAlike ns (class_of []) p.left p.right)) → AreRight ns [] [] ps
right-start ns ps h = record { trail = trail-start ns; causes = λ p w. step p (h p w) }
  where
    step : (p : Cause) → Has {X = Cause} [] p ⊎ ((p ≡ alike p.left p.right) × AreAlike ns (class_of []) p.left p.right) → Justified ns [] (class_of []) p.why p.left p.right
    step p (inl none) = absurd none
    step p (inr a) = subst (λ w. Justified ns [] (class_of []) w p.left p.right) (sym (λ i. (a.0 i).why)) a.1

pub settled-start : (ns : List Node) (ms : List Merge) (es : List (Node × ℕ)) → IsTable ns (class_of ms) (found es) [] [] → AreRight ns [] ms [] → IsSettled ns [] ms es
settled-start ns ms es t r = record { table = t; trail = r.trail; meets = λ e h. absurd h; left = λ e h. absurd h; right = λ e h. absurd h }

pub uses-start : (ns : List Node) (uses : List (Vec ℕ Global)) → ((k : ℕ) (x : Node) → slice_get ns k ≡ Some x → EachPart (λ p. Has (row uses p) k) x) → ((p k : ℕ) → Has (row uses p) k → k < length ns) →
    length uses ≡ length ns → AreUses ns [] uses
uses-start ns uses covers inside long = record { first = row uses; covers = covers; inside = inside; long = long; each = λ r. refl }

pub levels-start : (ns : List Node) (ms : List Merge) (es : List (Node × ℕ)) → AreLevels ns [] ms es []
levels-start ns ms es = record {
  each = λ i k h. absurd (none-there i k h);
  merges_grow = λ i j k l le a b. absurd (none-there i k a);
  entries_grow = λ i j k l le a b. absurd (none-there i k a);
}

-- one number more
pub numbers-all : (xs : List ℕ) (n : ℕ) → ((k : ℕ) → k < n → Has xs k) → (k : ℕ) → k < n + 1 → Has (xs ++ n ∷ []) k
numbers-all xs n h k l = elim (below-next k n (subst (λ z. k < z) (add-one n) l)) [ inl less ↦ has-left xs (n ∷ []) k (h k less) | inr same ↦ subst (λ z. Has (xs ++ n ∷ []) z) (sym same) (has-last xs n) ]

pub numbers-inside : (xs : List ℕ) (n : ℕ) → ((k : ℕ) → Has xs k → k < n) → (k : ℕ) → Has (xs ++ n ∷ []) k → k < n + 1
numbers-inside xs n h k w = elim (has-pushed xs n k w) [ inl old ↦ (let l : k < n = h k old in omega (arith, l)) | inr same ↦ omega (arith, same) ]
