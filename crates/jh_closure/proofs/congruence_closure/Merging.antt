-- One class made part of another.
use Rattle.std.proofs.Common.{◌≡◌, ◌≢◌, refl, sym, ap, subst, ◌∙◌, ℕ, ◌<◌, List, [], ◌∷◌, length, slice_get, get_or, ◌⊎◌, inl, inr, Option, Some}
use Rattle.std.proofs.lemmas.Option.{slice_get-get_or}
use Rattle.jh_closure.specs.declared.union_find.merge.Cause.{Cause}
use Rattle.jh_closure.specs.union_find.Merges.{merged}
use Rattle.jh_closure.proofs.union_find.Rooting.{merged-cases, merged-gone, merged-stays, merged-same}
use Rattle.jh_closure.specs.declared.congruence_closure.node.Node.{Node}
use Rattle.jh_closure.specs.declared.congruence_closure.node.Node.TheVariants as n
use Rattle.jh_closure.specs.congruence_closure.Nodes.{sig, EachPart, Has}
use Rattle.jh_closure.specs.congruence_closure.Closing.{IsRoot, Reps, Entries, IsFound, IsTable, Touches, Keeps, alike}
use Rattle.jh_closure.proofs.congruence_closure.Signing.{each-weaker, node-at}

-- f gives representatives before, and g after the class of small went into that of large; the first of those that wait is of both
module _ (ns : List Node) (f g : ℕ → ℕ) (find : Node → Option ℕ) (ps : List Cause) (p : Cause) (t : IsTable ns f find (p ∷ ps) []) (small large : ℕ)
    (is : (k : ℕ) → g k ≡ merged f small large k) (small-root : f small ≡ small) (large-inside : large < length ns) (large-root : f large ≡ large) (apart : small ≢ large)
    (joins : ((f p.left ≡ small) × (f p.right ≡ large)) ⊎ ((f p.left ≡ large) × (f p.right ≡ small))) where
  goes : (k : ℕ) → f k ≡ small → g k ≡ large
  goes k e = is k ∙ merged-gone f small large k e

  stays : (k : ℕ) → f k ≢ small → g k ≡ f k
  stays k e = is k ∙ merged-stays f small large k e

  keeps-large : (k : ℕ) → f k ≡ large → g k ≡ large
  keeps-large k e = stays k (λ s. apart (sym s ∙ e)) ∙ e

  -- both nodes are in the class that stays
  pub joined : g p.left ≡ g p.right
  joined = elim joins [ inl j ↦ goes p.left j.0 ∙ sym (keeps-large p.right j.1) | inr j ↦ keeps-large p.left j.0 ∙ sym (goes p.right j.1) ]

  pub keeps : Keeps (length ns) f g
  keeps j k hj hk e = is j ∙ (merged-same f small large j k e ∙ sym (is k))

  -- what represents itself now did before, and isn't the one that goes
  was-root : (k : ℕ) → IsRoot (length ns) g k → IsRoot (length ns) f k × (k ≢ small)
  was-root k h = elim (merged-cases f small large k) [
    | inl gone ↦ let here : large ≡ k = sym (goes k gone.0) ∙ h.1 in absurd (apart (sym gone.0 ∙ (ap f (sym here) ∙ large-root)))
    | inr kept ↦ let root : f k ≡ k = sym (stays k kept.0) ∙ h.1 in ((h.0, root), λ e. kept.0 (root ∙ e))
  ]

  new-reps : Reps (length ns) g
  new-reps = record {
    inside = λ k h. elim (merged-cases f small large k) [
      | inl gone ↦ subst (λ z. z < length ns) (sym (goes k gone.0)) large-inside
      | inr kept ↦ subst (λ z. z < length ns) (sym (stays k kept.0)) (t.reps.inside k h)
    ];
    root = λ k h. elim (merged-cases f small large k) [
      | inl gone ↦ let e = goes k gone.0 in ap g e ∙ (keeps-large large large-root ∙ sym e)
      | inr kept ↦ let e = stays k kept.0 in ap g e ∙ (stays (f k) (λ s. kept.0 (sym (t.reps.root k h) ∙ s)) ∙ (t.reps.root k h ∙ sym e))
    ];
  }

  -- the signature of a node without a part in the class that goes
  sig-stays : (x : Node) → EachPart (λ q. (f q ≡ small) → ⊥) x → sig g x ≡ sig f x
  sig-stays (n.Leaf o) h = refl
  sig-stays (n.Apply o a b) h = λ i. n.Apply o (stays a h.0 i) (stays b h.1 i)

  -- a node whose signature has representatives alone has no part in the class that goes
  none-gone : (y : Node) → EachPart (IsRoot (length ns) g) (sig f y) → EachPart (λ k. (f k ≡ small) → ⊥) y
  none-gone (n.Leaf o) h = tt
  none-gone (n.Apply o a b) h = ((was-root (f a) h.0).1, (was-root (f b) h.1).1)

  new-entries : Entries ns g find
  new-entries = record {
    entry = λ x q e roots.
        let old = t.entries.entry x q e (each-weaker (IsRoot (length ns) g) (IsRoot (length ns) f) (λ k r. (was-root k r).0) x roots) in
        let free : EachPart (λ k. (f k ≡ small) → ⊥) old.0 = none-gone old.0 (subst (λ z. EachPart (IsRoot (length ns) g) z) (sym old.2) roots) in
        (old.0, old.1, sig-stays old.0 free ∙ old.2);
  }

  still-same : (q k : ℕ) → (f q ≡ f k) ⊎ Has (p ∷ ps) (alike q k) → (g q ≡ g k) ⊎ Has ps (alike q k)
  still-same q k (inl e) = inl (is q ∙ (merged-same f small large q k e ∙ sym (is k)))
  still-same q k (inr (inl e)) =
      let l : p.left ≡ q = λ i. (e i).left in
      let r : p.right ≡ k = λ i. (e i).right in
      inl (ap g (sym l) ∙ (joined ∙ ap g r))
  still-same q k (inr (inr w)) = inr w

  module _ (dirty : List ℕ) (touches : Touches ns f small dirty) where
    covered : (k : ℕ) → (x : Node) → slice_get ns k ≡ Some x → IsFound ns f find (p ∷ ps) k →
        Has dirty k ⊎ EachPart (λ j. (f j ≡ small) → ⊥) x → Has dirty k ⊎ IsFound ns g find ps k
    covered k x here was (inl d) = inl d
    covered k x here was (inr free) =
        let r = was x here in
        let found-new : find (sig g x) ≡ Some r.0 = ap find (sig-stays x free) ∙ r.1 in
        inr (λ y i. (r.0, subst (λ z. find (sig g z) ≡ Some r.0) (node-at ns k x y here i) found-new, still-same r.0 k r.2))

    was-found : (k : ℕ) → Has {X = ℕ} [] k ⊎ IsFound ns f find (p ∷ ps) k → IsFound ns f find (p ∷ ps) k
    was-found k (inl h) = absurd h
    was-found k (inr h) = h

    pub table-merged : IsTable ns g find ps dirty
    table-merged = record {
      parts = t.parts;
      reps = new-reps;
      entries = new-entries;
      dirty = touches.inside;
      waiting = record { left = λ q h. t.waiting.left q (inr h); right = λ q h. t.waiting.right q (inr h) };
      covers = record {
        each = λ k h.
            let here : slice_get ns k ≡ Some (get_or ns k (n.Leaf 0)) = slice_get-get_or ns k (n.Leaf 0) h in
            covered k (get_or ns k (n.Leaf 0)) here (was-found k (t.covers.each k h)) (touches.each k (get_or ns k (n.Leaf 0)) here);
      };
    }
