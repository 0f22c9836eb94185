-- Nodes looked up by their signatures.
use Rattle.std.proofs.Common.{◌≡◌, refl, sym, subst, ℕ, ◌<◌, List, [], ◌∷◌, ◌++◌, length, slice_get, ◌⊎◌, inl, inr, Option, Some}
use Rattle.std.proofs.lemmas.Option.{slice_get_within}
use Rattle.jh_closure.specs.declared.union_find.merge.Cause.{Cause}
use Rattle.jh_closure.specs.declared.congruence_closure.node.Node.{Node}
use Rattle.jh_closure.specs.declared.congruence_closure.node.Node.TheVariants as n
use Rattle.jh_closure.specs.congruence_closure.Nodes.{sig, EachPart, Has}
use Rattle.jh_closure.specs.congruence_closure.Closing.{IsRoot, Reps, IsFound, Covers, IsTable, AreAlike, alike}
use Rattle.jh_closure.proofs.congruence_closure.Having.{has-left, has-last, has-pushed}

pub each-weaker : (P Q : ℕ → Type 0) → ((p : ℕ) → P p → Q p) → (x : Node) → EachPart P x → EachPart Q x
each-weaker P Q w (n.Leaf o) h = tt
each-weaker P Q w (n.Apply o a b) h = (w a h.0, w b h.1)

-- a signature has representatives for parts
pub of-roots : (m : ℕ) (f : ℕ → ℕ) → Reps m f → (x : Node) → EachPart (λ p. p < m) x → EachPart (IsRoot m f) (sig f x)
of-roots m f r (n.Leaf o) h = tt
of-roots m f r (n.Apply o a b) h = ((r.inside a h.0, r.root a h.0), (r.inside b h.1, r.root b h.1))

or-right : {A B C : Type 0} → A ⊎ B → (B → C) → A ⊎ C
or-right (inl a) f = inl a
or-right (inr b) f = inr (f b)

-- what was found stays found, as the table and what waits grow
found-grows : (ns : List Node) (f : ℕ → ℕ) (find more : Node → Option ℕ) (pending longer : List Cause) →
    ((x : Node) (q : ℕ) → find x ≡ Some q → more x ≡ Some q) → ((p : Cause) → Has pending p → Has longer p) →
    (k : ℕ) → IsFound ns f find pending k → IsFound ns f more longer k
found-grows ns f find more pending longer g w k h x e =
    let r = h x e in (r.0, g (sig f x) r.0 r.1, or-right r.2 (w (alike r.0 k)))

-- the first dirty node was found
covers-step : (ns : List Node) (f : ℕ → ℕ) (find more : Node → Option ℕ) (pending longer : List Cause) (k : ℕ) (rest : List ℕ) →
    ((x : Node) (q : ℕ) → find x ≡ Some q → more x ≡ Some q) → ((p : Cause) → Has pending p → Has longer p) →
    IsFound ns f more longer k → Covers ns f find pending (k ∷ rest) → Covers ns f more longer rest
covers-step ns f find more pending longer k rest g w here h = record { each = λ j l. step j (h.each j l) }
  where
    step : (j : ℕ) → ((k ≡ j) ⊎ Has rest j) ⊎ IsFound ns f find pending j → Has rest j ⊎ IsFound ns f more longer j
    step j (inl (inl e)) = inr (subst (λ i. IsFound ns f more longer i) e here)
    step j (inl (inr d)) = inl d
    step j (inr s) = inr (found-grows ns f find more pending longer g w j s)

-- the node at a place is the only one there
pub node-at : (ns : List Node) (k : ℕ) (x y : Node) → slice_get ns k ≡ Some x → slice_get ns k ≡ Some y → x ≡ y
node-at ns k x y h e = cc

module _ (ns : List Node) (f : ℕ → ℕ) (find : Node → Option ℕ) (pending : List Cause) (k : ℕ) (rest : List ℕ) (t : IsTable ns f find pending (k ∷ rest)) where
  pub first-inside : k < length ns
  first-inside = t.dirty k (inl refl)

  module _ (x : Node) (here : slice_get ns k ≡ Some x) where
    -- it is found, with its representative
    pub table-same : (q : ℕ) → find (sig f x) ≡ Some q → f q ≡ f k → IsTable ns f find pending rest
    table-same q e same = record {
      parts = t.parts;
      reps = t.reps;
      entries = t.entries;
      waiting = t.waiting;
      dirty = λ j h. t.dirty j (inr h);
      covers = covers-step ns f find find pending pending k rest (λ y p h. h) (λ p h. h) (λ y i. (q, subst (λ z. find (sig f z) ≡ Some q) (node-at ns k x y here i) e, inl same)) t.covers;
    }

    other-is : (q : ℕ) → find (sig f x) ≡ Some q → (y : Node) × (slice_get ns q ≡ Some y) × (sig f y ≡ sig f x)
    other-is q e = t.entries.entry (sig f x) q e (of-roots (length ns) f t.reps x (t.parts.inside k x here))

    pub other-inside : (q : ℕ) → find (sig f x) ≡ Some q → q < length ns
    other-inside q e = let o = other-is q e in slice_get_within ns q o.0 o.1

    -- it is found, and waits
    pub table-waits : (q : ℕ) → find (sig f x) ≡ Some q → IsTable ns f find (pending ++ alike q k ∷ []) rest
    table-waits q e = record {
      parts = t.parts;
      reps = t.reps;
      entries = t.entries;
      dirty = λ j h. t.dirty j (inr h);
      waiting = record {
        left = λ p h. elim (has-pushed pending (alike q k) p h) [ inl l ↦ t.waiting.left p l | inr same ↦ subst (λ (w : Cause). w.left < length ns) same (other-inside q e) ];
        right = λ p h. elim (has-pushed pending (alike q k) p h) [ inl l ↦ t.waiting.right p l | inr same ↦ subst (λ (w : Cause). w.right < length ns) same (slice_get_within ns k x here) ];
      };
      covers = covers-step ns f find find pending (pending ++ alike q k ∷ []) k rest (λ y p h. h) (λ p h. has-left pending (alike q k ∷ []) p h) (λ y i. (q, subst (λ z. find (sig f z) ≡ Some q) (node-at ns k x y here i) e, inr (has-last pending (alike q k)))) t.covers;
    }

    pub alike-waits : (q : ℕ) → find (sig f x) ≡ Some q → (p : Cause) → Has (pending ++ alike q k ∷ []) p → Has pending p ⊎ ((p ≡ alike p.left p.right) × AreAlike ns f p.left p.right)
    alike-waits q e p h = elim (has-pushed pending (alike q k) p h) [
      | inl l ↦ inl l
      | inr same ↦ inr (subst (λ (w : Cause). (w ≡ alike w.left w.right) × AreAlike ns f w.left w.right) same (refl, ((other-is q e).0, x, (other-is q e).1, here, (other-is q e).2)))
    ]

    -- it is the first of its signature
    pub table-noted : (more : Node → Option ℕ) → more (sig f x) ≡ Some k → ((y : Node) (q : ℕ) → find y ≡ Some q → more y ≡ Some q) →
        ((y : Node) (q : ℕ) → more y ≡ Some q → ((y ≡ sig f x) × (q ≡ k)) ⊎ (find y ≡ Some q)) → IsTable ns f more pending rest
    table-noted more noted stays others = record {
      parts = t.parts;
      reps = t.reps;
      waiting = t.waiting;
      dirty = λ j h. t.dirty j (inr h);
      entries = record { entry = λ y q e roots. elim (others y q e) [ inl new ↦ (x, subst (λ j. slice_get ns j ≡ Some x) (sym new.1) here, sym new.0) | inr old ↦ t.entries.entry y q old roots ] };
      covers = covers-step ns f find more pending pending k rest stays (λ p h. h) (λ y i. (k, subst (λ z. more (sig f z) ≡ Some k) (node-at ns k x y here i) noted, inl refl)) t.covers;
    }
