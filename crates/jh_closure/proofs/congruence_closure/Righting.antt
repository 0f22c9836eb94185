-- Merges that are right by the equations.
use Rattle.std.proofs.Common.{◌≡◌, refl, sym, ap, subst, ◌∙◌, ℕ, ◌<◌, ◌==◌, if◌then◌else◌, List, [], ◌∷◌, ◌++◌, length, slice_get, ◌⊎◌, inl, inr, Some, arith}
use Rattle.std.proofs.lemmas.Option.{slice_get_within}
use Rattle.jh_closure.specs.declared.union_find.merge.Cause.{Cause}
use Rattle.jh_closure.specs.declared.union_find.merge.Merge.{Merge}
use Rattle.jh_closure.specs.declared.union_find.merge.Why.{Why}
use Rattle.jh_closure.specs.declared.union_find.merge.Why.TheVariants as why
use Rattle.jh_closure.specs.union_find.Merges.{merged, root, class_of, IsOriented}
use Rattle.jh_closure.proofs.union_find.Rooting.{root-front, class-push}
use Rattle.jh_closure.proofs.union_find.Stamping.{at-push}
use Rattle.jh_closure.specs.declared.congruence_closure.equation.Equation.{Equation}
use Rattle.jh_closure.specs.declared.congruence_closure.node.Node.{Node}
use Rattle.jh_closure.specs.declared.congruence_closure.node.Node.TheVariants as n
use Rattle.jh_closure.specs.congruence_closure.Nodes.{sig, Has}
use Rattle.jh_closure.specs.congruence_closure.Closing.{Justified, AreAlike, IsTrail, AreRight, alike}

pub justified-other : (ns : List Node) (said : List Equation) (f : ℕ → ℕ) (w : Why) (a b : ℕ) → Justified ns said f w a b → Justified ns said f w b a
justified-other ns said f (why.Given i) a b (inl e) = inr e
justified-other ns said f (why.Given i) a b (inr e) = inl e
justified-other ns said f why.Alike a b h = (h.1, h.0, h.3, h.2, sym h.4)

abbrev moved : ℕ → ℕ → ℕ → ℕ
moved small large z = if z == small then large else z

sig-through : (f g : ℕ → ℕ) (small large : ℕ) → ((k : ℕ) → g k ≡ merged f small large k) → (x : Node) → sig g x ≡ sig (moved small large) (sig f x)
sig-through f g small large is (n.Leaf o) = refl
sig-through f g small large is (n.Apply o a b) = λ i. n.Apply o (is a i) (is b i)

-- what was right before a merge is right after it
pub justified-merged : (ns : List Node) (said : List Equation) (f g : ℕ → ℕ) (small large : ℕ) → ((k : ℕ) → g k ≡ merged f small large k) →
    (w : Why) (a b : ℕ) → Justified ns said f w a b → Justified ns said g w a b
justified-merged ns said f g small large is (why.Given i) a b h = h
justified-merged ns said f g small large is why.Alike a b h =
    (h.0, h.1, h.2, h.3, sig-through f g small large is h.0 ∙ (ap (sig (moved small large)) h.4 ∙ sym (sig-through f g small large is h.1)))

module _ (ns : List Node) (said : List Equation) (ms : List Merge) (m : Merge) (r : IsTrail ns said ms) (left : class_of ms m.left ≡ m.small) (right : class_of ms m.right ≡ m.large)
    (li : m.left < length ns) (ri : m.right < length ns) (just : Justified ns said (class_of ms) m.why m.left m.right) where
  front : (t k : ℕ) (x : Merge) → slice_get ms t ≡ Some x → root (ms ++ m ∷ []) t k ≡ root ms t k
  front t k x e = let l : t < length ms = slice_get_within ms t x e in root-front ms m t k (omega (arith, l))

  last : (t k : ℕ) → t ≡ length ms → root (ms ++ m ∷ []) t k ≡ class_of ms k
  last t k e = ap (λ z. root (ms ++ m ∷ []) z k) e ∙ root-front ms m (length ms) k (omega arith)

  pub trail-push : IsTrail ns said (ms ++ m ∷ [])
  trail-push = record {
    left = λ t x h. elim (at-push ms m x t h) [ inl old ↦ front t x.left x old ∙ r.left t x old | inr new ↦ subst (λ (y : Merge). root (ms ++ m ∷ []) t y.left ≡ y.small) new.1 (last t m.left new.0 ∙ left) ];
    right = λ t x h. elim (at-push ms m x t h) [ inl old ↦ front t x.right x old ∙ r.right t x old | inr new ↦ subst (λ (y : Merge). root (ms ++ m ∷ []) t y.right ≡ y.large) new.1 (last t m.right new.0 ∙ right) ];
    left_inside = λ t x h. elim (at-push ms m x t h) [ inl old ↦ r.left_inside t x old | inr new ↦ subst (λ (y : Merge). y.left < length ns) new.1 li ];
    right_inside = λ t x h. elim (at-push ms m x t h) [ inl old ↦ r.right_inside t x old | inr new ↦ subst (λ (y : Merge). y.right < length ns) new.1 ri ];
    why = λ t x h. elim (at-push ms m x t h) [
      | inl old ↦ subst (λ f. Justified ns said f x.why x.left x.right) (sym (λ i k. front t k x old i)) (r.why t x old)
      | inr new ↦ subst (λ (y : Merge). Justified ns said (root (ms ++ m ∷ []) t) y.why y.left y.right) new.1 (subst (λ f. Justified ns said f m.why m.left m.right) (sym (λ i k. last t k new.0 i)) just)
    ];
  }

-- a merge of the classes of the first that wait is right
pub right-joined : (ns : List Node) (said : List Equation) (ms : List Merge) (p : Cause) (ps qs : List Cause) (m : Merge) (first second : ℕ) →
    class_of ms p.left ≡ first → class_of ms p.right ≡ second → IsOriented p first second m → p.left < length ns → p.right < length ns →
    ((q : Cause) → Has qs q → Has ps q ⊎ ((q ≡ alike q.left q.right) × AreAlike ns (class_of (ms ++ m ∷ [])) q.left q.right)) →
    AreRight ns said ms (p ∷ ps) → AreRight ns said (ms ++ m ∷ []) qs
right-joined ns said ms p ps qs m first second ef es o li ri from h = record { trail = trail; causes = λ q w. cause q (from q w) }
  where
    just : Justified ns said (class_of ms) p.why p.left p.right
    just = h.causes p (inl refl)

    trail : IsTrail ns said (ms ++ m ∷ [])
    trail = elim o.sides [
      | inl s ↦ trail-push ns said ms m h.trail (ap (class_of ms) s.0 ∙ (ef ∙ sym s.2)) (ap (class_of ms) s.1 ∙ (es ∙ sym s.3)) (subst (λ z. z < length ns) (sym s.0) li) (subst (λ z. z < length ns) (sym s.1) ri)
          (subst (λ z. z) (sym (λ i. Justified ns said (class_of ms) (o.why i) (s.0 i) (s.1 i))) just)
      | inr s ↦ trail-push ns said ms m h.trail (ap (class_of ms) s.0 ∙ (es ∙ sym s.2)) (ap (class_of ms) s.1 ∙ (ef ∙ sym s.3)) (subst (λ z. z < length ns) (sym s.0) ri) (subst (λ z. z < length ns) (sym s.1) li)
          (subst (λ z. z) (sym (λ i. Justified ns said (class_of ms) (o.why i) (s.0 i) (s.1 i))) (justified-other ns said (class_of ms) p.why p.left p.right just))
    ]

    cause : (q : Cause) → Has ps q ⊎ ((q ≡ alike q.left q.right) × AreAlike ns (class_of (ms ++ m ∷ [])) q.left q.right) → Justified ns said (class_of (ms ++ m ∷ [])) q.why q.left q.right
    cause q (inl old) = justified-merged ns said (class_of ms) (class_of (ms ++ m ∷ [])) m.small m.large (class-push ms m) q.why q.left q.right (h.causes q (inr old))
    cause q (inr new) = subst (λ w. Justified ns said (class_of (ms ++ m ∷ [])) w q.left q.right) (sym (λ i. (new.0 i).why)) new.1
