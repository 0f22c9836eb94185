-- The classes of two nodes made one by a merge.
use Rattle.std.proofs.Common.{◌≡◌, ◌≢◌, refl, sym, subst, ◌∙◌, ℕ, ◌<◌, List, [], ◌∷◌, ◌++◌, length, ◌⊎◌, inl, inr, Option}
use Rattle.jh_closure.specs.declared.union_find.merge.Cause.{Cause}
use Rattle.jh_closure.specs.declared.union_find.merge.Merge.{Merge}
use Rattle.jh_closure.specs.union_find.Merges.{class_of, IsOriented}
use Rattle.jh_closure.proofs.union_find.Rooting.{class-push}
use Rattle.jh_closure.specs.declared.congruence_closure.node.Node.{Node}
use Rattle.jh_closure.specs.congruence_closure.Closing.{IsTable, Touches, Keeps}
use Rattle.jh_closure.proofs.congruence_closure.Merging.{joined, keeps, table-merged}

module _ (ns : List Node) (ms : List Merge) (find : Node → Option ℕ) (ps : List Cause) (p : Cause) (t : IsTable ns (class_of ms) find (p ∷ ps) []) (apart : class_of ms p.left ≢ class_of ms p.right)
    (first second : ℕ) (ef : first ≡ class_of ms p.left) (eg : second ≡ class_of ms p.right) (m : Merge) (o : IsOriented p first second m) where
  pub cause-left : p.left < length ns
  cause-left = t.waiting.left p (inl refl)

  pub cause-right : p.right < length ns
  cause-right = t.waiting.right p (inl refl)

  ways : ((class_of ms p.left ≡ m.small) × (class_of ms p.right ≡ m.large)) ⊎ ((class_of ms p.left ≡ m.large) × (class_of ms p.right ≡ m.small))
  ways = elim o.sides [ inl s ↦ inl (sym (s.2 ∙ ef), sym (s.3 ∙ eg)) | inr s ↦ inr (sym (s.3 ∙ ef), sym (s.2 ∙ eg)) ]

  pub small-inside : m.small < length ns
  small-inside = elim ways [ inl w ↦ subst (λ z. z < length ns) w.0 (t.reps.inside p.left cause-left) | inr w ↦ subst (λ z. z < length ns) w.1 (t.reps.inside p.right cause-right) ]

  pub large-inside : m.large < length ns
  large-inside = elim ways [ inl w ↦ subst (λ z. z < length ns) w.1 (t.reps.inside p.right cause-right) | inr w ↦ subst (λ z. z < length ns) w.0 (t.reps.inside p.left cause-left) ]

  pub small-root : class_of ms m.small ≡ m.small
  small-root = elim ways [ inl w ↦ subst (λ z. class_of ms z ≡ z) w.0 (t.reps.root p.left cause-left) | inr w ↦ subst (λ z. class_of ms z ≡ z) w.1 (t.reps.root p.right cause-right) ]

  pub large-root : class_of ms m.large ≡ m.large
  large-root = elim ways [ inl w ↦ subst (λ z. class_of ms z ≡ z) w.1 (t.reps.root p.right cause-right) | inr w ↦ subst (λ z. class_of ms z ≡ z) w.0 (t.reps.root p.left cause-left) ]

  pub sides-apart : m.small ≢ m.large
  sides-apart e = elim ways [ inl w ↦ apart (w.0 ∙ (e ∙ sym w.1)) | inr w ↦ apart (w.0 ∙ (sym e ∙ sym w.1)) ]

  pub nodes-joined : class_of (ms ++ m ∷ []) p.left ≡ class_of (ms ++ m ∷ []) p.right
  nodes-joined = joined ns (class_of ms) (class_of (ms ++ m ∷ [])) find ps p t m.small m.large (class-push ms m) small-root large-inside large-root sides-apart ways

  pub classes-kept : Keeps (length ns) (class_of ms) (class_of (ms ++ m ∷ []))
  classes-kept = keeps ns (class_of ms) (class_of (ms ++ m ∷ [])) find ps p t m.small m.large (class-push ms m) small-root large-inside large-root sides-apart ways

  pub table-joined : (dirty : List ℕ) → Touches ns (class_of ms) m.small dirty → IsTable ns (class_of (ms ++ m ∷ [])) find ps dirty
  table-joined dirty touches = table-merged ns (class_of ms) (class_of (ms ++ m ∷ [])) find ps p t m.small m.large (class-push ms m) small-root large-inside large-root sides-apart ways dirty touches
