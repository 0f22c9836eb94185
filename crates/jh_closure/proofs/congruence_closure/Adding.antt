-- Nodes added to the lists of their parts.
use Rattle.std.proofs.Common.{◌≡◌, refl, sym, subst, ◌∙◌, ℕ, ◌==◌, if◌then◌else◌, List, [], ◌∷◌, ◌++◌, ◌⊎◌, inl, inr}
use Rattle.std.proofs.lemmas.Bool.Decides.{eqb_tells}
use Rattle.jh_closure.specs.declared.congruence_closure.node.Node.{Node}
use Rattle.jh_closure.specs.declared.congruence_closure.node.Node.TheVariants as n
use Rattle.jh_closure.specs.congruence_closure.Nodes.{EachPart, Has}
use Rattle.jh_closure.proofs.congruence_closure.Having.{has-left, has-last, has-pushed}
use Rattle.jh_closure.proofs.congruence_closure.Using.{at-one, at-other}

-- one node more in one list
module _ (old new : ℕ → List ℕ) (class node : ℕ) (e : (r : ℕ) → new r ≡ (if r == class then old class ++ node ∷ [] else old r)) where
  pub use-here : Has (new class) node
  use-here = subst (λ ks. Has ks node) (sym (e class ∙ at-one class class (old class ++ node ∷ []) (old class) refl)) (has-last (old class) node)

  pub use-keeps : (p k : ℕ) → Has (old p) k → Has (new p) k
  use-keeps p k h = elim (eqb_tells p class) [
    | inl same ↦ subst (λ ks. Has ks k) (sym (e p ∙ at-one p class (old class ++ node ∷ []) (old p) same.1)) (has-left (old class) (node ∷ []) k (subst (λ r. Has (old r) k) same.1 h))
    | inr other ↦ subst (λ ks. Has ks k) (sym (e p ∙ at-other p class (old class ++ node ∷ []) (old p) other.1)) h
  ]

  pub use-only : (p k : ℕ) → Has (new p) k → Has (old p) k ⊎ (k ≡ node)
  use-only p k h = elim (eqb_tells p class) [
    | inl same ↦ elim (has-pushed (old class) node k (subst (λ ks. Has ks k) (e p ∙ at-one p class (old class ++ node ∷ []) (old p) same.1) h)) [
      | inl was ↦ inl (subst (λ r. Has (old r) k) (sym same.1) was)
      | inr now ↦ inr (sym now)
    ]
    | inr other ↦ inl (subst (λ ks. Has ks k) (e p ∙ at-other p class (old class ++ node ∷ []) (old p) other.1) h)
  ]

-- a node in the lists of its two parts
module _ (old mid new : ℕ → List ℕ) (left right node : ℕ) (e : (r : ℕ) → mid r ≡ (if r == left then old left ++ node ∷ [] else old r)) (f : (r : ℕ) → new r ≡ (if r == right then mid right ++ node ∷ [] else mid r)) where
  pub both-here : (x : Node) (o : ℕ) → x ≡ n.Apply o left right → EachPart (λ p. Has (new p) node) x
  both-here x o is = subst (λ z. EachPart (λ p. Has (new p) node) z) (sym is) (use-keeps mid new right node f left node (use-here old mid left node e), use-here mid new right node f)

  pub both-keep : (p k : ℕ) → Has (old p) k → Has (new p) k
  both-keep p k h = use-keeps mid new right node f p k (use-keeps old mid left node e p k h)

  pub both-only : (p k : ℕ) → Has (new p) k → Has (old p) k ⊎ (k ≡ node)
  both-only p k h = elim (use-only mid new right node f p k h) [ inl was ↦ use-only old mid left node e p k was | inr now ↦ inr now ]
