-- What stands in two lists.
use Rattle.std.proofs.Common.{sym, subst, List, [], ◌∷◌, ◌++◌, inl, inr}
use Rattle.jh_closure.specs.congruence_closure.Nodes.{Has}
use Rattle.jh_closure.proofs.congruence_closure.Having.{has-left, has-last, has-pushed}
use Rattle.jh_propagation.specs.declared.trail.decided.Decided.{Decided}
use Rattle.jh_propagation.specs.trail.Looks.{AreCommon}

-- one more of the first list, which stands in the second
pub common-more : (xs ys zs : List Decided) (d : Decided) → AreCommon xs ys zs → Has ys d → AreCommon (xs ++ d ∷ []) ys (zs ++ d ∷ [])
common-more xs ys zs d f there = record {
  left = λ l h. elim (has-pushed zs d l h) [ inl before ↦ has-left xs (d ∷ []) l (f.left l before) | inr it ↦ subst (Has (xs ++ d ∷ [])) it (has-last xs d) ];
  right = λ l h. elim (has-pushed zs d l h) [ inl before ↦ f.right l before | inr it ↦ subst (Has ys) it there ];
  all = λ l h k. elim (has-pushed xs d l h) [ inl before ↦ has-left zs (d ∷ []) l (f.all l before k) | inr it ↦ subst (Has (zs ++ d ∷ [])) it (has-last zs d) ];
}

-- and one that doesn't
pub common-less : (xs ys zs : List Decided) (d : Decided) → AreCommon xs ys zs → (Has ys d → ⊥) → AreCommon (xs ++ d ∷ []) ys zs
common-less xs ys zs d f not_there = record {
  left = λ l h. has-left xs (d ∷ []) l (f.left l h);
  right = f.right;
  all = λ l h k. elim (has-pushed xs d l h) [ inl before ↦ f.all l before k | inr it ↦ absurd (not_there (subst (Has ys) (sym it) k)) ];
}
