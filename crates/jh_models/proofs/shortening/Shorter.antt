-- An explanation while it is shortened.
use Rattle.std.proofs.Common.{◌≡◌, sym, subst, List, [], ◌∷◌, ◌++◌, inl, inr}
use Rattle.jh_form.specs.Tree.{FormulaTree}
use Rattle.jh_closure.specs.structures.Literals.{LiteralTree, IsListed}
use Rattle.jh_models.specs.ground_models.Clashes.{Clash}
use Rattle.jh_models.specs.ground_models.Explanations.{ClosesBranch, IsLeft, IsExplanation}
use Rattle.jh_models.specs.shortening.Steps.{IsMost}
use Rattle.jh_models.specs.shortening.Shortened.{IsNeededIn, IsShortened}
use Rattle.jh_models.proofs.shortening.Leaving.{left-listed, left-through, left-before}
use Rattle.jh_models.proofs.shortening.Stepping.{steps-close}

module _ (is : List FormulaTree) (ds : List LiteralTree) where
  pub begun : (ls : List LiteralTree) → ClosesBranch is ds ls → IsShortened is ds [] ls
  begun ls h = record { closes = h; needs = λ l g. absurd g }

  pub with-needed : (tried ls : List LiteralTree) (l : LiteralTree) → IsShortened is ds tried ls → (IsListed ls l → IsNeededIn is ds ls l) → IsShortened is ds (l ∷ tried) ls
  with-needed tried ls l h f = record { closes = h.closes; needs = each }
    where
      each : (k : LiteralTree) → IsListed (l ∷ tried) k → IsListed ls k → IsNeededIn is ds ls k
      each k (inl e) = subst (λ z. IsListed ls z → IsNeededIn is ds ls z) e f
      each k (inr g) = h.needs k g

  pub shorter : (tried gone rest kept : List LiteralTree) (l : LiteralTree) → IsShortened is ds tried (gone ++ rest) → IsMost is ds l gone kept → Clash is kept → IsShortened is ds (l ∷ tried) kept
  shorter tried gone rest kept l h most clash = with-needed tried kept l fewer (λ g. absurd (most.lacks g))
    where
      left : IsLeft kept (gone ++ rest)
      left = left-before kept gone rest most.left

      fewer : IsShortened is ds tried kept
      fewer = record {
        closes = steps-close is ds kept most.goes clash;
        needs = λ k g there ks some lacks closes. h.needs k g (left-listed kept (gone ++ rest) k left there) ks (left-through ks kept (gone ++ rest) some left) lacks closes;
      }

  pub ended : (tried ls : List LiteralTree) → IsShortened is ds tried ls → ((l : LiteralTree) → IsListed ds l → IsListed tried l) → IsExplanation is ds ls
  ended tried ls h all = record { closes = h.closes; needs = λ l g there. h.needs l (all l g) there }
