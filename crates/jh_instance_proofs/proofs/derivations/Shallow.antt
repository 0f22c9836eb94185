-- Steps whose operands don't nest deep, one by one.
use Rattle.std.proofs.Common.{◌≡◌, ap, ◌∙◌, subst, sym, ℕ, ◌+◌, List, [], ◌∷◌, ◌++◌, map, take, slice_get, Some}
use Rattle.std.proofs.lemmas.List.{map_push}
use Rattle.jh_derivation_rules.specs.Steps.{StepTree, step_tree}
use Rattle.jh_derivation_rules.specs.declared.step.DerivStep.{DerivStep}
use Rattle.jh_instance_proofs.specs.derivations.Nesting.{NestWithin, OperandsNestWithin, operands_of}
use Rattle.jh_instance_proofs.proofs.derivations.Forms.{take-next}

one-more : (n : ℕ) (xs : List StepTree) (x : StepTree) → OperandsNestWithin n xs → NestWithin n (operands_of x) → OperandsNestWithin n (xs ++ x ∷ [])
one-more n [] x h k = (k, tt)
one-more n (y ∷ xs) x h k = (h.0, one-more n xs x h.1 k)

pub step-next : (n : ℕ) (xs : List DerivStep) (i : ℕ) (x : DerivStep) → slice_get xs i ≡ Some x → OperandsNestWithin n (map step_tree (take i xs)) → NestWithin n (operands_of (step_tree x)) → OperandsNestWithin n (map step_tree (take (i + 1) xs))
step-next n xs i x at h k =
    subst (OperandsNestWithin n) (sym (ap (λ (ys : List DerivStep). map step_tree ys) (take-next xs i x at) ∙ map_push step_tree (take i xs) x)) (one-more n (map step_tree (take i xs)) (step_tree x) h k)
