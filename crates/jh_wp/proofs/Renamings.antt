-- A renamed formula means what the formula means where the name has the other's value.
use Rattle.std.proofs.Common.{◌≡◌, refl, ℕ, List, arith}
use Rattle.jh_form.specs.jh_name.declared.naming.Name.{Name}
use Rattle.jh_form.specs.Tree.{FormulaTree}
use Rattle.jh_form.specs.Meaning.{Interp, truth}
use Rattle.jh_boxed_operations.specs.jh_boxed.Kept.{Keeps}
use Rattle.jh_boxed_operations.proofs.of_jh_boxed.Meanings.{truth-mapped}
use Rattle.jh_wp.specs.Renamed.{renaming, renamed, copied}

pub renaming-keeps : (x y : Name) (m : Interp) → Keeps (renaming x y) m (copied m x y) (λ d e. e)
renaming-keeps x y m = record {
  last = refl;
  under = λ d e z. refl;
  object = λ z d e f. refl;
  number = λ z d e f. refl;
  truth = λ z d e f. refl;
  set = λ z d e f. refl;
  field = λ z d e f. refl;
  bound = λ k d e f. refl;
}

pub truth-renamed : (a : FormulaTree) (x y : Name) (m : Interp) (env : List ℕ) → truth (renamed a x y) m env ≡ truth a (copied m x y) env
truth-renamed a x y m env = truth-mapped (renaming x y) m (copied m x y) (λ d e. e) (renaming-keeps x y m) a 0 env (omega arith)
