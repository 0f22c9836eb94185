-- Where eliminating fields loses nothing: where each constraint leaves one value.
use Rattle.std.specs.Prelude.{◌≡◌, ℕ, suc, ◌<◌, Bool, true, false, not, ◌||◌, List, [], ◌∷◌, Option, None, Some}
use Rattle.std.specs.List.{list_any}
use Rattle.jh_name.specs.declared.naming.Name.{Name}
use Rattle.jh_form.specs.Tree.{ValueTree, FormulaTree}
use Rattle.jh_form.specs.Tree as t
use Rattle.jh_form.specs.Meaning.{Interp, InUniverse, truth}
use Rattle.jh_form.specs.Passing.{field_passes, set_passes}
use Rattle.jh_normal_forms.specs.declared.parts.order.Order.TheVariants as order
use Rattle.jh_normal_forms.specs.parts.Standing.{formula_parts}
use Rattle.jh_seq.specs.sequent.Sequents.{SequentTree, AllTrue}
use Rattle.jh_fca.specs.elimination.Constraints.{Constraint, other_than}
use Rattle.jh_fca.specs.elimination.Eliminated.{step, at_turn, step_of}

-- There is one y of the universe, and no other, of which the constraint is true at x.
pub record HasOne (c : Constraint) (m : Interp) (x : ℕ) : Type 0 where
  pub one : ℕ
  pub inside : one < suc m.last
  pub is : truth c.says m (one ∷ x ∷ []) ≡ true
  pub alone : (y : ℕ) → y < suc m.last → truth c.says m (y ∷ x ∷ []) ≡ true → y ≡ one

-- The constraint leaves one value at each object, in every interpretation in which these hypotheses are true.
abbrev pub IsDeterministic : Constraint → SequentTree → Type 0
IsDeterministic c s = (m : Interp) → InUniverse m → AllTrue s.hyps m → (x : ℕ) → x < suc m.last → HasOne c m x

-- whether a field stands in an update or a comprehension
unfoldable pub is_within : Name → ValueTree → Bool
is_within f (t.of_field (t.update g a v)) = not (field_passes (t.update g a v) (other_than f))
is_within f (t.of_set (t.compr a)) = not (set_passes (t.compr a) (other_than f))
is_within f v = false

unfoldable pub stands_within : Name → FormulaTree → Bool
stands_within f a = list_any (is_within f) (formula_parts a order.InnerFirst)

unfoldable pub stands_within_any : Name → SequentTree → Bool
stands_within_any f s = list_any (λ h. stands_within f h.fact) s.hyps || stands_within f s.goal

-- At the step of a field its constraint is deterministic by the hypotheses that the step leaves, and the field stands in no
-- update and in no comprehension.
pub record IsExactStep (c : Constraint) (s : SequentTree) : Type 0 where
  pub one : IsDeterministic c (step c s)
  pub bare : stands_within_any c.field s ≡ false

-- nothing is asked of a field that is passed over
abbrev pub IsExactBy : Option Constraint → SequentTree → Type 0
IsExactBy None s = Unit {0}
IsExactBy (Some c) s = IsExactStep c s

-- each of these fields when its turn comes
abbrev pub AreExact : List Name → SequentTree → Type 0
AreExact [] s = Unit {0}
AreExact (f ∷ fs) s = IsExactBy (at_turn f s) s × AreExact fs (step_of f s)
