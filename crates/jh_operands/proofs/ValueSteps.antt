-- What the values of expressions of any type cite.
use Rattle.std.proofs.Common.{◌≡◌, sym, ap, subst, ◌∙◌, ℕ, ℤ, Bool, List}
use Rattle.jh_name.specs.declared.naming.Name.{Name}
use Rattle.jh_form.specs.Meaning as m
use Rattle.jh_semantics.specs.State.{State}
use Rattle.jh_semantics.specs.Values.{value, then_value, object_of, number_of, truth_of, value_of}
use Rattle.jh_operands.specs.declared.fault.Fault.{Fault}
use Rattle.jh_operands.specs.declared.fault.Fault.TheVariants as f
use Rattle.jh_operands.specs.declared.exprs.ObjectExpr.{ObjectExpr}
use Rattle.jh_operands.specs.declared.exprs.NumberExpr.{NumberExpr}
use Rattle.jh_operands.specs.declared.exprs.TruthExpr.{TruthExpr}
use Rattle.jh_operands.specs.declared.exprs.AnyExpr.{AnyExpr}
use Rattle.jh_operands.specs.declared.exprs.AnyExpr.TheVariants as x
use Rattle.jh_operands.specs.declared.values.Scalar.TheVariants as v
use Rattle.jh_operands.specs.Exprs.{object_in, number_in, truth_in, any_in, ObjectFits, NumberFits, TruthFits, AnyFits}
use Rattle.jh_operands.specs.Faults.{AnyOverflows, IsFault, ObjectFault, NumberFault, TruthFault, AnyFault}
use Rattle.jh_operands.specs.Scalars.{datum_of}

module _ (names : List Name) (s : State) (e : AnyExpr) where
  pub any_object_value : (a : ObjectExpr) (z : ℕ) → e ≡ x.Object a → AnyFits names e → (ObjectFits names a → object_of (object_in names a) s ≡ value z) → value_of (any_in names e) s ≡ value (datum_of (v.Object z))
  unfolding any_in AnyFits datum_of
  any_object_value a z is fits inner =
      let own : ObjectFits names a = subst (λ d. AnyFits names d) is fits in
      ap (λ d. value_of (any_in names d) s) is ∙ ap (λ w. then_value w (λ x. value (m.an_object x))) (inner own)

  pub any_object_fault : (a : ObjectExpr) (d : Fault) → e ≡ x.Object a → AnyFits names e → (ObjectFits names a → ObjectFault (object_in names a) s d) → AnyFault (any_in names e) s d
  unfolding any_in AnyFits IsFault AnyOverflows
  any_object_fault a (f.Null p) is fits inner =
      let own : ObjectFits names a = subst (λ d. AnyFits names d) is fits in
      ap (λ d. value_of (any_in names d) s) is ∙ ap (λ w. then_value w (λ x. value (m.an_object x))) (inner own)
  any_object_fault a (f.Overflow p) is fits inner =
      let own : ObjectFits names a = subst (λ d. AnyFits names d) is fits in
      subst (λ d. AnyOverflows p (any_in names d) s) (sym is) (inner own)

  pub any_number_value : (a : NumberExpr) (z : ℤ) → e ≡ x.Number a → AnyFits names e → (NumberFits names a → number_of (number_in names a) s ≡ value z) → value_of (any_in names e) s ≡ value (datum_of (v.Number z))
  unfolding any_in AnyFits datum_of
  any_number_value a z is fits inner =
      let own : NumberFits names a = subst (λ d. AnyFits names d) is fits in
      ap (λ d. value_of (any_in names d) s) is ∙ ap (λ w. then_value w (λ x. value (m.a_number x))) (inner own)

  pub any_number_fault : (a : NumberExpr) (d : Fault) → e ≡ x.Number a → AnyFits names e → (NumberFits names a → NumberFault (number_in names a) s d) → AnyFault (any_in names e) s d
  unfolding any_in AnyFits IsFault AnyOverflows
  any_number_fault a (f.Null p) is fits inner =
      let own : NumberFits names a = subst (λ d. AnyFits names d) is fits in
      ap (λ d. value_of (any_in names d) s) is ∙ ap (λ w. then_value w (λ x. value (m.a_number x))) (inner own)
  any_number_fault a (f.Overflow p) is fits inner =
      let own : NumberFits names a = subst (λ d. AnyFits names d) is fits in
      subst (λ d. AnyOverflows p (any_in names d) s) (sym is) (inner own)

  pub any_truth_value : (a : TruthExpr) (z : Bool) → e ≡ x.Truth a → AnyFits names e → (TruthFits names a → truth_of (truth_in names a) s ≡ value z) → value_of (any_in names e) s ≡ value (datum_of (v.Truth z))
  unfolding any_in AnyFits datum_of
  any_truth_value a z is fits inner =
      let own : TruthFits names a = subst (λ d. AnyFits names d) is fits in
      ap (λ d. value_of (any_in names d) s) is ∙ ap (λ w. then_value w (λ x. value (m.a_truth x))) (inner own)

  pub any_truth_fault : (a : TruthExpr) (d : Fault) → e ≡ x.Truth a → AnyFits names e → (TruthFits names a → TruthFault (truth_in names a) s d) → AnyFault (any_in names e) s d
  unfolding any_in AnyFits IsFault AnyOverflows
  any_truth_fault a (f.Null p) is fits inner =
      let own : TruthFits names a = subst (λ d. AnyFits names d) is fits in
      ap (λ d. value_of (any_in names d) s) is ∙ ap (λ w. then_value w (λ x. value (m.a_truth x))) (inner own)
  any_truth_fault a (f.Overflow p) is fits inner =
      let own : TruthFits names a = subst (λ d. AnyFits names d) is fits in
      subst (λ d. AnyOverflows p (any_in names d) s) (sym is) (inner own)

pub ruleset value_steps = (any_object_value, any_object_fault, any_number_value, any_number_fault, any_truth_value, any_truth_fault)
