-- What is none of the expressions and formulas that are asked for.
use Rattle.std.proofs.Common.{◌≡◌, refl, ℤ, false}
use Rattle.jh_name.specs.declared.place.Place.{Place}
use Rattle.jh_ast.specs.declared.expr.ExprBody.{ExprBody}
use Rattle.jh_ast.specs.declared.expr.ExprBody.TheVariants as x
use Rattle.jh_ast.specs.declared.spec.SpecBody.{SpecBody}
use Rattle.jh_ast.specs.declared.spec.SpecBody.TheVariants as y
use Rattle.jh_ast.specs.Bare.{expr_body_tree, form_body_tree}
use Rattle.jh_type.specs.checker.Defaults.{is_null_expr, is_zero_expr, is_false_expr, is_null_form, is_zero_form, is_false_form}

pub not-null : (p : Place) (b : SpecBody) → (b ≡ y.Null → ⊥) → false ≡ is_null_form (form_body_tree p b)
unfolding form_body_tree
not-null p y.Null h = absurd (h refl)
not-null p _ h = refl

pub not-number : (p : Place) (b : SpecBody) → ((z : ℤ) → b ≡ y.Number z → ⊥) → false ≡ is_zero_form (form_body_tree p b)
unfolding form_body_tree
not-number p (y.Number z) h = absurd (h z refl)
not-number p _ h = refl

pub not-false : (p : Place) (b : SpecBody) → (b ≡ y.False → ⊥) → false ≡ is_false_form (form_body_tree p b)
unfolding form_body_tree
not-false p y.False h = absurd (h refl)
not-false p _ h = refl

pub not-null-expr : (p : Place) (b : ExprBody) → (b ≡ x.Null → ⊥) → false ≡ is_null_expr (expr_body_tree p b)
unfolding expr_body_tree
not-null-expr p x.Null h = absurd (h refl)
not-null-expr p _ h = refl

pub not-number-expr : (p : Place) (b : ExprBody) → ((z : ℤ) → b ≡ x.Number z → ⊥) → false ≡ is_zero_expr (expr_body_tree p b)
unfolding expr_body_tree
not-number-expr p (x.Number z) h = absurd (h z refl)
not-number-expr p _ h = refl

pub not-false-expr : (p : Place) (b : ExprBody) → (b ≡ x.False → ⊥) → false ≡ is_false_expr (expr_body_tree p b)
unfolding expr_body_tree
not-false-expr p x.False h = absurd (h refl)
not-false-expr p _ h = refl
