-- The place of a value, and a value whose place is exchanged.
use Rattle.std.proofs.Common.{◌≡◌, refl}
use Rattle.jh_name.specs.declared.place.Place.{Place}
use Rattle.jh_ast.specs.declared.expr.ExprBody.{ExprBody}
use Rattle.jh_ast.specs.declared.expr.ExprBody.TheVariants as x
use Rattle.jh_ast.specs.declared.spec.SpecBody.{SpecBody}
use Rattle.jh_ast.specs.declared.spec.SpecBody.TheVariants as y
use Rattle.jh_ast.specs.Bare.{expr_body_tree, form_body_tree}
use Rattle.jh_ast.specs.Exprs as expr
use Rattle.jh_ast.specs.Forms as form

pub form-moved : (p o : Place) (b : SpecBody) → form_body_tree p b ≡ form.moved p (form_body_tree o b)
unfolding form_body_tree
form-moved p o y.Null = refl
form-moved p o y.True = refl
form-moved p o y.False = refl
form-moved p o y.Univ = refl
form-moved p o (y.Number n) = refl
form-moved p o (y.Name w) = refl
form-moved p o (y.Member' i q a w) = refl
form-moved p o (y.Not' i q a) = refl
form-moved p o (y.Minus' i q a) = refl
form-moved p o (y.Old' i q a) = refl
form-moved p o (y.Card' i q a) = refl
form-moved p o (y.Binary' op i q a j r b) = refl
form-moved p o (y.Dvd' n i q a) = refl
form-moved p o (y.All' ws i q a) = refl
form-moved p o (y.Ex' ws i q a) = refl
form-moved p o (y.Tree ws) = refl
form-moved p o (y.Rtrancl' u v i q a j r b k t c) = refl
form-moved p o (y.Braces' shape fs) = refl
form-moved p o (y.Compr' w i q a) = refl

pub expr-moved : (p o : Place) (b : ExprBody) → expr_body_tree p b ≡ expr.moved p (expr_body_tree o b)
unfolding expr_body_tree
expr-moved p o x.Null = refl
expr-moved p o x.True = refl
expr-moved p o x.False = refl
expr-moved p o (x.Number n) = refl
expr-moved p o x.This = refl
expr-moved p o (x.Name w) = refl
expr-moved p o (x.Member' i q a w) = refl
expr-moved p o (x.Not' i q a) = refl
expr-moved p o (x.Minus' i q a) = refl
expr-moved p o (x.Binary' op i q a j r b) = refl

pub form-place : (p : Place) (b : SpecBody) → form.place_of (form_body_tree p b) ≡ p
unfolding form_body_tree
form-place p y.Null = refl
form-place p y.True = refl
form-place p y.False = refl
form-place p y.Univ = refl
form-place p (y.Number n) = refl
form-place p (y.Name w) = refl
form-place p (y.Member' i q a w) = refl
form-place p (y.Not' i q a) = refl
form-place p (y.Minus' i q a) = refl
form-place p (y.Old' i q a) = refl
form-place p (y.Card' i q a) = refl
form-place p (y.Binary' op i q a j r b) = refl
form-place p (y.Dvd' n i q a) = refl
form-place p (y.All' ws i q a) = refl
form-place p (y.Ex' ws i q a) = refl
form-place p (y.Tree ws) = refl
form-place p (y.Rtrancl' u v i q a j r b k t c) = refl
form-place p (y.Braces' shape fs) = refl
form-place p (y.Compr' w i q a) = refl

pub ruleset place_steps = (form-place)
