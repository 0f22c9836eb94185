-- Defaults are what the tests say.
use Rattle.std.proofs.Common.{◌≤◌, List, [], ◌∷◌, length, arith, ◌≡◌, refl, ℕ, pos, negsuc, false}
use Rattle.jh_name.specs.declared.place.Kind.TheVariants as k
use Rattle.jh_ast.specs.declared.spec.SpecTree.{SpecTree}
use Rattle.jh_ast.specs.Bare.{form_trees}
use Rattle.jh_ast.specs.Exprs.{ExprTree}
use Rattle.jh_ast.specs.Exprs as e
use Rattle.jh_ast.specs.Forms.{FormTree, FormTrees}
use Rattle.jh_ast.specs.Forms as f
use Rattle.jh_rules.specs.declared.types.Ty.TheVariants as ty
use Rattle.jh_rules.specs.Rules.{is_default, is_default_form}
use Rattle.jh_type.specs.checker.Defaults.{has_none, is_zero_expr, is_false_expr, is_null_expr, is_null_form, is_zero_form, is_false_form, is_empty_form}

pub default-int : (a : ExprTree) → is_zero_expr a ≡ is_default ty.Int a
default-int (e.number q (pos n)) = refl
default-int (e.number q (negsuc n)) = refl
default-int _ = refl

pub default-boolean : (a : ExprTree) → is_false_expr a ≡ is_default ty.Boolean a
default-boolean (e.no q) = refl
default-boolean _ = refl

pub default-object : (a : ExprTree) → is_null_expr a ≡ is_default ty.Object a
default-object (e.null q) = refl
default-object _ = refl

pub default-class : (c : ℕ) (a : ExprTree) → is_null_expr a ≡ is_default (ty.Class c) a
default-class c (e.null q) = refl
default-class c _ = refl

pub default-void : (a : ExprTree) → false ≡ is_default ty.Void a
default-void _ = refl

pub default-null : (a : ExprTree) → false ≡ is_default ty.Null a
default-null _ = refl

pub form-obj : (a : FormTree) → is_null_form a ≡ is_default_form k.Obj a
form-obj (f.null q) = refl
form-obj _ = refl

pub form-int : (a : FormTree) → is_zero_form a ≡ is_default_form k.Int a
form-int (f.number q (pos n)) = refl
form-int (f.number q (negsuc n)) = refl
form-int _ = refl

pub form-bool : (a : FormTree) → is_false_form a ≡ is_default_form k.Bool a
form-bool (f.no q) = refl
form-bool _ = refl

pub form-set : (a : FormTree) → is_empty_form a ≡ is_default_form k.Set a
form-set (f.braces q f.none) = refl
form-set (f.braces q (f.more a fs)) = refl
form-set _ = refl

pub has-some : (items : List SpecTree) → 1 ≤ length items → false ≡ has_none (form_trees items)
has-some [] le = absurd (omega arith)
has-some (a ∷ items) le = refl

pub ruleset default_steps = (default-int, default-boolean, default-object, default-class, default-void, default-null, form-obj, form-int, form-bool, form-set)
