-- Types and kinds as tests.
use Rattle.std.specs.Prelude.{ℕ, ◌==◌, ◌||◌, Bool, true, false, Option, Some, None}
use Rattle.jh_ast.specs.jh_name.declared.place.Kind.{Kind}
use Rattle.jh_ast.specs.jh_name.declared.place.Kind.TheVariants as k
use Rattle.jh_rules.specs.declared.types.Ty.{Ty}
use Rattle.jh_rules.specs.declared.types.Ty.TheVariants as ty

abbrev pub is_int : Ty → Bool
is_int ty.Int = true
is_int _ = false

abbrev pub is_boolean : Ty → Bool
is_boolean ty.Boolean = true
is_boolean _ = false

abbrev pub is_void : Ty → Bool
is_void ty.Void = true
is_void _ = false

-- whether a value of a type fits a target of a type
abbrev pub fits : Ty → Ty → Bool
fits ty.Int ty.Int = true
fits ty.Boolean ty.Boolean = true
fits ty.Void ty.Void = true
fits ty.Null ty.Null = true
fits ty.Null ty.Object = true
fits ty.Null (ty.Class c) = true
fits ty.Object ty.Object = true
fits (ty.Class c) ty.Object = true
fits (ty.Class c) (ty.Class d) = c == d
fits _ _ = false

-- the class of an object type
abbrev pub class_of : Ty → Option ℕ
class_of (ty.Class c) = Some c
class_of _ = None

abbrev pub kind_of : Ty → Kind
kind_of ty.Int = k.Int
kind_of ty.Boolean = k.Bool
kind_of _ = k.Obj

abbrev pub is_obj : Kind → Bool
is_obj k.Obj = true
is_obj _ = false

abbrev pub is_number : Kind → Bool
is_number k.Int = true
is_number _ = false

abbrev pub is_truth : Kind → Bool
is_truth k.Bool = true
is_truth _ = false

abbrev pub is_set : Kind → Bool
is_set k.Set = true
is_set _ = false

abbrev pub is_number_or_set : Kind → Bool
is_number_or_set x = is_number x || is_set x

abbrev pub same_kind : Kind → Kind → Bool
same_kind k.Obj y = is_obj y
same_kind k.Int y = is_number y
same_kind k.Bool y = is_truth y
same_kind k.Set y = is_set y
