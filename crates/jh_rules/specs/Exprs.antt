-- What is found of expressions and calls.
use Rattle.std.specs.Prelude.{ℕ, ◌||◌, not, Bool, true, false, List, ◌∷◌, length, Option, Some, None, is_some, codes, if◌then◌else◌}
use Rattle.std.specs.List.{flat_map}
use Rattle.std.specs.Option.{option_map_or}
use Rattle.jh_ast.specs.jh_name.declared.place.Place.{Place}
use Rattle.jh_ast.specs.declared.word.Word.{Word}
use Rattle.jh_ast.specs.declared.expr.Op.{Op}
use Rattle.jh_ast.specs.declared.expr.Op.TheVariants as op
use Rattle.jh_ast.specs.Exprs.{ExprTree}
use Rattle.jh_ast.specs.Exprs as e
use Rattle.jh_ast.specs.Stmts.{CallTree}
use Rattle.jh_rules.specs.declared.types.Ty.{Ty}
use Rattle.jh_rules.specs.declared.types.Ty.TheVariants as ty
use Rattle.jh_rules.specs.Faults.{Judged, right, given, also, fine, both, pair_of, ◌>>=◌}
use Rattle.jh_rules.specs.Words.{same_text, text_of}
use Rattle.jh_rules.specs.Kinds.{class_of}
use Rattle.jh_rules.specs.declared.entries.FieldEntry.{FieldEntry}
use Rattle.jh_rules.specs.declared.entries.MethodEntry.{MethodEntry}
use Rattle.jh_rules.specs.declared.entries.LocalEntry.{LocalEntry}
use Rattle.jh_rules.specs.Names.{Declared}
use Rattle.jh_rules.specs.Scopes.{Scope}
use Rattle.jh_rules.specs.Rules.{rule_13, rule_14, rule_15, rule_18, rule_19, rule_20, rule_21, rule_22, rule_23, rule_23_number}

module _ (l : Declared) (at : Scope) where
  -- The class that a word names as a receiver, which is neither a local nor a member of the own class; `Object`
  -- names a class without members.
  abbrev pub class_word : Word → Option (Option ℕ)
  class_word w =
      if is_some (at.local (text_of w)) || is_some (l.field_of at.class (text_of w)) then None else
      option_map_or (λ n. Some (Some n)) (l.class_named (text_of w)) (if same_text (text_of w) (codes "Object") then Some None else None)

  abbrev pub class_spelled : ExprTree → Option (Option ℕ)
  class_spelled (e.name q w) = class_word w
  class_spelled _ = None

  -- what stands before a dot: the class that is looked in, and whether a static is wanted there
  abbrev pub receiver : Option (Option ℕ) → Judged Ty → Judged (Option ℕ × Bool)
  receiver (Some c) j = right (c, true)
  receiver None j = j >>= λ t. right (class_of t, false)

  abbrev pub field_type : Word → FieldEntry → Judged Ty
  field_type w x = rule_14 (x.fixed || not at.fixed) w.place x >>= λ y. given y.ty

  abbrev pub name_type : Word → Judged Ty
  name_type w =
      option_map_or (λ (x : LocalEntry). given x.ty) (at.local (text_of w))
      (option_map_or (field_type w) (l.field_of at.class (text_of w)) (rule_13 w))

  abbrev pub two : (ExprTree → Ty → Judged Ty) → ExprTree → Judged Ty → ExprTree → Judged Ty → Ty → Judged Ty
  two rule a j b m t = both (j >>= rule a) (m >>= rule b) >>= λ u. right t

  abbrev pub product : Place → ExprTree → Judged Ty → ExprTree → Judged Ty → Judged Ty
  product q a j b m = both (two (rule_18) a j b m ty.Int) (given (pair_of j.known m.known) >>= λ u. rule_19 q a b) >>= λ u. right ty.Int

  abbrev pub binary_type : Place → Op → ExprTree → Judged Ty → ExprTree → Judged Ty → Judged Ty
  binary_type q op.Or a j b m = two (rule_20) a j b m ty.Boolean
  binary_type q op.And a j b m = two (rule_20) a j b m ty.Boolean
  binary_type q op.Equal a j b m = both j m >>= λ u. rule_21 q u.0 u.1
  binary_type q op.NotEqual a j b m = both j m >>= λ u. rule_21 q u.0 u.1
  binary_type q op.Less a j b m = two (rule_18) a j b m ty.Boolean
  binary_type q op.LessEq a j b m = two (rule_18) a j b m ty.Boolean
  binary_type q op.Greater a j b m = two (rule_18) a j b m ty.Boolean
  binary_type q op.GreaterEq a j b m = two (rule_18) a j b m ty.Boolean
  binary_type q op.Add a j b m = two (rule_18) a j b m ty.Int
  binary_type q op.Sub a j b m = two (rule_18) a j b m ty.Int
  binary_type q op.Mul a j b m = product q a j b m

  unfoldable pub expr_type : ExprTree → Judged Ty
  expr_type (e.null q) = right ty.Null
  expr_type (e.yes q) = right ty.Boolean
  expr_type (e.no q) = right ty.Boolean
  expr_type (e.number q z) = right ty.Int
  expr_type (e.this q) = rule_14 (not at.fixed) q (ty.Class at.class)
  expr_type (e.name q w) = name_type w
  expr_type (e.member q a w) = receiver (class_spelled a) (expr_type a) >>= λ r. rule_15 l r.0 r.1 (e.place_of a) (text_of w)
  expr_type (e.negation q a) = expr_type a >>= rule_20 a
  expr_type (e.minus q a) = expr_type a >>= rule_18 a
  expr_type (e.binary q o a b) = binary_type q o a (expr_type a) b (expr_type b)

  -- a call
  abbrev pub call_place : CallTree → Place
  call_place c = option_map_or e.place_of c.receiver c.method.place

  abbrev pub own_or_static : Bool → Option Bool
  own_or_static fixed = if fixed then Some true else None

  -- the class that is looked in and which methods are wanted there: static, instance or any
  abbrev pub callee_class : Option ExprTree → Judged (Option ℕ × Option Bool)
  callee_class None = right (Some at.class, own_or_static at.fixed)
  callee_class (Some a) = receiver (class_spelled a) (expr_type a) >>= λ r. right (r.0, Some r.1)

  abbrev pub callee : CallTree → Option ℕ × Option Bool → Judged MethodEntry
  callee c r = rule_22 (call_place c) r.1 (option_map_or (λ k. l.method_of k (text_of c.method)) r.0 None)

  -- each argument against its parameter, where both have a type
  unfoldable pub arguments : List ExprTree → List (Option Ty) → Judged (Unit {0})
  arguments (a ∷ rest) (d ∷ ds) = both (both (given (expr_type a).known) (given d) >>= λ t. rule_23 a t.0 t.1) (arguments rest ds) >>= λ u. fine
  arguments _ _ = fine

  -- the result of a method for some arguments
  abbrev pub result_of : Place → ℕ → List ExprTree → MethodEntry → Judged Ty
  result_of place number es m = rule_23_number place number (length m.params) m >>= λ n. arguments es n.params >>= λ u. given n.result

  abbrev pub call_type : CallTree → Judged Ty
  call_type c = also (flat_map (λ a. (expr_type a).faults) c.args) (callee_class c.receiver >>= λ r. callee c r >>= result_of (call_place c) (length c.args) c.args)
