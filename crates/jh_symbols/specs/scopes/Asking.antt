-- What is asked of parts of expressions, each under a name of its own.
use Rattle.std.specs.Prelude.{ℕ, not, true, Bool, List, map, length, Option, Some, None, if◌then◌else◌}
use Rattle.std.specs.Option.{option_map_or}
use Rattle.jh_name.specs.declared.place.Place.{Place}
use Rattle.jh_ast.specs.Exprs.{ExprTree}
use Rattle.jh_rules.specs.declared.types.Ty.{Ty}
use Rattle.jh_rules.specs.declared.types.Ty.TheVariants as ty
use Rattle.jh_rules.specs.declared.entries.FieldEntry.{FieldEntry}
use Rattle.jh_rules.specs.Faults.{Judged, right, wrong, given, needs, both, pair_of, ◌>>=◌}
use Rattle.jh_rules.specs.declared.found.Found.{Found}
use Rattle.jh_rules.specs.Found.{lesser}
use Rattle.jh_rules.specs.Names.{Declared}
use Rattle.jh_rules.specs.Scopes.{Scope}
use Rattle.jh_rules.specs.Rules.{rule_15, rule_18, rule_19, rule_21, rule_23}
use Rattle.jh_rules.specs.Exprs.{receiver, expr_type, arguments, callee, callee_class, result_of}
use Rattle.jh_ast.specs.Exprs as e
use Rattle.jh_ast.specs.Stmts.{CallTree}
use Rattle.jh_rules.specs.declared.entries.MethodEntry.{MethodEntry}
use Rattle.jh_rules.specs.declared.fault.Fault.{Fault}
use Rattle.jh_ast.specs.declared.expr.Expr.{Expr}
use Rattle.jh_ast.specs.Bare.{expr_tree}
use Rattle.std.specs.List.{flat_map}

-- a field that is there and wanted
abbrev pub entry_type : Option FieldEntry → Bool → Place → Judged Ty
entry_type entry fixed place = option_map_or (λ (m : FieldEntry). needs (if fixed then m.fixed else not m.fixed) 15 place m.ty) entry (wrong 15 place) >>= λ t. given t

-- a member of what stands before a dot
abbrev pub member : Declared → Scope → Option (Option ℕ) → Judged Ty → Place → List ℕ → Judged Ty
member l at class j place x = receiver l at class j >>= λ r. rule_15 l r.0 r.1 place x

abbrev pub alike : Place → Judged Ty → Judged Ty → Judged Ty
alike q j m = both j m >>= λ u. rule_21 q u.0 u.1

abbrev pub two : (ExprTree → Ty → Judged Ty) → ExprTree → Judged Ty → ExprTree → Judged Ty → Ty → Judged Ty
two rule a j b m t = both (j >>= rule a) (m >>= rule b) >>= λ u. right t

abbrev pub literal_of : Place → ExprTree → Judged Ty → ExprTree → Judged Ty → Judged Ty
literal_of q a j b m = given (pair_of j.known m.known) >>= λ u. rule_19 q a b

abbrev pub product : Place → ExprTree → Judged Ty → ExprTree → Judged Ty → Judged Ty
product q a j b m = both (two rule_18 a j b m ty.Int) (literal_of q a j b m) >>= λ u. right ty.Int

-- the faults in some expressions
abbrev pub all_faults : Declared → Scope → List Expr → List Fault
all_faults l at es = flat_map (λ a. (expr_type l at (expr_tree a)).faults) es

-- an argument against its parameter, where both have a type
abbrev pub argument : Declared → Scope → ExprTree → Option Ty → Judged Ty
argument l at a d = both (given (expr_type l at a).known) (given d) >>= λ t. rule_23 a t.0 t.1

-- that two things are known
abbrev pub both_known : {A B : Type 0} → Option A → Option B → Option (Unit {0})
both_known None y = None
both_known (Some x) None = None
both_known (Some x) (Some y) = Some tt

-- what is found of two parts, of which nothing is asked but that they are known
abbrev pub joined : {A B : Type 0} → Found A → Found B → Found (Unit {0})
joined u v = record { least = lesser u.least v.least; known = both_known u.known v.known }

-- each argument against its parameter
abbrev pub arguments_of : Declared → Scope → List Expr → List (Option Ty) → Judged (Unit {0})
arguments_of l at es ds = arguments l at (map expr_tree es) ds

abbrev pub call_place : CallTree → Place
call_place c = option_map_or e.place_of c.receiver c.method.place

-- what a method gives where the arguments are in order
abbrev pub method_result : Declared → Scope → Place → List Expr → MethodEntry → Judged Ty
method_result l at place es m = result_of l at place (length es) (map expr_tree es) m

abbrev pub is_wanted : Option Bool → Bool → Bool
is_wanted wanted fixed = option_map_or (λ w. if w then fixed else not fixed) wanted true

-- a call of the method that is looked for
abbrev pub called : Declared → Scope → CallTree → List Expr → Option ℕ × Option Bool → Judged Ty
called l at c es r = callee l at c r >>= method_result l at (call_place c) es

-- the class that is looked in, and which methods are wanted there
abbrev pub wanted_of : Judged (Option ℕ × Bool) → Judged (Option ℕ × Option Bool)
wanted_of j = j >>= λ r. right (r.0, Some r.1)

-- a call, without the faults in its arguments
abbrev pub callee_type : Declared → Scope → CallTree → List Expr → Judged Ty
callee_type l at c es = callee_class l at c.receiver >>= called l at c es
