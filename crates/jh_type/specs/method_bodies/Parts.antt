-- What is asked of parts of statements, each under a name of its own.
use Rattle.std.specs.Prelude.{ℕ, not, Bool, true, false, List, [], ◌∷◌, ◌++◌, Option, Some, None, codes}
use Rattle.std.specs.List.{flat_map}
use Rattle.std.specs.Option.{option_map_or}
use Rattle.jh_name.specs.declared.place.Place.{Place}
use Rattle.jh_name.specs.declared.place.Kind.{Kind}
use Rattle.jh_ast.specs.declared.word.JType.{JType}
use Rattle.jh_ast.specs.Forms.{LabelledPart}
use Rattle.jh_rules.specs.declared.fault.Fault.{Fault}
use Rattle.jh_rules.specs.declared.types.Ty.{Ty}
use Rattle.jh_rules.specs.declared.entries.LocalEntry.{LocalEntry}
use Rattle.jh_rules.specs.Faults.{Judged, ◌>>=◌}
use Rattle.jh_rules.specs.Words.{is_one_of, text_of}
use Rattle.jh_rules.specs.Kinds.{fits}
use Rattle.jh_rules.specs.Names.{Declared, type_of}
use Rattle.jh_rules.specs.Scopes.{Scope, declare_all}
use Rattle.jh_ast.specs.Exprs.{ExprTree}
use Rattle.jh_ast.specs.declared.word.Param.{Param}
use Rattle.jh_symbols.specs.declared.scopes.scope.Undo.{Undo}
use Rattle.jh_symbols.specs.scopes.Changing.{undo}
use Rattle.jh_ast.specs.Forms.{FormTree}
use Rattle.jh_type.specs.declared.formula_kinds.spot.Spot.{Spot}
use Rattle.jh_rules.specs.declared.entries.StateEntry.{StateEntry}
use Rattle.jh_rules.specs.Formulas.{form_kind, truth_faults}
use Rattle.jh_ast.specs.Stmts.{RhsTree}
use Rattle.jh_rules.specs.Exprs.{expr_type}
use Rattle.jh_ast.specs.Programs.{MethodPart}
use Rattle.jh_rules.specs.Found.{least, lesser}
use Rattle.jh_type.specs.formula_kinds.Standing.{where_by}
use Rattle.jh_rules.specs.Rules.{rule_4, rule_12, rule_25, rule_32, rule_17, rule_20, rule_24_none, rule_24_some, rule_16, rule_31_target, rule_31_value}
use Rattle.jh_rules.specs.Statements.{result_kind, param_faults, all_faults, declared_faults, of_some, rhs_faults, asked, inside, is_ghost_target}

-- a name that may be no parameter's and no local's
abbrev pub is_kept : List ℕ → Bool
is_kept x = is_one_of x (codes "result" ∷ codes "alloc" ∷ codes "Object" ∷ [])

abbrev pub is_source : List ℕ → Bool
is_source x = is_one_of x (codes "pre" ∷ codes "post" ∷ codes "cond" ∷ codes "wf" ∷ [])

abbrev pub is_param : Option LocalEntry → Bool
is_param o = option_map_or (λ (x : LocalEntry). x.is_param) o false

-- a known value against its target
abbrev pub fit : Place → Option Ty → Option Ty → List Fault
fit place known target = option_map_or (λ t. of_some (rule_16 place t) target) known []

-- whether a value doesn't fit a result
abbrev pub misfits : Option Ty → Option Ty → Bool
misfits value result = option_map_or (λ t. option_map_or (λ u. not (fits t u)) result false) value false

-- the two sides of `:=`, where they are known
abbrev pub target : Place → Option Kind → Bool → List Fault
target place known ghost = option_map_or (λ u. rule_31_target place ghost) known []

abbrev pub same : Place → Option Kind → Option Kind → List Fault
same place left right = option_map_or (λ v. of_some (λ u. rule_31_value place (u, v)) left) right []

abbrev pub assigned : Declared → Scope → Place → ExprTree → RhsTree → List Fault
assigned l at q a r = (expr_type l at a).faults ++ rule_17 at q a ++ rhs_faults l at (expr_type l at a).known r

abbrev pub returned : Declared → Scope → Place → JType → Option ExprTree → List Fault
returned l at q result None = rule_24_none q result
returned l at q result (Some a) = (expr_type l at a).faults ++ rule_24_some l q result (expr_type l at a).known

-- a formula in the body of a method
abbrev pub inside_spot : Spot
inside_spot = record { old = true; result = None }

abbrev pub invariant : Declared → Scope → LabelledPart → List Fault
invariant l at x = truth_faults l (inside l at) x.spec

abbrev pub is_ghost_state : Option StateEntry → Bool
is_ghost_state x = option_map_or (λ (y : StateEntry). y.is_ghost) x false

abbrev pub sides : Place → Judged Kind → Judged Kind → Bool → List Fault
sides q left right ghost = asked left (λ u. rule_31_target q ghost) ++ asked right (λ v. of_some (λ u. rule_31_value q (u, v)) left.known)

abbrev pub ghost_sides : Declared → Scope → Place → FormTree → FormTree → List Fault
ghost_sides l at q a b = sides q (form_kind l a (inside l at)) (form_kind l b (inside l at)) (is_ghost_target l at a)

abbrev pub condition : Declared → Scope → ExprTree → List Fault
condition l at c = (expr_type l at c >>= rule_20 c).faults

abbrev pub local : Declared → Scope → Param → Option RhsTree → List Fault
local l at d r = of_some (rhs_faults l at (type_of l.class_named d.jtype)) r ++ declared_faults l at d

abbrev pub local_undos : Scope → Param → List Undo
local_undos at d = undo (text_of d.name) (at.local (text_of d.name)) ∷ []

abbrev pub loop_head : Declared → Scope → List LabelledPart → ExprTree → List Fault
loop_head l at is c = flat_map (invariant l at) is ++ condition l at c

-- what the formulas of a contract may say
abbrev pub pre_spot : Spot
pre_spot = record { old = false; result = None }

abbrev pub post_spot : Declared → MethodPart → Spot
post_spot l m = record { old = true; result = result_kind l m.result }

-- what is found, and the least faults of a contract in a scope
abbrev pub with_contract : Declared → ℕ → Scope → MethodPart → Option Fault → Option Fault
with_contract l n at m found = lesser (lesser (lesser found (least (of_some (truth_faults l (where_by pre_spot at [])) m.pre))) (least (flat_map (rule_12 l n) m.modifies))) (least (of_some (truth_faults l (where_by (post_spot l m) at [])) m.post))

-- the least fault of a method, in the scope of its first parameter
abbrev pub method_least : Declared → ℕ → Scope → MethodPart → Option Fault
method_least l n at m = lesser (lesser (lesser (with_contract l n (declare_all l at m.params) m (lesser (least (rule_4 l m.result)) (least (param_faults l at m.params)))) (least (all_faults l m m.body (declare_all l at m.params)))) (least (rule_32 m))) (least (rule_25 m))
