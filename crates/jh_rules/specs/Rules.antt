-- The rules. Each says where it is broken, given what its parts are.
use Rattle.std.specs.Prelude.{ℕ, ℤ, pos, ◌==◌, nat_lt, ◌&&◌, ◌||◌, not, Bool, true, false, List, [], ◌∷◌, map, length, Option, Some, None, is_some, codes, if◌then◌else◌}
use Rattle.std.specs.List.{list_any}
use Rattle.std.specs.Option.{option_map_or}
use Rattle.jh_ast.specs.jh_name.declared.place.Place.{Place}
use Rattle.jh_ast.specs.jh_name.declared.place.Kind.{Kind}
use Rattle.jh_ast.specs.jh_name.declared.place.Kind.TheVariants as k
use Rattle.jh_ast.specs.declared.word.Word.{Word}
use Rattle.jh_ast.specs.declared.word.JType.{JType}
use Rattle.jh_ast.specs.declared.word.JType.TheVariants as j
use Rattle.jh_ast.specs.declared.word.Param.{Param}
use Rattle.jh_ast.specs.Exprs.{ExprTree}
use Rattle.jh_ast.specs.Exprs as e
use Rattle.jh_ast.specs.Forms.{FormTree, FormTrees, SpecPart, LabelledPart}
use Rattle.jh_ast.specs.Forms as f
use Rattle.jh_ast.specs.Programs.{ProgramTree, ClassPart, VarPart, DefPart, MethodPart}
use Rattle.jh_rules.specs.declared.fault.Fault.{Fault}
use Rattle.jh_rules.specs.declared.types.Ty.{Ty}
use Rattle.jh_rules.specs.declared.types.Ty.TheVariants as ty
use Rattle.jh_rules.specs.Faults.{Judged, right, wrong, given, needs, broken, ◌>>=◌}
use Rattle.jh_rules.specs.Words.{same_text, is_one_of, text_of, used_before}
use Rattle.jh_rules.specs.Kinds.{is_int, is_boolean, is_void, fits, is_obj, is_truth, same_kind}
use Rattle.jh_rules.specs.declared.entries.FieldEntry.{FieldEntry}
use Rattle.jh_rules.specs.declared.entries.StateEntry.{StateEntry}
use Rattle.jh_rules.specs.declared.entries.MethodEntry.{MethodEntry}
use Rattle.jh_rules.specs.declared.entries.LocalEntry.{LocalEntry}
use Rattle.jh_rules.specs.Names.{Declared, class_type, type_of, kind_of_word, member_word, members_of, state_named}
use Rattle.jh_rules.specs.Scopes.{Scope, has_other_sort, all_counted, ends_closed}

-- 1: a class name used before, or `Object`, `result` or `alloc`
abbrev pub rule_1 : ProgramTree → ClassPart → List Fault
rule_1 p c = broken 1 c.name.place (used_before (map (λ (d : ClassPart). d.name) p.classes) c.name || is_one_of (text_of c.name) (codes "Object" ∷ codes "result" ∷ codes "alloc" ∷ []))

-- 2: a member name used before in its class
abbrev pub rule_2 : ClassPart → Word → List Fault
rule_2 c w = broken 2 w.place (used_before (map member_word (members_of c)) w)

-- 3: an invariant name used before in its class
abbrev pub rule_3 : List Word → Word → List Fault
rule_3 names w = broken 3 w.place (used_before names w)

-- 4: a type word that is no declared class and not `Object`
abbrev pub rule_4 : Declared → JType → List Fault
rule_4 l j.Int = []
rule_4 l j.Boolean = []
rule_4 l j.Void = []
rule_4 l (j.Class w) = broken 4 w.place (not (is_some (class_type l.class_named (text_of w))))

-- 5: a parameter or local with the name of one in scope, or with the name of an earlier one of its
-- method that has another sort
abbrev pub rule_5 : Scope → Param → List Fault
rule_5 at d = broken 5 d.name.place (is_some (at.local (text_of d.name))
    || has_other_sort (kind_of_word d.jtype) (at.earlier (text_of d.name)))

-- 6: a member, parameter or local named `result` or `alloc`, or a parameter or local named as a class or
-- `Object`
abbrev pub rule_6_member : Word → List Fault
rule_6_member w = broken 6 w.place (is_one_of (text_of w) (codes "result" ∷ codes "alloc" ∷ []))

abbrev pub rule_6_local : Declared → Word → List Fault
rule_6_local l w = broken 6 w.place (is_one_of (text_of w) (codes "result" ∷ codes "alloc" ∷ codes "Object" ∷ []) || is_some (l.class_named (text_of w)))

-- 7: an initialiser that isn't its default
abbrev pub is_default : Ty → ExprTree → Bool
is_default ty.Int (e.number q (pos n)) = n == 0
is_default ty.Boolean (e.no q) = true
is_default ty.Object (e.null q) = true
is_default (ty.Class c) (e.null q) = true
is_default _ _ = false

abbrev pub rule_7_field : Ty → ExprTree → List Fault
rule_7_field t a = broken 7 (e.place_of a) (not (is_default t a))

abbrev pub is_default_form : Kind → FormTree → Bool
is_default_form k.Obj (f.null q) = true
is_default_form k.Int (f.number q (pos n)) = n == 0
is_default_form k.Bool (f.no q) = true
is_default_form k.Set (f.braces q f.none) = true
is_default_form _ _ = false

abbrev pub rule_7_var : Kind → SpecPart → List Fault
rule_7_var kind spec = broken 7 spec.place (not (is_default_form kind spec.form))

-- 8: a `vardefs` name that is no variable of its class, is ghost, or is defined before
abbrev pub rule_8 : Declared → ℕ → ClassPart → DefPart → List Fault
rule_8 l n c d = broken 8 d.name.place (not (option_map_or (λ (x : StateEntry). x.is_variable && not x.is_ghost) (l.state_of n (text_of d.name)) false) || used_before (map (λ (x : DefPart). x.name) c.defs) d.name)

-- 9: a variable that is neither ghost nor defined
abbrev pub rule_9 : Declared → ℕ → VarPart → List Fault
rule_9 l n v = broken 9 v.name.place (not (v.is_ghost || option_map_or (λ (x : StateEntry). x.is_defined) (l.state_of n (text_of v.name)) false))

-- 10: a definition whose sort isn't the variable's
abbrev pub is_other_variable : Kind → StateEntry → Bool
is_other_variable kind x = x.is_variable && not (option_map_or (same_kind kind) x.kind true)

abbrev pub rule_10 : Declared → ℕ → DefPart → Kind → List Fault
rule_10 l n d kind = broken 10 d.spec.place (option_map_or (is_other_variable kind) (l.state_of n (text_of d.name)) false)

-- 11: a formula of `requires`, `ensures`, `invariant`, `inv`, `assert` or `note` that isn't a truth
abbrev pub rule_11 : SpecPart → Kind → List Fault
rule_11 spec kind = broken 11 spec.place (not (is_truth kind))

-- 12: a `modifies` item that names no field, static or specification variable, or several
abbrev pub rule_12 : Declared → ℕ → Word → List Fault
rule_12 l n w = broken 12 w.place (not (is_some (state_named l n (text_of w))))

-- 13: an unknown name in code
abbrev pub rule_13 : {T : Type 0} → Word → Judged T
rule_13 w = wrong 13 w.place

-- 14: `this`, or an instance member without receiver outside `tree` and `modifies`, in a static method,
-- its formulas included, or in the definition of a static variable
abbrev pub rule_14 : {T : Type 0} → Bool → Place → T → Judged T
rule_14 has_this place x = needs has_this 14 place x

-- 15: a receiver that isn't of a class with that member
abbrev pub rule_15 : Declared → Option ℕ → Bool → Place → List ℕ → Judged Ty
rule_15 l None fixed place x = wrong 15 place
rule_15 l (Some c) fixed place x = option_map_or (λ (m : FieldEntry). needs (if fixed then m.fixed else not m.fixed) 15 place m.ty) (l.field_of c x) (wrong 15 place) >>= λ t. given t

-- 16: a value that doesn't fit its target: not the same type, not null for a class, not a class for `Object`
abbrev pub rule_16 : Place → Ty → Ty → List Fault
rule_16 place value target = broken 16 place (not (fits value target))

-- 17: an assignment to a parameter
abbrev pub rule_17 : Scope → Place → ExprTree → List Fault
rule_17 at place (e.name q w) = broken 17 place (option_map_or (λ (x : LocalEntry). x.is_param) (at.local (text_of w)) false)
rule_17 at place _ = []

-- 18: an operand of `+ - * < <= > >=` or unary `-` that isn't int
abbrev pub rule_18 : ExprTree → Ty → Judged Ty
rule_18 a t = needs (is_int t) 18 (e.place_of a) t

-- 19: a product without a literal operand, plain or negated
abbrev pub is_plain_literal : ExprTree → Bool
is_plain_literal (e.null q) = true
is_plain_literal (e.yes q) = true
is_plain_literal (e.no q) = true
is_plain_literal (e.number q z) = true
is_plain_literal _ = false

abbrev pub is_literal : ExprTree → Bool
is_literal (e.minus q a) = is_plain_literal a
is_literal a = is_plain_literal a

abbrev pub rule_19 : Place → ExprTree → ExprTree → Judged Ty
rule_19 place a b = needs (is_literal a || is_literal b) 19 place ty.Int

-- 20: an operand of `&& || !` or a condition that isn't boolean
abbrev pub rule_20 : ExprTree → Ty → Judged Ty
rule_20 a t = needs (is_boolean t) 20 (e.place_of a) t

-- 21: `==` or `!=` on types of which neither fits the other
abbrev pub rule_21 : Place → Ty → Ty → Judged Ty
rule_21 place t u = needs (fits t u || fits u t) 21 place ty.Boolean

-- 22: a call of no method, or of an instance method without receiver in a static one, or on a class name
-- of an instance method, or on a value of a static method
abbrev pub rule_22 : Place → Option Bool → Option MethodEntry → Judged MethodEntry
rule_22 place wanted None = wrong 22 place
rule_22 place wanted (Some m) = needs (option_map_or (λ fixed. if fixed then m.fixed else not m.fixed) wanted true) 22 place m

-- 23: arguments that differ in number from the parameters, or don't fit
abbrev pub rule_23_number : {T : Type 0} → Place → ℕ → ℕ → T → Judged T
rule_23_number place m n x = needs (m == n) 23 place x

abbrev pub rule_23 : ExprTree → Ty → Ty → Judged Ty
rule_23 a value param = needs (fits value param) 23 (e.place_of a) value

-- 24: a void call as a value, a `return` with a value in a void method, without one in another, or that doesn't fit
abbrev pub rule_24_value : Place → Ty → Judged Ty
rule_24_value place t = needs (not (is_void t)) 24 place t

abbrev pub is_void_word : JType → Bool
is_void_word j.Void = true
is_void_word _ = false

abbrev pub rule_24_none : Place → JType → List Fault
rule_24_none place result = broken 24 place (not (is_void_word result))

abbrev pub rule_24_some : Declared → Place → JType → Option Ty → List Fault
rule_24_some l place j.Void value = broken 24 place true
rule_24_some l place result value = broken 24 place (option_map_or (λ t. option_map_or (λ u. not (fits t u)) (type_of l.class_named result) false) value false)

-- 25: the end of a non-void body that isn't closed, so that it could be left without a `return`
abbrev pub rule_25 : MethodPart → List Fault
rule_25 m = broken 25 m.end (not (is_void_word m.result) && not (ends_closed m.body))

-- 26: `new` of no declared class, other than `Object`
abbrev pub rule_26 : Declared → Word → Judged Ty
rule_26 l w = option_map_or (λ t. right t) (class_type l.class_named (text_of w)) (wrong 26 w.place)

-- 27: an unknown name in a formula, a field name after `..` that several classes have, or a `from` name
-- that no fact before it has
abbrev pub rule_27_name : {T : Type 0} → Word → Judged T
rule_27_name w = wrong 27 w.place

abbrev pub rule_27_field : Declared → ℕ → Word → Judged StateEntry
rule_27_field l c w = option_map_or (λ (x : StateEntry). needs (not x.fixed) 27 w.place x) (state_named l c (text_of w)) (wrong 27 w.place)

abbrev pub rule_27_from : Declared → Scope → Word → List Fault
rule_27_from l at w = broken 27 w.place (not (is_one_of (text_of w) (codes "pre" ∷ codes "post" ∷ codes "cond" ∷ codes "wf" ∷ []) || l.is_invariant (text_of w) || at.labels (text_of w)))

-- 28: operands of a formula's operator of wrong sorts
abbrev pub rule_28 : Bool → Place → Kind → Judged Kind
rule_28 good place kind = needs good 28 place kind

-- 29: a product in a formula without a literal, or `dvd` with 0
abbrev pub is_number_literal : FormTree → Bool
is_number_literal (f.number q z) = true
is_number_literal (f.minus q (f.number r z)) = true
is_number_literal _ = false

abbrev pub rule_29_product : Place → FormTree → FormTree → List Fault
rule_29_product place a b = broken 29 place (not (is_number_literal a || is_number_literal b))

abbrev pub rule_29_dvd : Place → ℤ → List Fault
rule_29_dvd place (pos n) = broken 29 place (n == 0)
rule_29_dvd place _ = []

-- 30: `rtrancl_pt` whose body isn't one to four equations `x..f = y` with its own two names, joined by
-- `|`; a list, in `tree` too, of more than four fields or with a field twice; or a field that holds no
-- objects or has a definition
abbrev pub rule_30_field : Word → StateEntry → Judged StateEntry
rule_30_field w x = given x.kind >>= λ kind. needs (is_obj kind && not x.is_defined) 30 w.place x

abbrev pub same_state : StateEntry × List ℕ → StateEntry × List ℕ → Bool
same_state x y = (x.0.class == y.0.class) && same_text x.1 y.1

unfoldable pub has_twice : List (StateEntry × List ℕ) → Bool
has_twice [] = false
has_twice (x ∷ xs) = list_any (same_state x) xs || has_twice xs

abbrev pub rule_30_shape : Place → Option (List Word) → Judged (List Word)
rule_30_shape place fields = option_map_or (λ ws. right ws) fields (wrong 30 place)

abbrev pub rule_30_list : Place → List Word → List (StateEntry × List ℕ) → List Fault
rule_30_list place ws states = broken 30 place (nat_lt 4 (length ws) || has_twice states)

-- 31: `result` outside the `ensures` of a non-void method; `old` in `requires`, an invariant, a definition
-- or another `old`; `:=` to what isn't a ghost variable or one read of it, or a value of another sort
abbrev pub rule_31_result : Place → Option (Option Kind) → Judged Kind
rule_31_result place None = wrong 31 place
rule_31_result place (Some kind) = given kind

abbrev pub rule_31_old : Bool → Place → Judged (Unit {0})
rule_31_old may place = needs may 31 place tt

abbrev pub rule_31_target : Place → Bool → List Fault
rule_31_target place ghost = broken 31 place (not ghost)

abbrev pub rule_31_value : Place → Kind × Kind → List Fault
rule_31_value place kinds = broken 31 place (not (same_kind kinds.0 kinds.1))

-- 32: a method with more than 256 statements, blocks and parts included
abbrev pub rule_32 : MethodPart → List Fault
rule_32 m = broken 32 m.name.place (nat_lt 256 (all_counted m.body))
