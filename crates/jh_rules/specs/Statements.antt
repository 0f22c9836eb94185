-- The faults of statements, methods, classes and programs.
use Rattle.std.specs.Prelude.{ℕ, ◌+◌, ◌&&◌, not, Bool, true, false, List, [], ◌∷◌, ◌++◌, Option, Some, None, is_some, option_map, codes}
use Rattle.std.specs.List.{flat_map}
use Rattle.std.specs.Option.{option_map_or}
use Rattle.jh_ast.specs.jh_name.declared.place.Place.{Place}
use Rattle.jh_ast.specs.jh_name.declared.place.Kind.{Kind}
use Rattle.jh_ast.specs.declared.word.Word.{Word}
use Rattle.jh_ast.specs.declared.word.JType.{JType}
use Rattle.jh_ast.specs.declared.word.JType.TheVariants as j
use Rattle.jh_ast.specs.declared.word.Param.{Param}
use Rattle.jh_ast.specs.Exprs.{ExprTree}
use Rattle.jh_ast.specs.Exprs as e
use Rattle.jh_ast.specs.Forms.{FormTree, SpecPart, LabelledPart}
use Rattle.jh_ast.specs.Forms as f
use Rattle.jh_ast.specs.Stmts.{StmtTree, StmtTrees, RhsTree, CallTree}
use Rattle.jh_ast.specs.Stmts as s
use Rattle.jh_ast.specs.Programs.{ProgramTree, ClassPart, FieldPart, VarPart, DefPart, MethodPart}
use Rattle.jh_rules.specs.declared.fault.Fault.{Fault}
use Rattle.jh_rules.specs.declared.types.Ty.{Ty}
use Rattle.jh_rules.specs.Faults.{Judged, right, ◌>>=◌}
use Rattle.jh_rules.specs.Words.{same_text, text_of}
use Rattle.jh_rules.specs.Kinds.{kind_of}
use Rattle.jh_rules.specs.declared.entries.StateEntry.{StateEntry}
use Rattle.jh_rules.specs.Names.{Declared, member_word, members_of, type_of, state_spelled, state_named}
use Rattle.jh_rules.specs.Scopes.{Scope, declare, declare_all, behind, text_behind, in_loop, outermost}
use Rattle.jh_rules.specs.Rules.{rule_1, rule_2, rule_3, rule_4, rule_5, rule_6_member, rule_6_local, rule_7_field, rule_7_var, rule_8, rule_9, rule_10, rule_12, rule_16, rule_17, rule_20, rule_24_value, rule_24_none, rule_24_some, rule_25, rule_26, rule_27_from, rule_31_target, rule_31_value, rule_32}
use Rattle.jh_rules.specs.Exprs.{expr_type, call_type, call_place}
use Rattle.jh_rules.specs.Formulas.{Where, form_kind, truth_faults}

-- what is wrong where a known thing breaks a rule
abbrev pub asked : {T : Type 0} → Judged T → (T → List Fault) → List Fault
asked j rule = j.faults ++ option_map_or rule j.known []

-- of something that may not be there
abbrev pub of_some : {A : Type 0} → (A → List Fault) → Option A → List Fault
of_some g x = option_map_or g x []

module _ (l : Declared) where
  -- a declaration of a parameter or local
  abbrev pub declared_faults : Scope → Param → List Fault
  declared_faults at d = rule_4 l d.jtype ++ rule_5 at d ++ rule_6_local l d.name

  -- an assigned value and its place
  abbrev pub rhs_type : Scope → RhsTree → Judged Ty
  rhs_type at (s.value a) = expr_type l at a
  rhs_type at (s.result_of c) = call_type l at c >>= rule_24_value (call_place l at c)
  rhs_type at (s.new w) = rule_26 l w

  abbrev pub rhs_place : Scope → RhsTree → Place
  rhs_place at (s.value a) = e.place_of a
  rhs_place at (s.result_of c) = call_place l at c
  rhs_place at (s.new w) = w.place

  abbrev pub rhs_faults : Scope → Option Ty → RhsTree → List Fault
  rhs_faults at target r = asked (rhs_type at r) (λ t. of_some (rule_16 (rhs_place at r) t) target)

  -- a formula in the body of a method
  abbrev pub inside : Scope → Where
  inside at = record { class = at.class; has_this = not at.fixed; old = true; result = None; local = at.local; bound = [] }

  -- whether the left side of `:=` is a ghost variable, or one read of it; `Object` by itself is the set of all objects
  abbrev pub is_ghost_state : Option StateEntry → Bool
  is_ghost_state x = option_map_or (λ (y : StateEntry). y.is_ghost) x false

  abbrev pub is_ghost_target : Scope → FormTree → Bool
  is_ghost_target at (f.name q w) = not (is_some (at.local (text_of w))) && (not (same_text (text_of w) (codes "Object")) && is_ghost_state (state_spelled l at.class (text_of w)))
  is_ghost_target at (f.member q a w) = is_ghost_state (state_named l at.class (text_of w))
  is_ghost_target at _ = false

  abbrev pub ghost_faults : Scope → Place → Judged Kind → Judged Kind → Bool → List Fault
  ghost_faults at q left right ghost = asked left (λ u. rule_31_target q ghost) ++ asked right (λ v. of_some (λ u. rule_31_value q (u, v)) left.known)

  abbrev pub labelled_faults : Scope → LabelledPart → List Fault
  labelled_faults at a = truth_faults l (inside at) a.spec ++ flat_map (rule_27_from l at) a.from

  module _ (m : MethodPart) where
    unfoldable mutual
      pub stmt_faults : StmtTree → Scope → List Fault
      stmt_faults (s.empty q) at = []
      stmt_faults (s.block q ss) at = all_faults ss at
      stmt_faults (s.local q d r) at = of_some (rhs_faults at (type_of l.class_named d.jtype)) r ++ declared_faults at d
      stmt_faults (s.assign q a r) at = (expr_type l at a).faults ++ rule_17 at q a ++ rhs_faults at (expr_type l at a).known r
      stmt_faults (s.call q c) at = (call_type l at c).faults
      stmt_faults (s.branch q c a b) at = (expr_type l at c >>= rule_20 c).faults ++ stmt_faults a at ++ all_faults b (text_behind at a)
      stmt_faults (s.loop q is c a) at = flat_map (λ (x : LabelledPart). truth_faults l (inside at) x.spec) is ++ (expr_type l at c >>= rule_20 c).faults ++ stmt_faults a (in_loop at is)
      stmt_faults (s.return q None) at = rule_24_none q m.result
      stmt_faults (s.return q (Some a)) at = (expr_type l at a).faults ++ rule_24_some l q m.result (expr_type l at a).known
      stmt_faults (s.assert q a) at = labelled_faults at a
      stmt_faults (s.note q a) at = labelled_faults at a
      stmt_faults (s.ghost q a b) at = ghost_faults at q (form_kind l a.form (inside at)) (form_kind l b.form (inside at)) (is_ghost_target at a.form)

      pub all_faults : StmtTrees → Scope → List Fault
      all_faults s.none at = []
      all_faults (s.more a ss) at = stmt_faults a at ++ all_faults ss (behind l at a)

  -- the parameters, each declared where those before it are
  unfoldable pub param_faults : Scope → List Param → List Fault
  param_faults at [] = []
  param_faults at (d ∷ ds) = declared_faults at d ++ param_faults (declare l true at d) ds

  -- the kind of `result`, where it may stand and where it has a type
  abbrev pub result_kind : JType → Option (Option Kind)
  result_kind j.Void = None
  result_kind result = Some (option_map kind_of (type_of l.class_named result))

  abbrev pub contract_place : ℕ → MethodPart → Bool → Option (Option Kind) → Where
  contract_place n m old result = record { class = n; has_this = not m.fixed; old = old; result = result; local = (declare_all l (outermost n m.fixed) m.params).local; bound = [] }

  unfoldable pub method_faults : ℕ → MethodPart → List Fault
  method_faults n m =
      rule_4 l m.result ++ param_faults (outermost n m.fixed) m.params
      ++ of_some (truth_faults l (contract_place n m false None)) m.pre
      ++ flat_map (rule_12 l n) m.modifies
      ++ of_some (truth_faults l (contract_place n m true (result_kind m.result))) m.post
      ++ all_faults m m.body (declare_all l (outermost n m.fixed) m.params)
      ++ rule_32 m ++ rule_25 m

  -- a formula outside methods
  abbrev pub outside : ℕ → Bool → Where
  outside n has_this = record { class = n; has_this = has_this; old = false; result = None; local = λ x. None; bound = [] }

  abbrev pub field_faults : FieldPart → List Fault
  field_faults x = rule_4 l x.jtype ++ of_some (λ a. of_some (λ t. rule_7_field t a) (type_of l.class_named x.jtype)) x.init

  abbrev pub var_faults : ℕ → VarPart → List Fault
  var_faults n v = of_some (rule_7_var v.kind) v.init ++ rule_9 l n v

  abbrev pub def_faults : ℕ → ClassPart → DefPart → List Fault
  def_faults n c d = rule_8 l n c d
      ++ asked (form_kind l d.spec.form (outside n (not (option_map_or (λ (x : StateEntry). x.is_variable && x.fixed) (l.state_of n (text_of d.name)) false))))
      (rule_10 l n d)

  abbrev pub label_words : LabelledPart → List Word
  label_words l = option_map_or (λ w. w ∷ []) l.label []

  unfoldable pub class_faults : ProgramTree → ℕ → ClassPart → List Fault
  class_faults p n c =
      rule_1 p c
      ++ flat_map (λ x. rule_2 c (member_word x) ++ rule_6_member (member_word x)) (members_of c)
      ++ flat_map (rule_3 (flat_map label_words c.invariants)) (flat_map label_words c.invariants)
      ++ flat_map field_faults c.fields ++ flat_map (var_faults n) c.vars ++ flat_map (def_faults n c) c.defs
      ++ flat_map (λ (x : LabelledPart). truth_faults l (outside n true) x.spec) c.invariants
      ++ flat_map (method_faults n) c.methods

  unfoldable pub classes_faults : ProgramTree → ℕ → List ClassPart → List Fault
  classes_faults p n [] = []
  classes_faults p n (c ∷ cs) = class_faults p n c ++ classes_faults p (n + 1) cs
