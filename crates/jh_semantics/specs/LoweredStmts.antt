-- The code of statements.
use Rattle.std.specs.Prelude.{ℕ, pos, Bool, true, false, if◌then◌else◌, [], map, Option, Some, None, option_map, is_some}
use Rattle.std.specs.Option.{option_map_or}
use Rattle.jh_name.specs.declared.naming.Name.{Name}
use Rattle.jh_name.specs.declared.place.Kind.{Kind}
use Rattle.jh_name.specs.declared.place.Kind.TheVariants as k
use Rattle.jh_name.specs.declared.place.Place.{Place}
use Rattle.jh_ast.specs.declared.word.Word.{Word}
use Rattle.jh_ast.specs.declared.word.JType.{JType}
use Rattle.jh_ast.specs.declared.word.Param.{Param}
use Rattle.jh_ast.specs.Exprs.{ExprTree}
use Rattle.jh_ast.specs.Exprs as e
use Rattle.jh_ast.specs.Forms.{SpecPart, LabelledPart}
use Rattle.jh_ast.specs.Stmts.{StmtTree, StmtTrees, RhsTree, CallTree}
use Rattle.jh_ast.specs.Stmts as s
use Rattle.jh_ast.specs.Programs.{ProgramTree}
use Rattle.jh_form.specs.Tree.{ValueTree, TermTree}
use Rattle.jh_form.specs.Tree as t
use Rattle.jh_rules.specs.declared.types.Ty.{Ty}
use Rattle.jh_rules.specs.declared.types.Ty.TheVariants as ty
use Rattle.jh_rules.specs.declared.entries.FieldEntry.{FieldEntry}
use Rattle.jh_rules.specs.declared.entries.LocalEntry.{LocalEntry}
use Rattle.jh_rules.specs.declared.entries.MethodEntry.{MethodEntry}
use Rattle.jh_rules.specs.Words.{text_of, halves}
use Rattle.jh_rules.specs.Names.{declared_in, type_of}
use Rattle.jh_rules.specs.Scopes.{Scope, behind, text_behind, in_loop}
use Rattle.jh_rules.specs.Exprs.{class_spelled, callee_class, call_place}
use Rattle.jh_vars.specs.Written.{Callee}
use Rattle.jh_vars.specs.Resolved.{as_object, as_number, as_truth, as_set}
use Rattle.jh_vars.specs.Opened.{opened}
use Rattle.jh_semantics.specs.Code.{Text, ObjectCode, AnyCode, an_object, a_number, a_truth, Local, Target, Claim, Stmt, Stmts}
use Rattle.jh_semantics.specs.Code as c
use Rattle.jh_semantics.specs.Lowered.{member_text, receiver_class, expr_code}
use Rattle.jh_semantics.specs.Lowered as lowered

-- the default of a type
abbrev pub default_code : Ty → AnyCode
default_code ty.Int = a_number (c.const (pos 0))
default_code ty.Boolean = a_truth (c.literal false)
default_code _ = an_object c.null

-- The left side of a ghost assignment as a value: a name, or one read of a field of a receiver.
pub data GhostTarget : Type 0 where
  a_name : Kind → Name → GhostTarget
  a_read : Kind → Name → TermTree → GhostTarget
  no_target : GhostTarget

abbrev pub ghost_target : ValueTree → GhostTarget
ghost_target (t.of_object (t.free_object x)) = a_name k.Obj x
ghost_target (t.of_number (t.free_number x)) = a_name k.Int x
ghost_target (t.of_truth (t.free_truth x)) = a_name k.Bool x
ghost_target (t.of_set (t.free_set x)) = a_name k.Set x
ghost_target (t.of_object (t.read_object (t.free_field x) a)) = a_read k.Obj x a
ghost_target (t.of_number (t.read_number (t.free_field x) a)) = a_read k.Int x a
ghost_target (t.of_truth (t.read_truth (t.free_field x) a)) = a_read k.Bool x a
ghost_target (t.of_set (t.read_set (t.free_field x) a)) = a_read k.Set x a
ghost_target _ = no_target

-- a value of a kind where it has that kind, and else anything
abbrev pub of_kind : Kind → ValueTree → ValueTree
of_kind k.Obj v = t.of_object (as_object v)
of_kind k.Int v = t.of_number (as_number v)
of_kind k.Bool v = t.of_truth (as_truth v)
of_kind k.Set v = t.of_set (as_set v)

-- the class of a member, whose text begins with the class and a dot
abbrev pub class_before_dot : Text → Text
class_before_dot x = option_map_or (λ h. h.0) (halves x) []

abbrev pub ghost_code : Place → GhostTarget → Place → ValueTree → Stmt
ghost_code q (a_name kind x) r v = c.ghost x.text r (of_kind kind v)
ghost_code q (a_read kind x a) r v = c.ghost_at q (class_before_dot x.text) x.text a r (of_kind kind v)
ghost_code q no_target r v = c.empty

module _ (p : ProgramTree) where
  -- the type that a type word names
  abbrev pub word_type : JType → Ty
  word_type w = option_map_or (λ x. x) (type_of (declared_in p).class_named w) ty.Object

  abbrev pub local_code : Param → Local
  local_code d = record { text = text_of d.name; type = word_type d.jtype }

  -- a formula of the source by its number, with its names resolved and all definitions opened
  abbrev pub spec_value : SpecPart → ValueTree
  spec_value spec = option_map_or (λ v. v) (opened p spec.number) (t.of_truth t.true_formula)

  abbrev pub claim_of : SpecPart → Claim
  claim_of spec = record { label = None; place = spec.place; from = []; formula = as_truth (spec_value spec) }

  abbrev pub labelled_claim : LabelledPart → Claim
  labelled_claim l = record (claim_of l.spec) { label = option_map (λ (w : Word). w.text) l.label; from = map (λ (w : Word). w.text) l.from }

  -- what is assigned to: a local or static, or a field of an object
  abbrev pub static_target : Option ℕ → Word → Target
  static_target class w = option_map_or (λ n. c.to_name (member_text p n (text_of w))) class c.nowhere

  abbrev pub field_target : Option ℕ → Word → ObjectCode → Place → Target
  field_target class w r q = option_map_or (λ n. c.to_field (member_text p n (text_of w)) r q) class c.nowhere

  abbrev pub own_target : Scope → Word → FieldEntry → Target
  own_target at w x = if x.fixed then static_target (Some at.class) w else field_target (Some at.class) w c.this w.place

  abbrev pub word_target : Scope → Word → Target
  word_target at w =
      option_map_or (λ (x : LocalEntry). c.to_name (text_of w)) (at.local (text_of w))
      (option_map_or (own_target at w) ((declared_in p).field_of at.class (text_of w)) c.nowhere)

  abbrev pub dotted_target : Scope → Option (Option ℕ) → ExprTree → Word → Target
  dotted_target at (Some class) a w = static_target class w
  dotted_target at None a w = field_target (receiver_class p at a) w (lowered.as_object (expr_code p a at)) (e.place_of a)

  abbrev pub target_code : Scope → ExprTree → Target
  target_code at (e.name q w) = word_target at w
  target_code at (e.member q a w) = dotted_target at (class_spelled (declared_in p) at a) a w
  target_code at _ = c.nowhere

  -- the class in which the method of a call is looked for
  abbrev pub called_class : Scope → CallTree → Option ℕ
  called_class at x = option_map_or (λ r. r.0) (callee_class (declared_in p) at x.receiver).known None

  abbrev pub callee_of : Scope → CallTree → Callee
  callee_of at x = record { class = option_map_or (λ n. n) (called_class at x) at.class; name = text_of x.method }

  -- whether the method of a call is static
  abbrev pub calls_static : Callee → Bool
  calls_static m = option_map_or (λ (x : MethodEntry). x.fixed) ((declared_in p).method_of m.class m.name) true

  -- the receiver of a call: `this` where none is written and the method is of an object; none of a static method
  abbrev pub receiver_code : Scope → Callee → Option ExprTree → Option ObjectCode
  receiver_code at m None = if calls_static m then None else Some c.this
  receiver_code at m (Some a) = if is_some (class_spelled (declared_in p) at a) then None else Some (lowered.as_object (expr_code p a at))

  abbrev pub call_code : Place → Scope → Target → CallTree → Stmt
  call_code q at target x =
      c.call q target (receiver_code at (callee_of at x) x.receiver) (call_place (declared_in p) at x) (callee_of at x) (map (λ a. expr_code p a at) x.args)

  -- an assignment, by its right side
  abbrev pub rhs_code : Place → Scope → Target → RhsTree → Stmt
  rhs_code q at target (s.value a) = c.assign target (expr_code p a at)
  rhs_code q at target (s.result_of x) = call_code q at target x
  rhs_code q at target (s.new w) = c.new_object q target (text_of w)

  -- a declaration; one without a value gives the default
  abbrev pub declaration_code : Place → Scope → Local → Option RhsTree → Stmt
  declaration_code q at x None = c.assign (c.to_new x) (default_code x.type)
  declaration_code q at x (Some r) = rhs_code q at (c.to_new x) r

  abbrev pub return_code : Scope → Option ExprTree → Stmt
  return_code at None = c.return_nothing
  return_code at (Some a) = c.return_value (expr_code p a at)

  unfoldable mutual
    pub stmt_code : StmtTree → Scope → Stmt
    stmt_code (s.empty q) at = c.empty
    stmt_code (s.block q ss) at = c.block (stmts_code ss at)
    stmt_code (s.local q d r) at = declaration_code q at (local_code d) r
    stmt_code (s.assign q a r) at = rhs_code q at (target_code at a) r
    stmt_code (s.call q x) at = call_code q at c.nowhere x
    stmt_code (s.branch q a b rest) at = c.branch q (lowered.as_truth (expr_code p a at)) (stmt_code b at) (stmts_code rest (text_behind at b))
    stmt_code (s.loop q is a b) at = c.loop q (map labelled_claim is) (lowered.as_truth (expr_code p a at)) (stmt_code b (in_loop at is))
    stmt_code (s.return q r) at = return_code at r
    stmt_code (s.assert q l) at = c.assert (labelled_claim l)
    stmt_code (s.note q l) at = c.note (labelled_claim l)
    stmt_code (s.ghost q l r) at = ghost_code l.place (ghost_target (spec_value l)) r.place (spec_value r)

    -- each where the declarations before it are in scope
    pub stmts_code : StmtTrees → Scope → Stmts
    stmts_code s.none at = c.none
    stmts_code (s.more a ss) at = c.more (stmt_code a at) (stmts_code ss (behind (declared_in p) at a))
