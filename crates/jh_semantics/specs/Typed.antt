-- What the type rules give of code, as far as runs hang on it: each object that is stored, passed or returned fits its target, the
-- receiver of what is written is of the class with that field, and ghost assignments write ghost variables. Numbers and truths need
-- nothing, since each lies in its type. Nobody has to believe this notion: it is one for proofs that runs keep states well formed.
use Rattle.std.specs.Prelude.{◌≡◌, ℕ, nat_lt, ◌⊎◌, ◌&&◌, Bool, true, false, List, [], ◌∷◌, ◌++◌, Option, None, Some, codes}
use Rattle.std.specs.List.{Contains}
use Rattle.jh_name.specs.declared.place.Kind.TheVariants as k
use Rattle.jh_name.specs.declared.place.Place.{Place}
use Rattle.jh_form.specs.Tree.{ValueTree, TermTree}
use Rattle.jh_form.specs.Tree as t
use Rattle.jh_form.specs.Closed.{is_closed_value}
use Rattle.jh_form.specs.Passing.{value_passes}
use Rattle.jh_form.specs.Sorts.{tree_sort}
use Rattle.jh_rules.specs.declared.types.Ty.{Ty}
use Rattle.jh_rules.specs.declared.types.Ty.TheVariants as ty
use Rattle.jh_rules.specs.Kinds.{fits, is_void, kind_of}
use Rattle.jh_vars.specs.Written.{Callee}
use Rattle.jh_semantics.specs.Code.{Text, ObjectCode, NumberCode, TruthCode, AnyCode, Local, Target, Claim, Stmt, Stmts}
use Rattle.jh_semantics.specs.Code as c
use Rattle.jh_semantics.specs.Program.{Program, Method, Member, class_at}
use Rattle.jh_semantics.specs.Locals.{has_dot}
use Rattle.jh_semantics.specs.WellFormed.{all_classes}
use Rattle.jh_vars.specs.state_names.States.{sort_of}

-- where code stands: the class of `this`, the parameters, and the locals in scope
pub record Surroundings : Type 0 where
  pub this : Option ℕ
  pub params : List Local
  pub locals : List Local

-- a value has no loose bound variables, and speaks of what is now and what was at entry alone
pub record IsOfStates (v : ValueTree) : Type 0 where
  pub closed : is_closed_value v 0 ≡ true
  pub turns : value_passes v (λ x sort. nat_lt x.turn 2) ≡ true

abbrev pub AreOfStates : List Claim → Type 0
AreOfStates [] = Unit {0}
AreOfStates (claim ∷ more) = IsOfStates (t.of_truth claim.formula) × AreOfStates more

module _ (p : Program) where
  -- the class of a type is one of the program
  abbrev pub IsType : Ty → Type 0
  IsType (ty.Class n) = Contains p.classes (class_at p.classes n)
  IsType _ = Unit {0}

  -- A parameter or local may be declared: no state has its name, nor is it `this` or one of those in scope.
  pub record MayDeclare (at : Surroundings) (x : Local) : Type 0 where
    pub no_state : has_dot x.text ≡ false
    pub not_this : x.text ≡ codes "this" → ⊥
    pub is_new : (y : Local) → Contains (at.params ++ at.locals) y → y.text ≡ x.text → ⊥
    pub type_fits : IsType x.type

  -- a field or static of the code, of a type
  pub record IsMember (x : Member) (is_static : Bool) (type : Ty) : Type 0 where
    pub stands : Contains p.members x
    pub sort : x.is_static ≡ is_static
    pub has : x.type ≡ Some type

  -- a ghost variable
  pub record IsGhost (x : Member) (is_static : Bool) : Type 0 where
    pub stands : Contains p.members x
    pub sort : x.is_static ≡ is_static
    pub has : x.type ≡ None

  -- what a text names in code: a parameter or local in scope, or a static
  pub data Named (at : Surroundings) : Text → Ty → Type 0 where
    as_local : (x : Local) → Contains (at.params ++ at.locals) x → Named at x.text x.type
    as_static : (x : Member) (type : Ty) → IsMember x true type → Named at x.text type

  -- an expression has objects of a type
  pub data ObjectHas (at : Surroundings) : ObjectCode → Ty → Type 0 where
    of_null : ObjectHas at c.null ty.Null
    of_this : (n : ℕ) → at.this ≡ Some n → ObjectHas at c.this (ty.Class n)
    of_name : (x : Text) (type : Ty) → Named at x type → kind_of type ≡ k.Obj → ObjectHas at (c.object x) type
    of_read : (x : Member) (type : Ty) → IsMember x false type → kind_of type ≡ k.Obj → (r : ObjectCode) (place : Place) (n : ℕ) → ObjectHas at r (ty.Class n) → class_at p.classes n ≡ x.class → ObjectHas at (c.read_object x.text r place) type

  -- an expression has values of a type
  abbrev pub Has : Surroundings → AnyCode → Ty → Type 0
  Has at (c.an_object a) type = ObjectHas at a type
  Has at (c.a_number a) type = type ≡ ty.Int
  Has at (c.a_truth a) type = type ≡ ty.Boolean

  -- and they fit a type
  pub record Fits (at : Surroundings) (a : AnyCode) (target : Ty) : Type 0 where
    pub type : Ty
    pub has : Has at a type
    pub fit : fits type target ≡ true

  abbrev pub AllFit : Surroundings → List AnyCode → List Local → Type 0
  AllFit at [] [] = Unit {0}
  AllFit at (a ∷ rest) (x ∷ xs) = Fits at a x.type × AllFit at rest xs
  AllFit at _ _ = ⊥

  -- what a value of a type may be assigned to: a parameter is never assigned
  pub data Takes (at : Surroundings) : Target → Ty → Type 0 where
    new_local : (x : Local) → MayDeclare at x → Takes at (c.to_new x) x.type
    old_local : (x : Local) → Contains at.locals x → Takes at (c.to_name x.text) x.type
    a_static : (x : Member) (type : Ty) → IsMember x true type → Takes at (c.to_name x.text) type
    a_field : (x : Member) (type : Ty) → IsMember x false type → (r : ObjectCode) (place : Place) (n : ℕ) → ObjectHas at r (ty.Class n) → class_at p.classes n ≡ x.class → Takes at (c.to_field x.text r place) type

  pub record TakesFit (at : Surroundings) (target : Target) (value : Ty) : Type 0 where
    pub type : Ty
    pub takes : Takes at target type
    pub fit : fits value type ≡ true

  -- the type of a class by its text; `Object` is that of the plain objects
  pub data TypeOf : Text → Ty → Type 0 where
    plain_objects : TypeOf (codes "Object") ty.Object
    objects_of : (n : ℕ) → Contains p.classes (class_at p.classes n) → TypeOf (class_at p.classes n) (ty.Class n)

  -- a call has its receiver where it is one of an instance method
  abbrev pub ReceiverFits : Surroundings → Option ObjectCode → Option ℕ → Type 0
  ReceiverFits at None None = Unit {0}
  ReceiverFits at (Some r) (Some n) = ObjectHas at r (ty.Class n)
  ReceiverFits at _ _ = ⊥

  -- the result of a call goes nowhere or fits
  abbrev pub ResultFits : Surroundings → Target → Ty → Type 0
  ResultFits at c.nowhere type = Unit {0}
  ResultFits at target type = TakesFit at target type

  -- and that of a void method goes nowhere
  pub record CallFits (at : Surroundings) (target : Target) (receiver : Option ObjectCode) (m : Callee) (args : List AnyCode) : Type 0 where
    pub method : Method
    pub is : p.method m ≡ Some method
    pub receiver_fits : ReceiverFits at receiver method.this
    pub args_fit : AllFit at args method.params
    pub result_fits : ResultFits at target method.result
    pub void : is_void method.result ≡ true → target ≡ c.nowhere

  pub record AssignFits (at : Surroundings) (target : Target) (a : AnyCode) : Type 0 where
    pub type : Ty
    pub has : Has at a type
    pub fit : TakesFit at target type

  pub record NewFits (at : Surroundings) (target : Target) (class : Text) : Type 0 where
    pub type : Ty
    pub is : TypeOf class type
    pub fit : TakesFit at target type

  -- the left side of a ghost assignment is a ghost variable of the kind of the right side
  pub record GhostFits (is_static : Bool) (x : Text) (v : ValueTree) (y : Member) : Type 0 where
    pub ghost : IsGhost y is_static
    pub text : y.text ≡ x
    pub kind : tree_sort v ≡ sort_of y.kind
    pub states : IsOfStates v

  -- and one of an object, with its class
  pub record GhostFieldFits (class : Text) (x : Text) (a : TermTree) (v : ValueTree) (y : Member) : Type 0 where
    pub fits : GhostFits false x v y
    pub of_class : y.class ≡ class
    pub receiver : IsOfStates (t.of_object a)

  -- what is in scope behind a statement
  abbrev pub declaring : Surroundings → Target → Surroundings
  declaring at (c.to_new x) = record at { locals = x ∷ at.locals }
  declaring at _ = at

  abbrev pub scope_behind : Surroundings → Stmt → Surroundings
  scope_behind at (c.assign target a) = declaring at target
  scope_behind at (c.new_object q target class) = declaring at target
  scope_behind at (c.call q target r place m args) = declaring at target
  scope_behind at _ = at

  module _ (result : Ty) where
    abbrev mutual
      pub StmtFits : Stmt → Surroundings → Type 0
      StmtFits c.empty at = Unit {0}
      StmtFits (c.block body) at = StmtsFit body at
      StmtFits (c.assign target a) at = AssignFits at target a
      StmtFits (c.new_object q target class) at = NewFits at target class
      StmtFits (c.call q target receiver place m args) at = CallFits at target receiver m args
      StmtFits (c.branch q e a b) at = StmtFits a at × StmtsFit b at
      StmtFits (c.loop q invariants e body) at = AreOfStates invariants × StmtFits body at
      StmtFits c.return_nothing at = result ≡ ty.Void
      StmtFits (c.return_value a) at = Fits at a result × (result ≡ ty.Void → ⊥)
      StmtFits (c.assert claim) at = IsOfStates (t.of_truth claim.formula)
      StmtFits (c.note claim) at = IsOfStates (t.of_truth claim.formula)
      StmtFits (c.ghost x q v) at = (y : Member) × GhostFits true x v y
      StmtFits (c.ghost_at q class f a place v) at = (y : Member) × GhostFieldFits class f a v y

      pub StmtsFit : Stmts → Surroundings → Type 0
      StmtsFit c.none at = Unit {0}
      StmtsFit (c.more s ss) at = StmtFits s at × StmtsFit ss (scope_behind at s)

-- whether a statement always returns
abbrev mutual
  pub is_closed : Stmt → Bool
  is_closed (c.block body) = ends_closed body
  is_closed (c.branch q e a b) = is_closed a && is_closed_part b
  is_closed c.return_nothing = true
  is_closed (c.return_value a) = true
  is_closed _ = false

  -- whether the last of a list is closed
  pub ends_closed : Stmts → Bool
  ends_closed c.none = false
  ends_closed (c.more s c.none) = is_closed s
  ends_closed (c.more s (c.more u ss)) = ends_closed (c.more u ss)

  -- whether there is a second part and it is closed
  pub is_closed_part : Stmts → Bool
  is_closed_part c.none = false
  is_closed_part (c.more s ss) = is_closed s

-- each parameter may be declared where those before it are
abbrev pub ParamsFit : Program → Option ℕ → List Local → List Local → Type 0
ParamsFit p of_class before [] = Unit {0}
ParamsFit p of_class before (x ∷ xs) = MayDeclare p (record { this = of_class; params = before; locals = [] }) x × ParamsFit p of_class (before ++ (x ∷ [])) xs

abbrev pub listed : Option Claim → List Claim
listed None = []
listed (Some claim) = claim ∷ []

-- A method fits: its body does, and one with a result doesn't end without `return`.
pub record MethodFits (p : Program) (m : Method) : Type 0 where
  pub of_class : (n : ℕ) → m.this ≡ Some n → Contains p.classes (class_at p.classes n)
  pub params : ParamsFit p m.this [] m.params
  pub result_type : IsType p m.result
  pub result_value : m.result ≡ ty.Null → ⊥
  pub body : StmtsFit p m.result m.body (record { this = m.this; params = m.params; locals = [] })
  pub end : (m.result ≡ ty.Void) ⊎ (ends_closed m.body ≡ true)
  pub contract : AreOfStates (listed m.requires ++ listed m.ensures)

-- no text stands in a list twice
abbrev pub AreApart : List Text → Type 0
AreApart [] = Unit {0}
AreApart (x ∷ xs) = ((y : Text) → Contains xs y → x ≡ y → ⊥) × AreApart xs

-- The names of the state are told apart: no class has a dot in its text or is `alloc`, no two classes have one text, and no two members
-- have; the text of a member has a dot, its class is one of the program, and its kind is that of its type, which isn't that of `null`.
pub record NamesFit (p : Program) : Type 0 where
  pub dotless : (c : Text) → Contains (all_classes p.classes) c → has_dot c ≡ false
  pub not_alloc : (c : Text) → Contains (all_classes p.classes) c → c ≡ codes "alloc" → ⊥
  pub classes : AreApart (all_classes p.classes)
  pub members : (x y : Member) → Contains p.members x → Contains p.members y → x.text ≡ y.text → x ≡ y
  pub dots : (x : Member) → Contains p.members x → has_dot x.text ≡ true
  pub of_class : (x : Member) → Contains p.members x → Contains p.classes x.class
  pub types : (x : Member) (type : Ty) → Contains p.members x → x.type ≡ Some type → IsType p type
  pub not_null : (x : Member) → Contains p.members x → x.type ≡ Some ty.Null → ⊥
  pub kinds : (x : Member) (type : Ty) → Contains p.members x → x.type ≡ Some type → kind_of type ≡ x.kind

pub record ProgramFits (p : Program) : Type 0 where
  pub names : NamesFit p
  pub methods : (m : Callee) (x : Method) → p.method m ≡ Some x → MethodFits p x
  pub invariants : AreOfStates p.invariants
