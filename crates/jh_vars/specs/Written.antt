-- The state that a method may write, and the state that it names.
use Rattle.std.specs.Prelude.{◌≡◌, ◌↔◌, IsTrue, filter, ℕ, ◌+◌, Bool, true, false, List, [], ◌∷◌, ◌++◌, map, Option, Some, None, is_some, slice_get, codes, if◌then◌else◌}
use Rattle.std.specs.List.{flat_map, Contains}
use Rattle.std.specs.Option.{option_map_or}
use Rattle.jh_name.specs.declared.naming.Name.{Name}
use Rattle.jh_name.specs.declared.place.Kind.{Kind}
use Rattle.jh_ast.specs.declared.word.Word.{Word}
use Rattle.jh_ast.specs.Exprs.{ExprTree}
use Rattle.jh_ast.specs.Exprs as e
use Rattle.jh_ast.specs.Forms.{FormTree}
use Rattle.jh_ast.specs.Forms as f
use Rattle.jh_ast.specs.Stmts.{StmtTree, RhsTree, CallTree}
use Rattle.jh_ast.specs.Stmts as s
use Rattle.jh_ast.specs.Programs.{ProgramTree, ClassPart, FieldPart, VarPart, MethodPart}
use Rattle.jh_rules.specs.declared.types.Ty.{Ty}
use Rattle.jh_rules.specs.Words.{same_text, text_of, is_before}
use Rattle.jh_rules.specs.Kinds.{class_of}
use Rattle.jh_rules.specs.Names.{◌then◌, kind_of_word, declared_in, number_of}
use Rattle.jh_vars.specs.States.{State, variable_of, class_text, state_spelled, state_named}
use Rattle.jh_rules.specs.Scopes.{Scope}
use Rattle.jh_vars.specs.Statements.{InScope, method_statements}
use Rattle.jh_vars.specs.Reading.{Reads}
use Rattle.jh_vars.specs.Resolved.{own}
use Rattle.jh_rules.specs.Exprs.{expr_type, class_spelled, callee_class}

-- what a method may change: the sets of objects, or a static, field or ghost variable by its state
pub data Written : Type 0 where
  allocated : Written
  objects : ℕ → Written
  plain_objects : Written
  state : ℕ → List ℕ → Written

-- a method, by its class and its name
pub record Callee : Type 0 where
  pub class : ℕ
  pub name : List ℕ

-- a static, field or ghost variable where it stands
pub record Piece : Type 0 where
  pub word : Word
  pub kind : Kind
  pub fixed : Bool
  pub is_ghost : Bool

abbrev pub field_piece : FieldPart → Piece
field_piece x = record { word = x.name; kind = kind_of_word x.jtype; fixed = x.fixed; is_ghost = false }

abbrev pub ghost_pieces : VarPart → List Piece
ghost_pieces v = if v.is_ghost then record { word = v.name; kind = v.kind; fixed = v.fixed; is_ghost = true } ∷ [] else []

abbrev pub stands_before : Piece → Piece → Bool
stands_before y x = is_before y.word.place x.word.place

-- the pieces of a list before one, and the others
unfoldable pub front_before : Piece → List Piece → List Piece
front_before x [] = []
front_before x (y ∷ ys) = if stands_before y x then y ∷ front_before x ys else []

unfoldable pub rest_behind : Piece → List Piece → List Piece
rest_behind x [] = []
rest_behind x (y ∷ ys) = if stands_before y x then rest_behind x ys else y ∷ ys

-- two lists in the order of the text as one
unfoldable pub merged : List Piece → List Piece → List Piece
merged [] ys = ys
merged (x ∷ xs) ys = front_before x ys ++ x ∷ merged xs (rest_behind x ys)

-- the statics, fields and ghost variables of a class in the order of the text
abbrev pub pieces_of : ClassPart → List Piece
pieces_of c = merged (map field_piece c.fields) (flat_map ghost_pieces c.vars)

-- the first method of a name
unfoldable pub method_in : List ℕ → List MethodPart → Option MethodPart
method_in x [] = None
method_in x (m ∷ ms) = if same_text (text_of m.name) x then Some m else method_in x ms

module _ (p : ProgramTree) where
  abbrev pub some_state : Option State → List Written
  some_state x = option_map_or (λ (y : State). state y.entry.class y.name ∷ []) x []

  abbrev pub member_written : Option (Option ℕ) → Option Ty → List ℕ → List Written
  member_written (Some c) t x = option_map_or (λ k. state k x ∷ []) c []
  member_written None t x = option_map_or (λ u. option_map_or (λ k. state k x ∷ []) (class_of u) []) t []

  -- what an assignment to an expression writes
  abbrev pub target_writes : Scope → ExprTree → List Written
  target_writes at (e.name q w) = if is_some (at.local (text_of w)) then [] else state at.class (text_of w) ∷ []
  target_writes at (e.member q a w) = member_written (class_spelled (declared_in p) at a) (expr_type (declared_in p) at a).known (text_of w)
  target_writes at _ = []

  abbrev pub class_written : Option ℕ → List Written
  class_written (Some c) = allocated ∷ objects c ∷ []
  class_written None = allocated ∷ plain_objects ∷ []

  abbrev pub rhs_writes : RhsTree → List Written
  rhs_writes (s.value a) = []
  rhs_writes (s.result_of c) = []
  rhs_writes (s.new w) = class_written (number_of p (text_of w))

  abbrev pub ghost_writes : Scope → FormTree → List Written
  ghost_writes at (f.name q w) = some_state (state_spelled (declared_in p) at.class (text_of w))
  ghost_writes at (f.member q a w) = some_state (state_named (declared_in p) at.class (text_of w))
  ghost_writes at _ = []

  -- the method that a call calls
  abbrev pub calls_of : Scope → CallTree → List Callee
  calls_of at c = option_map_or (λ r. option_map_or (λ k. record { class = k; name = text_of c.method } ∷ []) r.0 []) (callee_class (declared_in p) at c.receiver).known []

  abbrev pub rhs_calls : Scope → RhsTree → List Callee
  rhs_calls at (s.value a) = []
  rhs_calls at (s.result_of c) = calls_of at c
  rhs_calls at (s.new w) = []

  -- what a statement assigns itself
  abbrev pub stmt_writes : Scope → StmtTree → List Written
  stmt_writes at (s.local q d r) = option_map_or rhs_writes r []
  stmt_writes at (s.assign q a r) = target_writes at a ++ rhs_writes r
  stmt_writes at (s.ghost q l r) = ghost_writes at l.form
  stmt_writes at _ = []

  abbrev pub writes_of : InScope → List Written
  writes_of x = stmt_writes x.at x.stmt

  -- the method that a statement calls itself
  abbrev pub stmt_calls : Scope → StmtTree → List Callee
  stmt_calls at (s.local q d r) = option_map_or (rhs_calls at) r []
  stmt_calls at (s.assign q a r) = rhs_calls at r
  stmt_calls at (s.call q c) = calls_of at c
  stmt_calls at _ = []

  abbrev pub called_by : InScope → List Callee
  called_by x = stmt_calls x.at x.stmt

  -- a method of the program
  abbrev pub part_of : Callee → Option MethodPart
  part_of m = slice_get p.classes m.class then λ class. method_in m.name class.methods

  abbrev pub own_writes : Callee → List Written
  own_writes m = option_map_or (λ (x : MethodPart). flat_map writes_of (method_statements p m.class x)) (part_of m) []

  abbrev pub own_calls : Callee → List Callee
  own_calls m = option_map_or (λ (x : MethodPart). flat_map called_by (method_statements p m.class x)) (part_of m) []

  -- what a method may write, itself or by the methods that it calls
  pub data MayWrite : Callee → Written → Type 0 where
    directly : (m : Callee) (x : Written) → Contains (own_writes m) x → MayWrite m x
    called : (m n : Callee) (x : Written) → Contains (own_calls m) n → MayWrite n x → MayWrite m x

  unfoldable pub members_in_order : ℕ → List ClassPart → List Written
  members_in_order n [] = []
  members_in_order n (c ∷ cs) = map (λ x. state n (text_of x.word)) (pieces_of c) ++ members_in_order (n + 1) cs

  -- the sets of the objects of the classes, and that of the plain objects
  unfoldable pub class_sets : ℕ → List ClassPart → List Written
  class_sets n [] = plain_objects ∷ []
  class_sets n (c ∷ cs) = objects n ∷ class_sets (n + 1) cs

  -- the state names in order
  abbrev pub all_state : List Written
  all_state = allocated ∷ class_sets 0 p.classes ++ members_in_order 0 p.classes

  -- the state names of a test, in their order
  pub record IsSelected (holds : Written → Type 0) (result : List Written) : Type 0 where
    pub test : Written → Bool
    pub exact : (x : Written) → IsTrue (test x) ↔ holds x
    pub is : result ≡ filter test all_state

  -- `written` of a method
  abbrev pub IsWrittenList : Callee → List Written → Type 0
  IsWrittenList m result = IsSelected (MayWrite m) result

  abbrev pub as_written : State → Written
  as_written x = state x.entry.class x.name

  -- what `modifies` names: state, or all that a definition reads, through others too
  pub data Names : List State → Written → Type 0 where
    plainly : (named : List State) (x : State) → Contains named x → x.entry.is_defined ≡ false → Names named (as_written x)
    through : (named : List State) (x y : State) → Contains named x → x.entry.is_defined ≡ true → Reads p (variable_of x) y → y.entry.is_defined ≡ false → Names named (as_written y)

  abbrev pub named_by : ℕ → MethodPart → List State
  named_by n m = flat_map (λ w. option_map_or (λ x. x ∷ []) (state_named (declared_in p) n (text_of w)) []) m.modifies

  abbrev pub IsModifiedList : ℕ → MethodPart → List Written → Type 0
  IsModifiedList n m result = IsSelected (Names (named_by n m)) result

  -- the name of each piece of state
  abbrev pub written_name : Written → Name
  written_name allocated = own (codes "alloc") 0
  written_name (objects n) = own (class_text p n) 0
  written_name plain_objects = own (codes "Object") 0
  written_name (state n x) = own (class_text p n ++ codes "." ++ x) 0

  -- all state names, in their order
  abbrev pub state_names : List Name
  state_names = map written_name all_state

  -- a list of the names of the state that a test holds of, in the order of all state names
  pub record IsListOf (holds : Written → Type 0) (names : List Name) : Type 0 where
    pub state : List Written
    pub selected : IsSelected holds state
    pub named : names ≡ map written_name state
