-- What is gathered of statements, without memory.
use Rattle.std.specs.Prelude.{◌≡◌, ℕ, List, [], ◌∷◌, ◌++◌, map, Option, Some, None, is_some, if◌then◌else◌}
use Rattle.std.specs.Option.{option_map_or}
use Rattle.jh_ast.specs.declared.word.Word.{Word}
use Rattle.jh_ast.specs.Exprs.{ExprTree}
use Rattle.jh_ast.specs.Exprs as e
use Rattle.jh_ast.specs.Forms.{FormTree}
use Rattle.jh_ast.specs.Forms as f
use Rattle.jh_ast.specs.Stmts.{StmtTree, RhsTree, CallTree}
use Rattle.jh_ast.specs.Stmts as s
use Rattle.jh_ast.specs.Programs.{ProgramTree}
use Rattle.jh_rules.specs.declared.types.Ty.{Ty}
use Rattle.jh_rules.specs.Words.{text_of}
use Rattle.jh_rules.specs.Kinds.{class_of}
use Rattle.jh_rules.specs.Names.{◌then◌, Declared, declared_in}
use Rattle.jh_rules.specs.Scopes.{Scope}
use Rattle.jh_rules.specs.Exprs.{class_spelled, expr_type}
use Rattle.jh_symbols.specs.scopes.Lookings.{declared_by}
use Rattle.jh_vars.specs.States.{State, state_spelled, state_named}
use Rattle.jh_vars.specs.Statements.{InScope}
use Rattle.jh_vars.specs.Written as w
use Rattle.jh_effects.specs.declared.direct_effects.effects.Write.{Write}
use Rattle.jh_effects.specs.declared.direct_effects.effects.Write.TheVariants as v
use Rattle.jh_effects.specs.declared.direct_effects.effects.Callee.{Callee}
use Rattle.jh_effects.specs.declared.direct_effects.effects.Effects.{Effects}
use Rattle.jh_effects.specs.declared.direct_effects.gathering.Gathering.{Gathering}

abbrev pub written_of : Write → w.Written
written_of v.Allocated = w.allocated
written_of (v.Objects n) = w.objects n
written_of v.PlainObjects = w.plain_objects
written_of (v.State n x) = w.state n x

abbrev pub callee_of : Callee → w.Callee
callee_of c = record { class = c.class; name = c.name }

abbrev pub writes_in : List Write → List w.Written
writes_in xs = map written_of xs

abbrev pub calls_in : List Callee → List w.Callee
calls_in xs = map callee_of xs

-- the class of what stands before a dot: one that is spelled, or that of a value
abbrev pub class_or : Option (Option ℕ) → Option Ty → Option ℕ
class_or (Some c) t = c
class_or None t = t then class_of

abbrev pub class_before : Declared → Scope → ExprTree → Option ℕ
class_before l at a = class_or (class_spelled l at a) (expr_type l at a).known

-- a piece of state by its class, where there is one, and its own name
abbrev pub state_in : Option ℕ → List ℕ → List w.Written
state_in c x = option_map_or (λ k. w.state k x ∷ []) c []

abbrev pub callee_in : Option ℕ → List ℕ → List w.Callee
callee_in c x = option_map_or (λ k. record { class = k; name = x } ∷ []) c []

-- these writes and calls are added
pub record Adds (old new : Effects) (ws : List w.Written) (cs : List w.Callee) : Type 0 where
  pub writes : writes_in new.writes.items ≡ writes_in old.writes.items ++ ws
  pub calls : calls_in new.calls.items ≡ calls_in old.calls.items ++ cs

-- what a statement writes and calls is added
pub record Gathers (old new : Gathering) (x : InScope) : Type 0 where
  pub lookups : new.lookups ≡ old.lookups
  pub adds : (p : ProgramTree) → declared_by old.lookups.now ≡ declared_in p → Adds old.effects new.effects (w.writes_of p x) (w.called_by p x)

-- The same as in the definitions, over what is declared.

-- a member of the own class, unless the word names a parameter or local
abbrev pub named_writes : Scope → Word → List w.Written
named_writes at x = if is_some (at.local (text_of x)) then [] else w.state at.class (text_of x) ∷ []

abbrev pub target_written : Declared → Scope → ExprTree → List w.Written
target_written l at (e.name q x) = named_writes at x
target_written l at (e.member q a x) = state_in (class_before l at a) (text_of x)
target_written l at _ = []

abbrev pub class_written : Option ℕ → List w.Written
class_written (Some c) = w.allocated ∷ w.objects c ∷ []
class_written None = w.allocated ∷ w.plain_objects ∷ []

abbrev pub rhs_written : Declared → RhsTree → List w.Written
rhs_written l (s.value a) = []
rhs_written l (s.result_of c) = []
rhs_written l (s.new x) = class_written (l.class_named (text_of x))

abbrev pub receiver_class : Declared → Scope → Option ExprTree → Option ℕ
receiver_class l at None = Some at.class
receiver_class l at (Some a) = class_before l at a

abbrev pub called_in : Declared → Scope → CallTree → List w.Callee
called_in l at c = callee_in (receiver_class l at c.receiver) (text_of c.method)

abbrev pub rhs_called : Declared → Scope → RhsTree → List w.Callee
rhs_called l at (s.value a) = []
rhs_called l at (s.result_of c) = called_in l at c
rhs_called l at (s.new x) = []

abbrev pub some_written : Option State → List w.Written
some_written x = option_map_or (λ (y : State). w.state y.entry.class y.name ∷ []) x []

abbrev pub ghost_written : Declared → Scope → FormTree → List w.Written
ghost_written l at (f.name q x) = some_written (state_spelled l at.class (text_of x))
ghost_written l at (f.member q a x) = some_written (state_named l at.class (text_of x))
ghost_written l at _ = []

abbrev pub stmt_written : Declared → Scope → StmtTree → List w.Written
stmt_written l at (s.local q d r) = option_map_or (rhs_written l) r []
stmt_written l at (s.assign q a r) = target_written l at a ++ rhs_written l r
stmt_written l at (s.ghost q a b) = ghost_written l at a.form
stmt_written l at _ = []

abbrev pub stmt_called : Declared → Scope → StmtTree → List w.Callee
stmt_called l at (s.local q d r) = option_map_or (rhs_called l at) r []
stmt_called l at (s.assign q a r) = rhs_called l at r
stmt_called l at (s.call q c) = called_in l at c
stmt_called l at _ = []
