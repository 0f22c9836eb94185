-- What statements may write: of the state, and of the parameters and locals.
use Rattle.std.specs.Prelude.{Bool, false, ◌||◌, not, List, [], ◌∷◌, ◌++◌, filter, codes}
use Rattle.jh_rules.specs.Words.{same_text}
use Rattle.jh_semantics.specs.jh_vars.Written.{Callee}
use Rattle.jh_semantics.specs.Code.{Text, Local, Target, Stmt, Stmts}
use Rattle.jh_semantics.specs.Code as c

-- what each method may write, itself or through others, and what its `modifies` names, by the texts of the state
pub record Writes : Type 0 where
  pub written : Callee → Text → Bool
  pub modified : Callee → Text → Bool

abbrev pub target_writes : Target → Text → Bool
target_writes c.nowhere x = false
target_writes (c.to_new y) x = false
target_writes (c.to_name y) x = same_text y x
target_writes (c.to_field f r p) x = same_text f x

-- A new object joins the objects of its class, and `alloc`. No parameter or local has the text of a piece of state.
module _ (w : Writes) where
  abbrev mutual
    pub stmt_writes : Stmt → Text → Bool
    stmt_writes (c.block body) x = stmts_write body x
    stmt_writes (c.assign target e) x = target_writes target x
    stmt_writes (c.new_object p target class) x = same_text (codes "alloc") x || same_text class x || target_writes target x
    stmt_writes (c.call q target receiver p m args) x = w.written m x || target_writes target x
    stmt_writes (c.branch q e a b) x = stmt_writes a x || stmts_write b x
    stmt_writes (c.loop q invariants e body) x = stmt_writes body x
    stmt_writes (c.ghost y q v) x = same_text y x
    stmt_writes (c.ghost_at p class f a q v) x = same_text f x
    stmt_writes _ x = false

    pub stmts_write : Stmts → Text → Bool
    stmts_write c.none x = false
    stmts_write (c.more s ss) x = stmt_writes s x || stmts_write ss x

-- the local of a text among those in scope
abbrev pub local_named : Text → List Local → List Local
local_named x locals = filter (λ (y : Local). same_text y.text x) locals

-- the local that a target is
abbrev pub target_local : List Local → Target → List Local
target_local scope (c.to_new x) = x ∷ []
target_local scope (c.to_name x) = local_named x scope
target_local scope _ = []

-- the target of a statement itself
abbrev pub target_of_stmt : Stmt → Target
target_of_stmt (c.assign target e) = target
target_of_stmt (c.new_object p target class) = target
target_of_stmt (c.call q target receiver p m args) = target
target_of_stmt _ = c.nowhere

abbrev pub declared : Target → List Local
declared (c.to_new x) = x ∷ []
declared _ = []

-- the locals in scope after a statement, of those before it
abbrev pub scope_after : List Local → Stmt → List Local
scope_after scope s = scope ++ declared (target_of_stmt s)

-- the locals that are assigned, as often as they are, in the order of the text
abbrev mutual
  pub locals_assigned : List Local → Stmt → List Local
  locals_assigned scope (c.block body) = all_assigned scope body
  locals_assigned scope (c.branch q e a b) = locals_assigned scope a ++ all_assigned scope b
  locals_assigned scope (c.loop q invariants e body) = locals_assigned scope body
  locals_assigned scope s = target_local scope (target_of_stmt s)

  pub all_assigned : List Local → Stmts → List Local
  all_assigned scope c.none = []
  all_assigned scope (c.more s ss) = locals_assigned scope s ++ all_assigned (scope_after scope s) ss

-- each text once, where it first stands
abbrev pub first_ones : List Local → List Local
first_ones [] = []
first_ones (x ∷ xs) = x ∷ filter (λ (y : Local). not (same_text y.text x.text)) (first_ones xs)
