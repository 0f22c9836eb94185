-- What code over numbers is, while names get numbers and formulas nodes.
use Rattle.std.specs.Prelude.{◌≡◌, ℕ, Bool, List, [], ◌∷◌, Option, map}
use Rattle.jh_name.specs.declared.naming.Name.{Name}
use Rattle.jh_arena.specs.table.Entries.{Listing}
use Rattle.jh_arena.specs.table.Growth.{Grows, Extends}
use Rattle.jh_vars.specs.Written.{Callee}
use Rattle.jh_semantics.specs.Code as c
use Rattle.jh_semantics.specs.Program.{Method}
use Rattle.jh_semantics.specs.declared.typed_code.stmts.Local.{Local}
use Rattle.jh_semantics.specs.declared.typed_code.stmts.Target.{Target}
use Rattle.jh_semantics.specs.typed_code.Statements.{target_in, local_in}
use Rattle.jh_operands.specs.declared.exprs.ObjectExpr.{ObjectExpr}
use Rattle.jh_operands.specs.declared.exprs.AnyExpr.{AnyExpr}
use Rattle.jh_operands.specs.Exprs.{any_in}
use Rattle.jh_machine_code.specs.declared.code.body.Body.{Body}
use Rattle.jh_machine_code.specs.declared.code.destination.Destination.{Destination}
use Rattle.jh_machine_code.specs.declared.code.step.Step.{Step}
use Rattle.jh_machine_code.specs.code.Destinations.{IsTarget}
use Rattle.jh_machine_code.specs.code.Steps.{IsStep, AreSteps, ReceiverIs, AllFit, AreParams, IsBody}

-- a destination is a target among these names, and among all that grow from them
pub record IsDestination (names : List Name) (target : Target) (made : Destination) : Type 0 where
  pub is : (later : List Name) → Grows names later → IsTarget later made (target_in target)

-- A step is a statement among these names and in this table, and in all that grow from them.
pub record Makes (numbered : Callee → Option ℕ) (keeps : Bool) (names : List Name) (t : Listing) (s : c.Stmt) (made : Step) : Type 0 where
  pub is : (later : List Name) (u : Listing) → Grows names later → Extends t u → IsStep later u numbered keeps made s

-- the same of steps one after another
pub record MakesAll (numbered : Callee → Option ℕ) (keeps : Bool) (names : List Name) (t : Listing) (ss : c.Stmts) (made : List Step) : Type 0 where
  pub are : (later : List Name) (u : Listing) → Grows names later → Extends t u → AreSteps later u numbered keeps made ss

-- a receiver, where there is one, and the arguments of a call
pub record IsReceiver (names : List Name) (code : Option c.ObjectCode) (made : Option ObjectExpr) : Type 0 where
  pub is : (later : List Name) (t : Listing) (numbered : Callee → Option ℕ) (keeps : Bool) → Grows names later → ReceiverIs later t numbered keeps made code

pub record AreArguments (names : List Name) (codes : List c.AnyCode) (made : List AnyExpr) : Type 0 where
  pub same : (later : List Name) → Grows names later → map (any_in later) made ≡ codes
  pub fit : (later : List Name) (t : Listing) (numbered : Callee → Option ℕ) (keeps : Bool) → Grows names later → AllFit later t numbered keeps made

-- numbers are those of the names of parameters, among these names, and among all that grow from them
pub record HasParams (names : List Name) (params : List Local) (made : List ℕ) : Type 0 where
  pub are : (later : List Name) → Grows names later → AreParams later made (map local_in params)

-- a body is a method among these names and in this table, and in all that grow from them
pub record MakesBody (numbered : Callee → Option ℕ) (names : List Name) (t : Listing) (m : Method) (made : Body) : Type 0 where
  pub is : (later : List Name) (u : Listing) → Grows names later → Extends t u → IsBody later u numbered made m

-- bodies are methods, each at its place
unfoldable pub MakesBodies : (Callee → Option ℕ) → List Name → Listing → List Method → List Body → Type 0
MakesBodies numbered names t [] bodies = bodies ≡ []
MakesBodies numbered names t (m ∷ ms) [] = ⊥
MakesBodies numbered names t (m ∷ ms) (x ∷ xs) = MakesBody numbered names t m x × MakesBodies numbered names t ms xs
