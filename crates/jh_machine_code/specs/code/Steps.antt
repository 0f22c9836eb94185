-- Which statement of `jh_semantics` a step is, and which method a body. What no run reads, the labels of formulas and the invariants of
-- loops, a step doesn't have; so a step may be one of several statements, which run alike.
use Rattle.std.specs.Prelude.{◌≡◌, ◌⊎◌, ℕ, Bool, false, List, [], ◌∷◌, map, Option, Some, None, slice_get}
use Rattle.jh_name.specs.declared.naming.Name.{Name}
use Rattle.jh_name.specs.declared.place.Place.{Place}
use Rattle.jh_form.specs.Tree.{TermTree, ValueTree, of_object, of_truth}
use Rattle.jh_form.specs.Meaning.{datum}
use Rattle.jh_arena.specs.table.Entries.{Listing}
use Rattle.jh_arena.specs.table.Nodes.{nodes}
use Rattle.jh_semantics.specs.jh_vars.Written.{Callee}
use Rattle.jh_semantics.specs.Code as c
use Rattle.jh_semantics.specs.Program.{Program, Method}
use Rattle.jh_semantics.specs.State.{State, shown}
use Rattle.jh_operands.specs.jh_sem.Wide.{IsWide}
use Rattle.jh_operands.specs.declared.exprs.ObjectExpr.{ObjectExpr}
use Rattle.jh_operands.specs.declared.exprs.AnyExpr.{AnyExpr}
use Rattle.jh_operands.specs.Exprs.{object_in, truth_in, any_in, text_at, IsPlain, ObjectFits, TruthFits, AnyFits}
use Rattle.jh_machine_code.specs.declared.code.step.CallStep.{CallStep}
use Rattle.jh_machine_code.specs.declared.code.step.GhostField.{GhostField}
use Rattle.jh_machine_code.specs.declared.code.step.Step.{Step, Row_of-Step, end_of-Step, more_of-Step}
use Rattle.jh_machine_code.specs.declared.code.step.Step.TheVariants as x
use Rattle.jh_machine_code.specs.declared.code.body.Body.{Body}
use Rattle.jh_machine_code.specs.code.Destinations.{IsTarget}

-- The state at entry plays no part in what a value is, nor in whether it leaves its integers.
pub record HangsOnNow (v : ValueTree) : Type 0 where
  pub same : (now old other : State) → datum v (shown now old) [] ≡ datum v (shown now other) []
  pub wide : (now old other : State) → IsWide (shown now old) v → IsWide (shown now other) v

-- A node has a value, and needs no state at entry where none is kept.
pub record IsNode (t : Listing) (keeps : Bool) (node : ℕ) (v : ValueTree) : Type 0 where
  pub there : slice_get (nodes t) node ≡ Some v
  pub hangs : keeps ≡ false → HangsOnNow v

-- The names by their numbers, the table of the formulas, the number of each method that there is, and whether the state at entry is
-- kept.
module _ (names : List Name) (t : Listing) (numbered : Callee → Option ℕ) (keeps : Bool) where
  unfoldable pub ReceiverIs : Option ObjectExpr → Option c.ObjectCode → Type 0
  ReceiverIs None r = r ≡ None
  ReceiverIs (Some e) r = ObjectFits names e × (r ≡ Some (object_in names e))

  unfoldable pub AllFit : List AnyExpr → Type 0
  AllFit [] = Unit {0}
  AllFit (e ∷ es) = AnyFits names e × AllFit es

  pub record IsCall (x : CallStep) (s : c.Stmt) : Type 0 where
    pub place : Place
    pub target : c.Target
    pub receiver : Option c.ObjectCode
    pub method : Callee
    pub goes : IsTarget names x.destination target
    pub on : ReceiverIs x.receiver receiver
    pub number : numbered method ≡ x.method
    pub fit : AllFit x.args
    pub is : s ≡ c.call place target receiver x.receiver_place method (map (any_in names) x.args)

  unfoldable pub ReturnIs : Option AnyExpr → c.Stmt → Type 0
  ReturnIs None s = s ≡ c.return_nothing
  ReturnIs (Some e) s = AnyFits names e × (s ≡ c.return_value (any_in names e))

  pub record IsAsked (place : Place) (node : ℕ) (s : c.Stmt) : Type 0 where
    pub claim : c.Claim
    pub there : IsNode t keeps node (of_truth claim.formula)
    pub at : claim.place ≡ place
    pub is : (s ≡ c.assert claim) ⊎ (s ≡ c.note claim)

  pub record IsGhost (name : ℕ) (place : Place) (node : ℕ) (s : c.Stmt) : Type 0 where
    pub value : ValueTree
    pub named : IsPlain names name
    pub there : IsNode t keeps node value
    pub is : s ≡ c.ghost (text_at names name) place value

  pub record IsGhostAt (x : GhostField) (s : c.Stmt) : Type 0 where
    pub object : TermTree
    pub value : ValueTree
    pub class : IsPlain names x.class
    pub field : IsPlain names x.field
    pub at : IsNode t keeps x.object (of_object object)
    pub there : IsNode t keeps x.value value
    pub is : s ≡ c.ghost_at x.left (text_at names x.class) (text_at names x.field) object x.right value

  unfoldable mutual
    -- a step is a statement
    pub IsStep : Step → c.Stmt → Type 0
    IsStep x.Empty s = s ≡ c.empty
    IsStep (x.Block' shape xs) s = (body : c.Stmts) × IsRow xs body × (s ≡ c.block body)
    IsStep (x.Assign d e) s = (target : c.Target) × IsTarget names d target × AnyFits names e × (s ≡ c.assign target (any_in names e))
    IsStep (x.New q d k) s = (target : c.Target) × IsTarget names d target × IsPlain names k × (s ≡ c.new_object q target (text_at names k))
    IsStep (x.Call call) s = IsCall call s
    IsStep (x.Branch' e i a shape xs) s =
        (q : Place) × (one : c.Stmt) × (other : c.Stmts) × TruthFits names e × IsStep a one × IsRow xs other × (s ≡ c.branch q (truth_in names e) one other)
    IsStep (x.Loop' e i a) s = (q : Place) × (claims : List c.Claim) × (body : c.Stmt) × TruthFits names e × IsStep a body × (s ≡ c.loop q claims (truth_in names e) body)
    IsStep (x.Return e) s = ReturnIs e s
    IsStep (x.Ask q n) s = IsAsked q n s
    IsStep (x.Ghost k q n) s = IsGhost k q n s
    IsStep (x.GhostAt g) s = IsGhostAt g s

    pub IsRow : {n : _} → Row_of-Step n → c.Stmts → Type 0
    IsRow end_of-Step ss = ss ≡ c.none
    IsRow (more_of-Step x xs) ss = (s : c.Stmt) × (rest : c.Stmts) × IsStep x s × IsRow xs rest × (ss ≡ c.more s rest)

  -- the same of a list of steps
  unfoldable pub AreSteps : List Step → c.Stmts → Type 0
  AreSteps [] ss = ss ≡ c.none
  AreSteps (x ∷ xs) ss = (s : c.Stmt) × (rest : c.Stmts) × IsStep x s × AreSteps xs rest × (ss ≡ c.more s rest)

-- a number is that of the name of a parameter
unfoldable pub AreParams : List Name → List ℕ → List c.Local → Type 0
AreParams names [] ls = ls ≡ []
AreParams names (k ∷ ks) ls = (l : c.Local) × (rest : List c.Local) × (l.text ≡ text_at names k) × IsPlain names k × AreParams names ks rest × (ls ≡ l ∷ rest)

-- a body is a method
pub record IsBody (names : List Name) (t : Listing) (numbered : Callee → Option ℕ) (x : Body) (m : Method) : Type 0 where
  pub params : AreParams names x.params m.params
  pub steps : AreSteps names t numbered x.keeps_entry x.steps m.body

-- a method of a program is the body of its number
unfoldable pub MethodIs : List Name → Listing → (Callee → Option ℕ) → List Body → Option Method → Option ℕ → Type 0
MethodIs names t numbered bodies None n = n ≡ None
MethodIs names t numbered bodies (Some m) n = (k : ℕ) × (x : Body) × (n ≡ Some k) × (slice_get bodies k ≡ Some x) × IsBody names t numbered x m

-- bodies are the methods of a program
abbrev pub AreBodies : List Name → Listing → (Callee → Option ℕ) → List Body → Program → Type 0
AreBodies names t numbered bodies p = (m : Callee) → MethodIs names t numbered bodies (p.method m) (numbered m)
