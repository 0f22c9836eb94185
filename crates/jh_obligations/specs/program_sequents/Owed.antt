-- What the methods of a program owe: the sequents of their formulas.
use Rattle.std.specs.Prelude.{◌≡◌, ◌≤◌, ◌<◌, ℕ, List, [], ◌∷◌, Some, None, length}
use Rattle.jh_name.specs.declared.place.MethodId.{MethodId}
use Rattle.jh_form.specs.Tree.{FormulaTree}
use Rattle.jh_arena.specs.table.Entries.{Listing}
use Rattle.jh_containers.specs.transitive_closure.Spreads.{IsIn}
use Rattle.jh_wp.specs.Wp.{wp}
use Rattle.jh_vars.specs.Written.{Callee}
use Rattle.jh_semantics.specs.Program.{Program, Method}
use Rattle.jh_outline.specs.jh_guard.Methods.{method_command}
use Rattle.jh_outline.specs.jh_guard.Writes.{Writes}
use Rattle.jh_seq.specs.sequent.Sequents.{SequentTree}
use Rattle.jh_seq.specs.splitting.Split.{split_of}
use Rattle.jh_seq.specs.counting.Goals.{capped}
use Rattle.jh_splitting.specs.Numbering.{IsFirst}
use Rattle.jh_splitting.specs.Pairs.{ArePaired}
use Rattle.jh_splitting.specs.Standing.{AreSequents}
use Rattle.jh_splitting.specs.declared.splitting.Sequents.{Sequents}
use Rattle.jh_obligations.specs.program_sequents.Owing.{Owing}
use Rattle.jh_obligations.specs.declared.program_sequents.fault.LogicError.{LogicError}
use Rattle.jh_obligations.specs.declared.program_sequents.fault.LogicError.TheVariants as fault

-- the formula of a method: the weakest precondition of its command, for what has to be true where it returns
abbrev pub formula_of : Program → Writes → Callee → Method → FormulaTree
formula_of p ws m x = wp (method_command p ws m x).body (method_command p ws m x).returned (method_command p ws m x).returned

-- sequents of a formula, whose constants are the first that are free
pub record AreSequentsOf (id : MethodId) (a : FormulaTree) (ss : List SequentTree) : Type 0 where
  pub first : ℕ
  pub is_first : IsFirst a first
  pub are : ss ≡ split_of id a first

-- the sequents of a method, with its number
pub record Debt : Type 0 where
  pub id : MethodId
  pub sequents : List SequentTree

-- sequents that stand in a table are those of a method
abbrev pub Stand : Listing → Sequents → Debt → Type 0
Stand t made d = (made.method ≡ d.id) × AreSequents t made.hyps made.method made.sequents.items d.sequents

abbrev pub AllStand : Listing → List Sequents → List Debt → Type 0
AllStand t made ds = ArePaired (Stand t) made ds

-- each of some methods is one of the program
abbrev pub AreThere : Program → List Owing → Type 0
AreThere p list = (w : Owing) → IsIn list w → p.method w.callee ≡ None → ⊥

module _ (p : Program) (ws : Writes) where
  -- how many sequents a method has, whichever constants are taken
  abbrev pub length_of : Owing → Method → ℕ → ℕ
  length_of w x k = length (split_of w.id (formula_of p ws w.callee x) k)

  -- a method has no more than 2,000 sequents
  pub record HasFew (w : Owing) : Type 0 where
    pub code : Method
    pub is : p.method w.callee ≡ Some code
    pub few : (k : ℕ) → length_of w code k ≤ 2000

  abbrev pub AllHaveFew : List Owing → Type 0
  AllHaveFew [] = Unit {0}
  AllHaveFew (w ∷ rest) = HasFew w × AllHaveFew rest

  -- A method owes these sequents. There are no more than 2,000.
  pub record IsOwed (w : Owing) (d : Debt) : Type 0 where
    pub id : d.id ≡ w.id
    pub few : HasFew w
    pub sequents : AreSequentsOf w.id (formula_of p ws w.callee few.code) d.sequents

  -- each of some methods owes the sequents of a list
  abbrev pub AreOwed : List Owing → List Debt → Type 0
  AreOwed [] [] = Unit {0}
  AreOwed [] (d ∷ more) = ⊥
  AreOwed (w ∷ rest) [] = ⊥
  AreOwed (w ∷ rest) (d ∷ more) = IsOwed w d × AreOwed rest more

  -- a method has more than 2,000, and so many, as far as a number tells
  pub record HasMany (w : Owing) (n : ℕ) : Type 0 where
    pub code : Method
    pub is : p.method w.callee ≡ Some code
    pub many : 2000 < n
    pub exact : (k : ℕ) → n ≡ capped (length_of w code k)

  -- The first of some methods that has more than 2,000 sequents has this number, and so many sequents.
  pub data FirstMany : List Owing → MethodId → ℕ → Type 0 where
    here : (w : Owing) (rest : List Owing) (n : ℕ) → HasMany w n → FirstMany (w ∷ rest) w.id n
    later : (w : Owing) (rest : List Owing) (id : MethodId) (n : ℕ) → HasFew w → FirstMany rest id n → FirstMany (w ∷ rest) id n

  -- why there is no list of sequents of some methods
  abbrev pub IsWhy : List Owing → LogicError → Type 0
  IsWhy list (fault.TooManySequents id n) = FirstMany list id n
  IsWhy list fault.Memory = Unit {0}

  -- why there is none of a method
  abbrev pub IsOwnWhy : Owing → LogicError → Type 0
  IsOwnWhy w (fault.TooManySequents id n) = (id ≡ w.id) × HasMany w n
  IsOwnWhy w fault.Memory = Unit {0}
