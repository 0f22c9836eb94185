-- What holds of what the methods of a source owe.
use Rattle.std.specs.Prelude.{◌≡◌, ℕ, List, [], ◌∷◌}
use Rattle.jh_name.specs.declared.place.MethodId.{MethodId}
use Rattle.jh_ast.specs.Programs.{ProgramTree}
use Rattle.jh_semantics.specs.LoweredProgram.{IsSound}
use Rattle.jh_seq.specs.splitting.Laws.{AllValid}
use Rattle.jh_outline.specs.jh_logic.source.Laws.{IsAccepted}
use Rattle.jh_obligations.specs.program_sequents.Owed.{Debt}
use Rattle.jh_obligations.specs.program_sequents.Sources.{Owes, OwesLittle, OwesMuch}

-- the sequents of all methods are valid
abbrev pub EachValid : List Debt → Type 0
EachValid [] = Unit {0}
EachValid (d ∷ more) = AllValid d.sequents × EachValid more

-- A source that is accepted is sound where all sequents of its methods are valid.
abbrev pub OwedIsSound : Type 0
OwedIsSound = (p : ProgramTree) (ds : List Debt) → IsAccepted p → Owes p ds → EachValid ds → IsSound p

-- Where its methods owe a list of sequents none has too many; and there is at most one first that has.
abbrev pub OwedIsLittle : Type 0
OwedIsLittle = (p : ProgramTree) (ds : List Debt) → Owes p ds → OwesLittle p

abbrev pub LittleIsNotMuch : Type 0
LittleIsNotMuch = (p : ProgramTree) (id : MethodId) (n : ℕ) → OwesLittle p → OwesMuch p id n → ⊥

abbrev pub OneIsFirst : Type 0
OneIsFirst = (p : ProgramTree) (i j : MethodId) (m n : ℕ) → OwesMuch p i m → OwesMuch p j n → (i ≡ j) × (m ≡ n)

-- There is one list of sequents that the methods of a source owe.
abbrev pub OwedIsOne : Type 0
OwedIsOne = (p : ProgramTree) (ds es : List Debt) → Owes p ds → Owes p es → ds ≡ es
