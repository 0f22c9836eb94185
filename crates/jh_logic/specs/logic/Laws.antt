-- What the commands of methods come to: valid formulas make programs sound.
use Rattle.std.specs.Prelude.{◌≡◌, true, Some}
use Rattle.jh_ast.specs.Programs.{ProgramTree}
use Rattle.jh_vars.specs.Written.{Callee}
use Rattle.jh_semantics.specs.Code.{Text}
use Rattle.jh_semantics.specs.LoweredProgram.{ModifiesOf}
use Rattle.jh_semantics.specs.Program.{Program, Method}
use Rattle.jh_semantics.specs.Sound.{Sound}
use Rattle.jh_semantics.specs.Typed.{ProgramFits}
use Rattle.jh_guard.specs.Writes.{Writes}
use Rattle.jh_logic.specs.logic.MethodContracts.{ContractsFit, WritesCover, IsValid}

-- The formulas of all methods of a program are valid.
abbrev pub AreValid : Program → Writes → Type 0
AreValid p ws = (m : Callee) (x : Method) → p.method m ≡ Some x → IsValid p ws m x

-- What `modifies` names is at least what the commands take it to name.
abbrev pub NamesAll : Writes → (Callee → Text → Type 0) → Type 0
NamesAll ws Modifies = (m : Callee) (y : Text) → ws.modified m y ≡ true → Modifies m y

-- Where a program's code and contracts are as the type rules leave them, each method may write what its body may, and the formulas of all
-- methods are valid, the program is sound. What the `modifies` of its methods name is said by a source.
abbrev pub ValidMakesSound : Type 0
ValidMakesSound =
    (source : ProgramTree) (p : Program) (ws : Writes) → ProgramFits p → ContractsFit p → WritesCover p ws → AreValid p ws →
    NamesAll ws (ModifiesOf source) → Sound p (ModifiesOf source)
