-- What stands for code, over the numbers of names, while further names get numbers.
use Rattle.std.specs.Prelude.{◌≡◌, ℕ, List}
use Rattle.jh_name.specs.declared.naming.Name.{Name}
use Rattle.jh_arena.specs.table.Growth.{Grows}
use Rattle.jh_semantics.specs.Code.{Text}
use Rattle.jh_semantics.specs.declared.typed_code.code.ObjectCode.{ObjectCode}
use Rattle.jh_semantics.specs.declared.typed_code.code.NumberCode.{NumberCode}
use Rattle.jh_semantics.specs.declared.typed_code.code.TruthCode.{TruthCode}
use Rattle.jh_semantics.specs.declared.typed_code.code.AnyCode.{AnyCode}
use Rattle.jh_semantics.specs.typed_code.Codes.{object_code, number_code, truth_code, any_code}
use Rattle.jh_operands.specs.declared.exprs.ObjectExpr.{ObjectExpr}
use Rattle.jh_operands.specs.declared.exprs.NumberExpr.{NumberExpr}
use Rattle.jh_operands.specs.declared.exprs.TruthExpr.{TruthExpr}
use Rattle.jh_operands.specs.declared.exprs.AnyExpr.{AnyExpr}
use Rattle.jh_operands.specs.Exprs.{text_at, IsPlain, object_in, number_in, truth_in, any_in, ObjectFits, NumberFits, TruthFits, AnyFits}

-- What is made over the numbers of names stands for a code: it denotes it, and all its numbers are those of names, among these names
-- and among all that grow from them, in which each name keeps its number.
pub record Stands {E C : Type 0} (denotes : List Name → E → C) (Fits : List Name → E → Type 0) (names : List Name) (made : E) (code : C) : Type 0 where
  pub same : (later : List Name) → Grows names later → denotes later made ≡ code
  pub fits : (later : List Name) → Grows names later → Fits later made

-- a number is that of the name of a text, at turn 0
abbrev pub IsText : List Name → Text → ℕ → Type 0
IsText names text number = Stands text_at IsPlain names number text

abbrev pub IsObject : List Name → ObjectCode → ObjectExpr → Type 0
IsObject names code made = Stands object_in ObjectFits names made (object_code code)

abbrev pub IsNumber : List Name → NumberCode → NumberExpr → Type 0
IsNumber names code made = Stands number_in NumberFits names made (number_code code)

abbrev pub IsTruth : List Name → TruthCode → TruthExpr → Type 0
IsTruth names code made = Stands truth_in TruthFits names made (truth_code code)

abbrev pub IsAny : List Name → AnyCode → AnyExpr → Type 0
IsAny names code made = Stands any_in AnyFits names made (any_code code)
