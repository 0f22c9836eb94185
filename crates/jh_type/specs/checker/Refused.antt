-- Why a program is refused.
use Rattle.std.specs.Prelude.{◌≡◌, false}
use Rattle.std.specs.List.{Contains}
use Rattle.jh_ast.specs.Programs.{ProgramTree}
use Rattle.jh_rules.specs.declared.fault.Fault.{Fault}
use Rattle.jh_rules.specs.Faults.{fault}
use Rattle.jh_rules.specs.Found.{is_less}
use Rattle.jh_rules.specs.Breaks.{faults_of}
use Rattle.jh_type.specs.declared.checker.typed.TypeError.{TypeError}
use Rattle.jh_type.specs.declared.checker.typed.TypeError.TheVariants as e

-- A broken rule and its place, of which no broken rule is less: none is earlier in the text, and at that
-- place none is a lesser rule.
pub record IsLeastFault (p : ProgramTree) (x : Fault) : Type 0 where
  pub breaks : Contains (faults_of p) x
  pub least : (y : Fault) → Contains (faults_of p) y → is_less y x ≡ false

-- the least fault, or want of memory
abbrev pub IsRefused : ProgramTree → TypeError → Type 0
IsRefused p (e.TypeFault rule place) = IsLeastFault p (fault rule place)
IsRefused p e.Memory = Unit {0}
