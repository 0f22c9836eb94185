-- Which rules a program breaks, and where.
use Rattle.std.specs.Prelude.{ℕ, List}
use Rattle.std.specs.List.{Contains}
use Rattle.jh_ast.specs.jh_name.declared.place.Place.{Place}
use Rattle.jh_ast.specs.Programs.{ProgramTree}
use Rattle.jh_rules.specs.declared.fault.Fault.{Fault}
use Rattle.jh_rules.specs.Faults.{fault}
use Rattle.jh_rules.specs.Names.{declared_in}
use Rattle.jh_rules.specs.Statements.{classes_faults}

-- all faults of a program
abbrev pub faults_of : ProgramTree → List Fault
faults_of p = classes_faults (declared_in p) p 0 p.classes

-- a rule is broken at a place
abbrev pub Breaks : ProgramTree → ℕ → Place → Type 0
Breaks p rule place = Contains (faults_of p) (fault rule place)
