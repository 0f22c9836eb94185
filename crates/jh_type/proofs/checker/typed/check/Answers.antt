use Rattle.std.proofs.Common.{sym, ◌∙◌}
use Rattle.jh_ast.specs.Bare.{program_tree}
use Rattle.jh_rules.specs.Breaks.{faults_of}
use Rattle.jh_rules.specs.Faults.{fault}
use Rattle.jh_type.proofs.checker.Minima.{least-none, least-fault, none-broken}
use Rattle.jh_type.proofs.checker.typed.check.Goals as goal

pub invariant_of-result : goal.invariant_of-result
invariant_of-result c = least-none (faults_of (program_tree c.args.program)) (sym c.in-Ok-None.ensures ∙ c.in-Ok-None.field-0-is)

pub returns-in-Ok-None-clause-sound : goal.returns-in-Ok-None-clause-sound
returns-in-Ok-None-clause-sound c = λ rule place broken. none-broken (faults_of (program_tree c.args.program)) (least-none (faults_of (program_tree c.args.program)) (sym c.in-Ok-None.ensures ∙ c.in-Ok-None.field-0-is)) (fault rule place) broken

pub returns-in-Ok-Some-clause-cause : goal.returns-in-Ok-Some-clause-cause
returns-in-Ok-Some-clause-cause c = least-fault (program_tree c.args.program) c.in-Ok-Some.found (sym c.in-Ok-Some.field-0-is ∙ c.in-Ok-Some.ensures)
