use Rattle.jh_machine_compiler.proofs.SimpleSteps.{return_none, return_some}
use Rattle.jh_machine_compiler.proofs.simple.return_step.Goals as goal

pub returns-in-None-clause-is : goal.returns-in-None-clause-is
returns-in-None-clause-is c = λ p numbered keeps t. return_none p c.in-None.is

pub returns-in_ok-value-in-Some-clause-is : goal.returns-in_ok-value-in-Some-clause-is
returns-in_ok-value-in-Some-clause-is c = λ p numbered keeps t. return_some p c.in-Some.is c.in_ok-value-in-Some.ensures.is
