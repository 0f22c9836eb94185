use Rattle.std.proofs.Common.{rules, arith}
use Rattle.jh_operands.proofs.ObjectSteps.{no_fault}
use Rattle.jh_operands.proofs.objects.not_null.Goals as goal

-- src/objects.rt
pub returns-then-object-eq0-clause-fault : goal.returns-then-object-eq0-clause-fault
returns-then-object-eq0-clause-fault c = no_fault c.args.place c.args.object (search (rules, arith))
