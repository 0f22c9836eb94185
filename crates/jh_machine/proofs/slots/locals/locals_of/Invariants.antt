use Rattle.jh_machine.proofs.slots.LocalSteps.{AreLocalsBelow}
use Rattle.jh_machine.proofs.slots.locals.locals_of.Given as goal

abbrev pub invariant-loop-number : goal.invariant-loop-number
invariant-loop-number l = AreLocalsBelow l.fn.names l.number l.made.items
