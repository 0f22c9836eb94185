use Rattle.std.proofs.Common.{◌≡◌, ◌++◌, drop}
use Rattle.jh_definitions.specs.reads.Listed.{states_in}
use Rattle.jh_definitions.specs.dependency_order.Defining.{numbers_of}
use Rattle.jh_definitions.proofs.dependency_order.rows.numbers_of.Given as goal

abbrev pub invariant-loop-read : goal.invariant-loop-read
invariant-loop-read l = l.made.items ++ numbers_of l.numbers (states_in (drop l.read-index l.reads)) ≡ numbers_of l.numbers (states_in l.reads)
