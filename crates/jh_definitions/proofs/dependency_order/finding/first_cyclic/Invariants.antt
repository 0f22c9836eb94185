use Rattle.jh_definitions.specs.dependency_order.Defining.{ReadsItself}
use Rattle.jh_definitions.proofs.dependency_order.Firsts.{Searched}
use Rattle.jh_definitions.proofs.dependency_order.finding.first_cyclic.Given as goal

abbrev pub invariant-loop-class : goal.invariant-loop-class
invariant-loop-class l = Searched (ReadsItself l.search.numbers.now l.search.rows.now) l.classes l.class
