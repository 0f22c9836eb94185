use Rattle.jh_definitions.specs.dependency_order.Defining.{ReadsItself}
use Rattle.jh_definitions.proofs.dependency_order.Firsts.{NoneBelow}
use Rattle.jh_definitions.proofs.dependency_order.finding.first_in_class.Given as goal

abbrev pub invariant-loop-at : goal.invariant-loop-at
invariant-loop-at l = NoneBelow (ReadsItself l.search.numbers.now l.search.rows.now) l.class l.vars l.at
