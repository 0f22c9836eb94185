use Rattle.std.proofs.Common.{◌≡◌, true}
use Rattle.jh_form.specs.Meaning.{all_below}
use Rattle.jh_sem.specs.Graphs.{listed_fields}
use Rattle.jh_sem.proofs.Forests.{is_off}
use Rattle.jh_sem.proofs.forest.has_no_cycle.Given as goal

abbrev pub invariant-loop-at : goal.invariant-loop-at
invariant-loop-at l = all_below l.at (is_off l.last (listed_fields l.fields)) ≡ true
