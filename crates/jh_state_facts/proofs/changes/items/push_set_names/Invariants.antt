use Rattle.std.proofs.Common.{◌≡◌, ◌++◌, map, drop}
use Rattle.jh_state_facts.specs.changes.Added.{sorted_in, set_sorted}
use Rattle.jh_state_facts.proofs.changes.items.push_set_names.Given as goal

abbrev pub invariant-loop-class : goal.invariant-loop-class
invariant-loop-class l = sorted_in l.names.items ++ map set_sorted (drop l.class-index l.classes) ≡ sorted_in l.initial.names.items ++ map set_sorted l.classes
