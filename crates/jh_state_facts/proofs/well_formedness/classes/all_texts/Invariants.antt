use Rattle.std.proofs.Common.{◌≡◌, ◌++◌, drop}
use Rattle.jh_state_facts.specs.well_formedness.States.{texts_in}
use Rattle.jh_state_facts.proofs.well_formedness.classes.all_texts.Given as goal

abbrev pub invariant-loop-class : goal.invariant-loop-class
invariant-loop-class l = texts_in l.made.items ++ drop l.class-index l.classes ≡ l.classes
