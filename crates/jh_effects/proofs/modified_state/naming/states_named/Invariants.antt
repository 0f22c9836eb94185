use Rattle.std.proofs.Common.{◌≡◌, ◌++◌, drop}
use Rattle.jh_symbols.specs.scopes.Lookings.{declared_by}
use Rattle.jh_definitions.specs.reads.Listed.{states_in}
use Rattle.jh_vars.specs.Reading.{fields_read}
use Rattle.jh_effects.proofs.modified_state.naming.states_named.Given as goal

abbrev pub invariant-loop-word : goal.invariant-loop-word
invariant-loop-word l = states_in l.made.items ++ fields_read (declared_by l.lookups) l.class (drop l.word-index l.words) ≡ fields_read (declared_by l.lookups) l.class l.words
