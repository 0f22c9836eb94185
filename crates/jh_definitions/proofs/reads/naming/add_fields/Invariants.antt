use Rattle.std.proofs.Common.{◌≡◌, ◌++◌, drop}
use Rattle.jh_symbols.specs.scopes.Lookings.{declared_by}
use Rattle.jh_vars.specs.Reading as reading
use Rattle.jh_definitions.specs.reads.Listed.{states_in}
use Rattle.jh_definitions.proofs.reads.naming.add_fields.Given as goal

abbrev pub invariant-loop-word : goal.invariant-loop-word
invariant-loop-word l =
    states_in l.made.items ++ reading.fields_read (declared_by l.at.lookups.now) l.at.class (drop l.word-index l.words)
    ≡ states_in l.fn.made.items ++ reading.fields_read (declared_by l.at.lookups.now) l.at.class l.words
