use Rattle.std.proofs.Common.{◌≡◌, [], drop}
use Rattle.jh_boxed_calls.specs.interpretations.Interps.{first_of}
use Rattle.jh_boxed_calls.proofs.interpretations.interp.first_members.Given as goal

abbrev pub invariant-loop-entry : goal.invariant-loop-entry
invariant-loop-entry l = first_of [] l.entries l.name ≡ first_of [] (drop l.entry-index l.entries) l.name
