use Rattle.std.proofs.Common.{◌≡◌, [], drop}
use Rattle.jh_boxed_calls.specs.interpretations.Interps.{first_of, numbers_of}
use Rattle.jh_boxed_calls.proofs.interpretations.interp.first_numbers.Given as goal

-- the first entry is among those that are left
abbrev pub invariant-loop-entry : goal.invariant-loop-entry
invariant-loop-entry l = first_of [] (numbers_of l.entries) l.name ≡ first_of [] (numbers_of (drop l.entry-index l.entries)) l.name
