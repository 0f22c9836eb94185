use Rattle.std.proofs.Common.{◌≡◌, drop}
use Rattle.jh_boxed_calls.specs.interpretations.Interps.{first_of}
use Rattle.jh_boxed_calls.proofs.interpretations.interp.first_of.Given as goal

abbrev pub invariant-loop-entry : goal.invariant-loop-entry
invariant-loop-entry g l = first_of l.default l.entries l.name ≡ first_of l.default (drop l.entry-index l.entries) l.name
