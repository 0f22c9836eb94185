use Rattle.std.proofs.Common.{◌≡◌, drop}
use Rattle.jh_files.specs.Held.{found}
use Rattle.jh_files.proofs.held.find.Given as goal

-- none of the entries so far has the name
abbrev pub invariant-loop-entry : goal.invariant-loop-entry
invariant-loop-entry l = found (drop l.entry-index l.held) l.name ≡ found l.held l.name
