use Rattle.std.proofs.Common.{◌≡◌, ◌++◌, drop}
use Rattle.jh_method_commands.specs.environment.Outlines.{standing}
use Rattle.jh_method_commands.proofs.environment.choosing.names_at.Given as goal

-- the names so far, with those at the places that are left, are those at all
abbrev pub invariant-loop-place : goal.invariant-loop-place
invariant-loop-place l = l.made.items ++ standing l.names (drop l.place-index l.places) ≡ standing l.names l.places
