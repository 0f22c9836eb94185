use Rattle.std.proofs.Common.{◌≡◌, ◌++◌, drop}
use Rattle.jh_boxed_calls.proofs.state_lists.Selecting.{names_of}
use Rattle.jh_boxed_calls.proofs.state_lists.naming.names_at.Given as goal

-- the names so far, with those at the places that are left, are those at all
abbrev pub invariant-loop-place : goal.invariant-loop-place
invariant-loop-place l = l.names.items ++ names_of l.states (drop l.place-index l.places) ≡ names_of l.states l.places
