use Rattle.std.proofs.Common.{◌≡◌, ◌++◌, map, drop}
use Rattle.jh_state_facts.specs.changes.Added.{sorted_in, member_sorted}
use Rattle.jh_state_facts.proofs.changes.items.push_member_names.Given as goal

abbrev pub invariant-loop-member : goal.invariant-loop-member
invariant-loop-member l = sorted_in l.names.items ++ map member_sorted (drop l.member-index l.members) ≡ sorted_in l.initial.names.items ++ map member_sorted l.members
