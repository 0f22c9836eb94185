use Rattle.std.proofs.Common.{◌≡◌, ◌++◌, drop, map, filter}
use Rattle.jh_state_facts.specs.well_formedness.States.{members_in}
use Rattle.jh_heap.specs.text.Held.{holders_in}
use Rattle.jh_heap.specs.text.Outlines.{member_holder}
use Rattle.jh_heap_layout.specs.layout.Chosen.{is_chosen}
use Rattle.jh_heap_layout.proofs.layout.members.holders.Given as goal

abbrev pub invariant-loop-member : goal.invariant-loop-member
invariant-loop-member l =
    holders_in l.made.items ++ map member_holder (filter (is_chosen l.fn.statics) (members_in l.fn.classes (drop l.member-index l.fn.members))) ≡ map member_holder (filter (is_chosen l.fn.statics) (members_in l.fn.classes l.fn.members))
