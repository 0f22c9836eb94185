use Rattle.std.proofs.Common.{◌≡◌, [], slice_get, length}
use Rattle.jh_form.specs.Meaning.{set_value}
use Rattle.jh_arena.specs.table.Entries.{the_set}
use Rattle.jh_arena.specs.table.Nodes.{nodes}
use Rattle.jh_store.specs.state_pairs.Seen.{seen}
use Rattle.jh_machine.specs.ghosts.Nodes.{Lists}
use Rattle.jh_machine.proofs.ghosts.ghosts.node_set.Given as goal

-- the objects so far are listed
abbrev pub invariant-loop-object : goal.invariant-loop-object
invariant-loop-object l = record {
  sized : length l.members.items ≡ l.object;
  lists : Lists l.members.items (set_value (the_set (slice_get (nodes l.moment.table.now) l.node)) (seen l.moment) []);
}
