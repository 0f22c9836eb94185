use Rattle.std.proofs.Common.{◌≡◌, true, slice_get}
use Rattle.jh_arena.specs.table.Entries.{is_field, the_field}
use Rattle.jh_arena.specs.table.Nodes.{nodes}
use Rattle.jh_fca.specs.local_form.Named.{text_under}
use Rattle.jh_local_form.proofs.updates.naming.name_under.Given as goal

-- a field under the first one, with the same name under it
abbrev pub invariant-loop-inner : goal.invariant-loop-inner
invariant-loop-inner l = record {
  is : is_field (slice_get (nodes l.table) l.under) ≡ true;
  text : text_under (the_field (slice_get (nodes l.table) l.field)) ≡ text_under (the_field (slice_get (nodes l.table) l.under));
}

abbrev pub decreases-loop-inner : goal.decreases-loop-inner
decreases-loop-inner l = l.under
