use Rattle.std.proofs.Common.{◌≡◌, drop}
use Rattle.jh_arena.specs.table.Nodes.{nodes}
use Rattle.jh_local_form.specs.field_lists.Testing.{all_apart}
use Rattle.jh_local_form.proofs.field_lists.testing.all_differ.Given as goal

-- the fields so far are names, and none is another one
abbrev pub invariant-loop-place : goal.invariant-loop-place
invariant-loop-place l = all_apart (nodes l.table) (drop l.place l.fields) ≡ all_apart (nodes l.table) l.fields
