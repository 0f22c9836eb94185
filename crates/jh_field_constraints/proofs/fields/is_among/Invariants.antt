use Rattle.std.proofs.Common.{◌≡◌, drop}
use Rattle.jh_arena.specs.table.Entries.{fields_at}
use Rattle.jh_arena.specs.table.Nodes.{nodes}
use Rattle.jh_field_constraints.specs.Reading.{is_among}
use Rattle.jh_field_constraints.proofs.fields.is_among.Given as goal

-- none of the fields so far is it
abbrev pub invariant-loop-place : goal.invariant-loop-place
invariant-loop-place l = is_among l.name (fields_at (nodes l.table) (drop l.place l.fields)) ≡ is_among l.name (fields_at (nodes l.table) l.fields)
