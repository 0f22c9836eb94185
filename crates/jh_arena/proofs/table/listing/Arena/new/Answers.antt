use Rattle.jh_arena.proofs.table.Tables.{empty-table, empty-nodes}
use Rattle.jh_arena.proofs.table.listing.Arena.new.Goals as goal

pub invariant_of-result : goal.invariant_of-result
invariant_of-result c = empty-table (record { names = c.new.result.keys; marks = c.new-2.result.keys; lists = c.new-3.result.keys }) (c.new-4.result.entries) c.new-4.ensures.empty

pub returns : goal.returns
returns c = empty-nodes (record { names = c.new.result.keys; marks = c.new-2.result.keys; lists = c.new-3.result.keys }) (c.new-4.result.entries) c.new-4.ensures.empty
