use Rattle.std.proofs.Common.{nat_eq}
use Rattle.std.specs.HashMap.{keys, values}
use Rattle.jh_arena.proofs.table.Listed.{grows-refl}
use Rattle.jh_arena.proofs.table.Tables.{grows-insert, pooled-table, pooled-nodes, pooled-extends}
use Rattle.std.specs.Cmp.Lexicographic.{pointwise}
use Rattle.jh_arena.proofs.table.listing.Arena.list.Goals as goal

pub invariant_of-self-2 : goal.invariant_of-self-2
invariant_of-self-2 c = pooled-table (record { names = c.self.inside.names.keys; marks = c.self.inside.marks.keys; lists = c.self.inside.lists.keys }) (record { names = c.self.inside.names.keys; marks = c.self.inside.marks.keys; lists = c.insert_full.new.self.keys }) (keys c.self.inside.nodes) (values c.self.inside.nodes) c.args.self.now c.self.view_is c.self.invariant (record { names = grows-refl c.self.inside.names.keys; marks = grows-refl c.self.inside.marks.keys; lists = grows-insert (pointwise nat_eq) c.self.inside.lists.keys c.insert_full.new.self.keys c.of.result c.in_ok-number.ensures.keys })

pub returns-clause-grows : goal.returns-clause-grows
returns-clause-grows c = pooled-extends (record { names = c.self.inside.names.keys; marks = c.self.inside.marks.keys; lists = c.self.inside.lists.keys }) (record { names = c.self.inside.names.keys; marks = c.self.inside.marks.keys; lists = c.insert_full.new.self.keys }) (keys c.self.inside.nodes) (values c.self.inside.nodes) c.args.self.now c.self.view_is c.self.invariant (record { names = grows-refl c.self.inside.names.keys; marks = grows-refl c.self.inside.marks.keys; lists = grows-insert (pointwise nat_eq) c.self.inside.lists.keys c.insert_full.new.self.keys c.of.result c.in_ok-number.ensures.keys })

pub returns-clause-nodes : goal.returns-clause-nodes
returns-clause-nodes c = pooled-nodes (record { names = c.self.inside.names.keys; marks = c.self.inside.marks.keys; lists = c.self.inside.lists.keys }) (record { names = c.self.inside.names.keys; marks = c.self.inside.marks.keys; lists = c.insert_full.new.self.keys }) (keys c.self.inside.nodes) (values c.self.inside.nodes) c.args.self.now c.self.view_is c.self.invariant (record { names = grows-refl c.self.inside.names.keys; marks = grows-refl c.self.inside.marks.keys; lists = grows-insert (pointwise nat_eq) c.self.inside.lists.keys c.insert_full.new.self.keys c.of.result c.in_ok-number.ensures.keys })
