use Rattle.std.proofs.Common.{ap, sym, ◌∙◌, slice_get}
use Rattle.std.specs.HashMap.{keys, values}
use Rattle.jh_arena.proofs.table.Listed.{grows-refl}
use Rattle.jh_arena.proofs.table.Tables.{grows-insert, pooled-table, pooled-nodes, pooled-extends}
use Rattle.jh_boxed.specs.jh_name.contracts.naming.NamePartialEq.TheImpl as name
use Rattle.jh_arena.proofs.table.Keys.{name_eq-true, name_eq-same, position-found}
use Rattle.jh_arena.proofs.table.listing.Arena.name.Goals as goal

pub invariant_of-self-in-None : goal.invariant_of-self-in-None
invariant_of-self-in-None c = pooled-table (record { names = c.self.inside.names.keys; marks = c.self.inside.marks.keys; lists = c.self.inside.lists.keys }) (record { names = c.insert_full.new.self.keys; marks = c.self.inside.marks.keys; lists = c.self.inside.lists.keys }) (keys c.self.inside.nodes) (values c.self.inside.nodes) c.args.self.now c.self.view_is c.self.invariant (record { names = grows-insert name.ghosts.eq c.self.inside.names.keys c.insert_full.new.self.keys c.in_ok-copied-in-None.copied c.in_ok-number-in-None.ensures.keys; marks = grows-refl c.self.inside.marks.keys; lists = grows-refl c.self.inside.lists.keys })

pub returns-in-Some-clause-number : goal.returns-in-Some-clause-number
returns-in-Some-clause-number c = ap (λ t. slice_get t.pools.names c.in-Some.number) (sym c.self.view_is) ∙ position-found name.ghosts.eq name_eq-true name_eq-same c.self.inside.names.keys c.in-Some.number c.args.name.now c.in-Some.ensures.index

pub returns-in_ok-number-in-None-clause-grows : goal.returns-in_ok-number-in-None-clause-grows
returns-in_ok-number-in-None-clause-grows c = pooled-extends (record { names = c.self.inside.names.keys; marks = c.self.inside.marks.keys; lists = c.self.inside.lists.keys }) (record { names = c.insert_full.new.self.keys; marks = c.self.inside.marks.keys; lists = c.self.inside.lists.keys }) (keys c.self.inside.nodes) (values c.self.inside.nodes) c.args.self.now c.self.view_is c.self.invariant (record { names = grows-insert name.ghosts.eq c.self.inside.names.keys c.insert_full.new.self.keys c.in_ok-copied-in-None.copied c.in_ok-number-in-None.ensures.keys; marks = grows-refl c.self.inside.marks.keys; lists = grows-refl c.self.inside.lists.keys })

pub returns-in_ok-number-in-None-clause-nodes : goal.returns-in_ok-number-in-None-clause-nodes
returns-in_ok-number-in-None-clause-nodes c = pooled-nodes (record { names = c.self.inside.names.keys; marks = c.self.inside.marks.keys; lists = c.self.inside.lists.keys }) (record { names = c.insert_full.new.self.keys; marks = c.self.inside.marks.keys; lists = c.self.inside.lists.keys }) (keys c.self.inside.nodes) (values c.self.inside.nodes) c.args.self.now c.self.view_is c.self.invariant (record { names = grows-insert name.ghosts.eq c.self.inside.names.keys c.insert_full.new.self.keys c.in_ok-copied-in-None.copied c.in_ok-number-in-None.ensures.keys; marks = grows-refl c.self.inside.marks.keys; lists = grows-refl c.self.inside.lists.keys })
