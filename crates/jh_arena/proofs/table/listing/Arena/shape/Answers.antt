use Rattle.std.proofs.Common.{ap, sym, ◌∙◌, slice_get}
use Rattle.std.specs.HashMap.{keys, values}
use Rattle.jh_arena.proofs.table.Tables.{seen, key-at, node-tree, node-fits, node-below}
use Rattle.jh_arena.proofs.table.listing.Arena.shape.Goals as goal

pub returns-in-Some-clause-tree : goal.returns-in-Some-clause-tree
returns-in-Some-clause-tree c = node-tree c.args.self.now (values c.self.inside.nodes) (seen (record { names = c.self.inside.names.keys; marks = c.self.inside.marks.keys; lists = c.self.inside.lists.keys }) (keys c.self.inside.nodes) (values c.self.inside.nodes) c.args.self.now c.self.view_is c.self.invariant) c.args.node c.in-Some.shape.now (ap (λ t. slice_get t.shapes c.args.node) (sym c.self.view_is) ∙ key-at c.self.inside.nodes.entries c.args.node c.in-Some.shape.now c.in-Some.field-0-1.now c.in-Some.ensures.entry)

pub returns-in-Some-clause-fits : goal.returns-in-Some-clause-fits
returns-in-Some-clause-fits c = node-fits c.args.self.now (values c.self.inside.nodes) (seen (record { names = c.self.inside.names.keys; marks = c.self.inside.marks.keys; lists = c.self.inside.lists.keys }) (keys c.self.inside.nodes) (values c.self.inside.nodes) c.args.self.now c.self.view_is c.self.invariant) c.args.node c.in-Some.shape.now (ap (λ t. slice_get t.shapes c.args.node) (sym c.self.view_is) ∙ key-at c.self.inside.nodes.entries c.args.node c.in-Some.shape.now c.in-Some.field-0-1.now c.in-Some.ensures.entry)

pub returns-in-Some-clause-below : goal.returns-in-Some-clause-below
returns-in-Some-clause-below c = node-below c.args.self.now (values c.self.inside.nodes) (seen (record { names = c.self.inside.names.keys; marks = c.self.inside.marks.keys; lists = c.self.inside.lists.keys }) (keys c.self.inside.nodes) (values c.self.inside.nodes) c.args.self.now c.self.view_is c.self.invariant) c.args.node c.in-Some.shape.now (ap (λ t. slice_get t.shapes c.args.node) (sym c.self.view_is) ∙ key-at c.self.inside.nodes.entries c.args.node c.in-Some.shape.now c.in-Some.field-0-1.now c.in-Some.ensures.entry)
