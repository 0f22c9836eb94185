use Rattle.std.proofs.Common.{ap, sym, refl, ◌∙◌, Ok, slice_get}
use Rattle.std.specs.HashMap.{keys, values, get}
use Rattle.indexmap.proofs.CallerLemmas.{insert_entry-new}
use Rattle.jh_arena.specs.table.Nodes.{tree_in}
use Rattle.jh_arena.specs.contracts.table.shapes.ShapePartialEq.TheImpl as shape
use Rattle.jh_arena.proofs.table.Keys.{position-found, position-none, stands-not}
use Rattle.jh_arena.proofs.table.ShapeEq.{shape_eq-true, shape_eq-same}
use Rattle.jh_arena.proofs.table.Tables.{seen, node-tree, none-found, made-table, made-extends, made-tree, made-only, made-one}
use Rattle.jh_arena.proofs.table.listing.Arena.make.Goals as goal

pub returns-in_err-node-in-None-clause-kept : goal.returns-in_err-node-in-None-clause-kept
returns-in_err-node-in-None-clause-kept c = λ node h. absurd (stands-not shape.ghosts.eq shape_eq-true shape_eq-same (keys c.self.inside.nodes) node c.args.shape c.in-None.ensures.index (ap (λ t. slice_get t.shapes node) c.self.view_is ∙ c.nodes_differ.ensures.known node c.args.shape c.requires h))

pub invariant_of-self-in-None : goal.invariant_of-self-in-None
invariant_of-self-in-None c = made-table (record { names = c.self.inside.names.keys; marks = c.self.inside.marks.keys; lists = c.self.inside.lists.keys }) c.self.inside.nodes.entries c.insert_full.new.self.entries c.args.self.now c.self.view_is c.self.invariant c.args.shape c.measured-extent.result (c.in_ok-node-in-None.ensures.entries ∙ insert_entry-new shape.ghosts.eq c.self.inside.nodes c.args.shape c.measured-extent.result (none-found (get shape.ghosts.eq c.self.inside.nodes c.args.shape) c.in-None.ensures.found)) c.requires c.measured-extent.ensures

pub returns-in-Some-clause-node : goal.returns-in-Some-clause-node
returns-in-Some-clause-node c = node-tree c.args.self.now (values c.self.inside.nodes) (seen (record { names = c.self.inside.names.keys; marks = c.self.inside.marks.keys; lists = c.self.inside.lists.keys }) (keys c.self.inside.nodes) (values c.self.inside.nodes) c.args.self.now c.self.view_is c.self.invariant) c.in-Some.node c.args.shape (ap (λ t. slice_get t.shapes c.in-Some.node) (sym c.self.view_is) ∙ position-found shape.ghosts.eq shape_eq-true shape_eq-same (keys c.self.inside.nodes) c.in-Some.node c.args.shape c.in-Some.ensures.index)

pub returns-in-Some-clause-kept : goal.returns-in-Some-clause-kept
returns-in-Some-clause-kept c = λ node h. (refl, ap (λ n. Ok n) (c.nodes_differ.ensures.different c.in-Some.node node (tree_in c.args.self.now c.args.shape) (node-tree c.args.self.now (values c.self.inside.nodes) (seen (record { names = c.self.inside.names.keys; marks = c.self.inside.marks.keys; lists = c.self.inside.lists.keys }) (keys c.self.inside.nodes) (values c.self.inside.nodes) c.args.self.now c.self.view_is c.self.invariant) c.in-Some.node c.args.shape (ap (λ t. slice_get t.shapes c.in-Some.node) (sym c.self.view_is) ∙ position-found shape.ghosts.eq shape_eq-true shape_eq-same (keys c.self.inside.nodes) c.in-Some.node c.args.shape c.in-Some.ensures.index)) h))

pub returns-in_ok-node-in-None-clause-node : goal.returns-in_ok-node-in-None-clause-node
returns-in_ok-node-in-None-clause-node c = made-tree (record { names = c.self.inside.names.keys; marks = c.self.inside.marks.keys; lists = c.self.inside.lists.keys }) c.self.inside.nodes.entries c.insert_full.new.self.entries c.args.self.now c.self.view_is c.self.invariant c.args.shape c.measured-extent.result (c.in_ok-node-in-None.ensures.entries ∙ insert_entry-new shape.ghosts.eq c.self.inside.nodes c.args.shape c.measured-extent.result (none-found (get shape.ghosts.eq c.self.inside.nodes c.args.shape) c.in-None.ensures.found)) c.requires c.in_ok-node-in-None.node (c.in_ok-node-in-None.ensures.index ∙ position-none shape.ghosts.eq shape_eq-true shape_eq-same (keys c.self.inside.nodes) c.args.shape c.in-None.ensures.index)

pub returns-in_ok-node-in-None-clause-grows : goal.returns-in_ok-node-in-None-clause-grows
returns-in_ok-node-in-None-clause-grows c = made-extends (record { names = c.self.inside.names.keys; marks = c.self.inside.marks.keys; lists = c.self.inside.lists.keys }) c.self.inside.nodes.entries c.insert_full.new.self.entries c.args.self.now c.self.view_is c.self.invariant c.args.shape c.measured-extent.result (c.in_ok-node-in-None.ensures.entries ∙ insert_entry-new shape.ghosts.eq c.self.inside.nodes c.args.shape c.measured-extent.result (none-found (get shape.ghosts.eq c.self.inside.nodes c.args.shape) c.in-None.ensures.found)) c.requires

pub returns-in_ok-node-in-None-clause-kept : goal.returns-in_ok-node-in-None-clause-kept
returns-in_ok-node-in-None-clause-kept c = λ node h. absurd (stands-not shape.ghosts.eq shape_eq-true shape_eq-same (keys c.self.inside.nodes) node c.args.shape c.in-None.ensures.index (ap (λ t. slice_get t.shapes node) c.self.view_is ∙ c.nodes_differ.ensures.known node c.args.shape c.requires h))

pub returns-in_ok-node-in-None-clause-only : goal.returns-in_ok-node-in-None-clause-only
returns-in_ok-node-in-None-clause-only c = made-only (record { names = c.self.inside.names.keys; marks = c.self.inside.marks.keys; lists = c.self.inside.lists.keys }) c.self.inside.nodes.entries c.insert_full.new.self.entries c.args.self.now c.self.view_is c.self.invariant c.args.shape c.measured-extent.result (c.in_ok-node-in-None.ensures.entries ∙ insert_entry-new shape.ghosts.eq c.self.inside.nodes c.args.shape c.measured-extent.result (none-found (get shape.ghosts.eq c.self.inside.nodes c.args.shape) c.in-None.ensures.found)) c.requires

pub returns-in_ok-node-in-None-clause-one : goal.returns-in_ok-node-in-None-clause-one
returns-in_ok-node-in-None-clause-one c = made-one (record { names = c.self.inside.names.keys; marks = c.self.inside.marks.keys; lists = c.self.inside.lists.keys }) c.self.inside.nodes.entries c.insert_full.new.self.entries c.args.self.now c.self.view_is c.self.invariant c.args.shape c.measured-extent.result (c.in_ok-node-in-None.ensures.entries ∙ insert_entry-new shape.ghosts.eq c.self.inside.nodes c.args.shape c.measured-extent.result (none-found (get shape.ghosts.eq c.self.inside.nodes c.args.shape) c.in-None.ensures.found)) c.requires
