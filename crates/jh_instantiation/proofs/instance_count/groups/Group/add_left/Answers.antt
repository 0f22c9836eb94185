use Rattle.jh_arena.specs.table.Nodes.{nodes}
use Rattle.jh_inst.specs.instances.Count as spec
use Rattle.jh_instantiation.proofs.skolem_constants.Shapes.{formula-there}
use Rattle.jh_instantiation.proofs.instance_count.Tallying.{groups-grow}
use Rattle.jh_instantiation.proofs.instance_count.groups.Group.add_left.Goals as goal

pub left_by-requires : goal.left_by-requires
left_by-requires c = record { there = formula-there (nodes c.args.table.now) c.args.self.node c.requires.there.0.formula c.requires.there.1.formula }

pub add_group-requires : goal.add_group-requires
add_group-requires c =
    let g = c.requires.there.0 in
    let h = c.requires.there.1 in
    record { there = formula-there (nodes c.left_by.new.table) c.in_ok-left.left (spec.left_by g.formula) (c.in_ok-left.ensures.node g.formula h.formula h.variables) }

pub returns-clause-left : goal.returns-clause-left
returns-clause-left c = λ gs g n hs h e.
    c.add_group.ensures gs (spec.left_by g.formula) (spec.group_puts n g) (groups-grow c.args.table.now c.left_by.new.table c.left_by.ensures.grows c.args.groups.now.items gs hs)
    (c.in_ok-left.ensures.node g.formula h.formula h.variables) (c.puts-many.ensures c.args.table.now g n h e)
