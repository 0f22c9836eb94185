use Rattle.jh_arena.specs.table.Nodes.{nodes}
use Rattle.jh_instantiation.proofs.skolem_constants.Shapes.{formula-at, formula-there}
use Rattle.jh_instantiation.proofs.instance_count.groups.left_by.Goals as goal

pub settle-requires : goal.settle-requires
settle-requires c = record { there = formula-there (nodes c.put_at_null.new.table) c.in_ok-put.put _ (c.in_ok-put.ensures.node _ (formula-at (nodes c.args.table.now) c.args.node c.requires.there)) }
