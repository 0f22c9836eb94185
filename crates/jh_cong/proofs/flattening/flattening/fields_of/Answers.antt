use Rattle.jh_arena.proofs.table.Lists.{list-inside, list-parts, list-none}
use Rattle.jh_cong.proofs.flattening.flattening.fields_of.Goals as goal

pub list_at-requires : goal.list_at-requires
list_at-requires c = list-inside c.args.table.now c.args.shape c.in-Some.list c.requires c.in-Some.ensures

pub returns-in-Some : goal.returns-in-Some
returns-in-Some c = list-parts c.args.table.now.pools.lists c.args.shape c.in-Some.list c.list_at.result.now c.in-Some.ensures c.list_at.ensures

pub returns-in-None : goal.returns-in-None
returns-in-None c = list-none c.args.table.now.pools.lists c.args.shape c.in-None.ensures
