use Rattle.std.proofs.Common.{ap, ◌∙◌, length}
use Rattle.jh_arena.proofs.table.Putting.{put-is}
use Rattle.jh_arena.proofs.table.listing.Arena.with_parts.Goals as goal

pub returns-clause-put : goal.returns-clause-put
returns-clause-put c =
    put-is c.args.given.now c.args.self.now.pools.lists c.new_list.new.self.pools.lists c.args.shape c.put.result c.in_ok-list.list c.count.result
    (c.count.ensures ∙ ap length c.own.ensures) c.requires.counted c.put.ensures (λ h. c.in_ok-list.ensures.listed h)
