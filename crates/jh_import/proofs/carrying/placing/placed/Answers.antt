use Rattle.std.proofs.Common.{ap, ◌∙◌, ◌-◌, length, take}
use Rattle.jh_import.proofs.carrying.Splits.{put-counts, placed-is}
use Rattle.jh_import.proofs.carrying.placing.placed.Goals as goal

pub put-requires : goal.put-requires
put-requires c =
    put-counts c.args.given.now c.args.from.now.pools c.renamed.new.into.pools c.args.shape c.in_ok-named.named c.count.result (c.count.ensures ∙ ap length c.own.ensures) c.requires.counted c.in_ok-named.ensures.renamed

pub returns-clause-placed : goal.returns-clause-placed
returns-clause-placed c =
    placed-is c.args.given.now c.args.from.now.pools c.renamed.new.into.pools c.args.shape c.in_ok-named.named c.count.result (c.count.ensures ∙ ap length c.own.ensures) c.requires.counted c.in_ok-named.ensures.renamed
    c.put.result c.in_ok-list.list c.put.ensures
    (λ h. c.in_ok-named.ensures.grows.lists.keeps c.in_ok-list.list (take (length c.args.given.now - c.count.result) c.args.given.now) (c.in_ok-list.ensures.listed h))
