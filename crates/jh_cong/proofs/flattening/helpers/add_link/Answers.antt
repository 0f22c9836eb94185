use Rattle.std.proofs.Common.{◌<◌, arith}
use Rattle.jh_cong.proofs.flattening.helpers.add_link.Goals as goal

pub add-requires : goal.add-requires
add-requires c = let l : c.args.field < c.args.count = c.requires.field in (omega (arith, l), c.requires.rest)
