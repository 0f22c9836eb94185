use Rattle.std.proofs.Common.{◌<◌, arith}
use Rattle.jh_cong.proofs.flattening.helpers.add_pair.Goals as goal

pub add-requires : goal.add-requires
add-requires c =
    let l : c.args.left < c.args.count = c.requires.left in
    let r : c.args.right < c.args.count = c.requires.right in
    (omega (arith, l), omega (arith, r))
