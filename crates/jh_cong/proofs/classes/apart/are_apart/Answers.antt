use Rattle.std.proofs.Common.{◌≡◌, rules}
use Rattle.jh_arena.specs.table.Nodes.{nodes}
use Rattle.jh_cong.proofs.classes.Aparting.{nodes-apart, sorts-apart}
use Rattle.jh_cong.proofs.classes.apart.are_apart.Goals as goal

pub returns : goal.returns
returns c =
    let ts = nodes c.args.table.now in
    let other : c.args.left ≡ c.args.right → ⊥ = search rules in (
      (λ is. nodes-apart ts c.args.left c.args.right c.nodes_differ.ensures.different c.requires.left c.requires.right other c.requires.left_constant c.requires.right_constant (c.are_alike.ensures.0 is)),
      (λ apart. c.are_alike.ensures.1 (sorts-apart ts c.args.left c.args.right apart)),
    )
