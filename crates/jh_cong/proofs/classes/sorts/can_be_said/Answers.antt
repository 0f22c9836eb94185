use Rattle.std.proofs.Common.{◌≡◌, ◌<◌, sym, ap, ◌∙◌, length, rules}
use Rattle.jh_arena.specs.table.Nodes.{nodes}
use Rattle.jh_cong.specs.classes.Equatable.{equatable}
use Rattle.jh_cong.specs.classes.Saying.{tree_at}
use Rattle.jh_cong.proofs.classes.Sorting.{equatable-sorts, sorts-equatable}
use Rattle.jh_cong.proofs.classes.sorts.can_be_said.Goals as goal

pub returns : goal.returns
returns c =
    let ts = nodes c.args.table.now in
    let one : c.are_equatable.result ≡ equatable c.sort.result c.sort-2.result = c.are_equatable.ensures in
    let all = one ∙ (λ i. equatable (c.sort.ensures i) (c.sort-2.ensures i)) in
    let l : c.args.left < length ts = search rules in
    let r : c.args.right < length ts = search rules in (
      (λ is. record { left = l; right = r; sorts = sorts-equatable (tree_at ts c.args.left) (tree_at ts c.args.right) (sym all ∙ is) }),
      (λ can. all ∙ equatable-sorts (tree_at ts c.args.left) (tree_at ts c.args.right) can.sorts),
    )
