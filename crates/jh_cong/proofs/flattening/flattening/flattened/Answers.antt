use Rattle.std.proofs.Common.{sym, ap, subst, ◌∙◌, List, ◌++◌, length}
use Rattle.jh_closure.specs.declared.congruence_closure.node.Node.{Node}
use Rattle.jh_arena.specs.table.Nodes.{nodes}
use Rattle.jh_cong.specs.flattening.Flattening.{Flattens}
use Rattle.jh_cong.proofs.flattening.Gathering.{behind-start, flattens}
use Rattle.jh_cong.proofs.flattening.flattening.flattened.Goals as goal

pub fill-requires-clause-behind : goal.fill-requires-clause-behind
fill-requires-clause-behind c = behind-start (length (nodes c.args.table.now)) c.new-helpers.result.items c.new-helpers.ensures.items

pub fill-requires-clause-made : goal.fill-requires-clause-made
fill-requires-clause-made c = ap (λ (xs : List Node). length xs) c.new-made.ensures.items

pub returns : goal.returns
returns c =
    let t = c.args.table.now in
    let made = c.fill.new.made.items in
    let helpers = c.fill.new.helpers.items in
    subst (λ (xs : List Node). Flattens (nodes t) xs) (sym (c.in_ok-extend_from_slice.ensures.items ∙ ap (λ (xs : List Node). made ++ xs) c.as_slice.ensures.value))
    (flattens t made helpers c.in_ok-fill.ensures.count c.in_ok-fill.ensures.behind c.in_ok-fill.ensures.made c.nodes_differ.ensures.different)
