use Rattle.std.proofs.Common.{sym, ap, subst, ◌∙◌, ◌+◌, List, [], ◌∷◌, length}
use Rattle.jh_closure.specs.declared.congruence_closure.node.Node.{Node}
use Rattle.jh_arena.specs.table.Nodes.{nodes}
use Rattle.jh_cong.specs.flattening.Plain.{AreMade, IsMade, AddsHelpers}
use Rattle.jh_cong.proofs.flattening.Gathering.{long-joined, made-one, made-start}
use Rattle.jh_cong.proofs.flattening.flattening.fill.Goals as goal

pub loop-number-init : goal.loop-number-init
loop-number-init c = record {
  made = made-start c.args.table.now c.args.made.now.items c.args.helpers.now.items c.requires.made;
  count = c.requires.made;
  behind = c.requires.behind;
}

pub loop-number-preserved : goal.loop-number-preserved
loop-number-preserved c =
    let t = c.args.table.now in
    let made = c.loop-number.made.items in
    let old = c.loop-number.helpers.items in
    let new = c.plain_of.new.helpers.items in
    let adds : AddsHelpers (length (nodes t)) old new = c.in_ok-node.ensures.adds in
    let node = c.in_ok-node.node in
    let one : IsMade t made new (length made) node =
    subst (λ (xs : List Node). IsMade t xs new (length made) node) c.as_slice.ensures.value (subst (λ k. IsMade t c.as_slice.result.now new k node) (sym c.loop-number.invariant.count) c.in_ok-node.ensures.made) in
    record {
      made = subst (λ (xs : List Node). AreMade t xs new) (sym c.in_ok-push.ensures.items) (made-one t made node old new adds c.loop-number.invariant.made one);
      count = ap (λ (xs : List Node). length xs) c.in_ok-push.ensures.items ∙ (long-joined made (node ∷ []) ∙ ap (λ k. k + 1) c.loop-number.invariant.count);
      behind = adds.behind c.loop-number.invariant.behind;
    }

pub plain_of-requires-clause-made : goal.plain_of-requires-clause-made
plain_of-requires-clause-made c = ap (λ (xs : List Node). length xs) c.as_slice.ensures.value ∙ c.loop-number.invariant.count
