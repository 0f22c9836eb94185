use Rattle.std.proofs.Common.{◌<◌, sym, subst, ◌∙◌, inl, inr, length, arith}
use Rattle.std.proofs.lemmas.Option.{slice_get_within}
use Rattle.jh_closure.specs.congruence_closure.Nodes.{EachPart, Has}
use Rattle.jh_closure.specs.congruence_closure.Uses.{row}
use Rattle.jh_closure.proofs.congruence_closure.Rows.{more-places}
use Rattle.jh_closure.proofs.congruence_closure.Signing.{each-weaker}
use Rattle.jh_closure.proofs.congruence_closure.beginning.first_uses.Goals as goal

pub add_uses-requires : goal.add_uses-requires
add_uses-requires c = subst (λ m. EachPart (λ p. p < m) c.node_at.result) (sym c.loop-number.invariant.count) (c.requires.inside c.loop-number.number c.node_at.result c.node_at.ensures)

pub loop-number-preserved : goal.loop-number-preserved
loop-number-preserved c =
    let new = c.add_uses.new.uses.items in
    record {
      covers = more-places (λ k x. EachPart (λ p. Has (row new p) k) x) c.args.nodes.now c.loop-number.number c.node_at.result c.node_at.ensures c.in_ok-add_uses.ensures.covers
          (λ k x l e. each-weaker (λ p. Has (row c.loop-number.uses.items p) k) (λ p. Has (row new p) k) (λ p h. c.in_ok-add_uses.ensures.keeps p k h) x (c.loop-number.invariant.covers k x l e));
      inside = λ p k h. elim (c.in_ok-add_uses.ensures.only p k h) [ inl old ↦ c.loop-number.invariant.inside p k old | inr same ↦ subst (λ z. z < length c.args.nodes.now) (sym same) (slice_get_within c.args.nodes.now c.loop-number.number c.node_at.result c.node_at.ensures) ];
      count = c.in_ok-add_uses.ensures.count ∙ c.loop-number.invariant.count;
    }

pub returns-clause-covers : goal.returns-clause-covers
returns-clause-covers c k x e = c.loop-number.invariant.covers k x (let l : k < length c.args.nodes.now = slice_get_within c.args.nodes.now k x e in omega (arith, l, c.loop-number)) e
