use Rattle.std.proofs.Common.{◌≤◌, ◌+◌, sym, subst, List, take, length, arith, ℕ}
use Rattle.std.proofs.lemmas.List.{take_all}
use Rattle.jh_arena.specs.table.Nodes.{nodes}
use Rattle.jh_arena.proofs.table.Listed.{extends-trans}
use Rattle.jh_splitting.specs.declared.sequent.NodeHyp.{NodeHyp}
use Rattle.jh_prove.specs.prover.Unlabelled.{IsUnlabelled, AreUnlabelled}
use Rattle.jh_prove.proofs.prover.Pairing.{paired-next}
use Rattle.jh_prove.proofs.prover.Bareness.{still-truth, all-grow}
use Rattle.jh_prove.proofs.prover.unlabelling.facts_without_labels.Goals as goal

pub without_labels-requires-clause-node : goal.without_labels-requires-clause-node
without_labels-requires-clause-node c =
    still-truth (nodes c.args.table.now) (nodes c.loop-place.table) c.hyp_at-hyp.result.fact c.loop-place.invariant.grows.nodes
    (c.requires.hyps c.loop-place.place c.hyp_at-hyp.result c.hyp_at-hyp.ensures)

pub loop-place-preserved : goal.loop-place-preserved
loop-place-preserved c =
    let t1 = c.loop-place.table in
    let t2 = c.without_labels.new.table in
    let xs = c.args.hyps.now in
    record {
      facts = subst (λ (ns : List ℕ). AreUnlabelled (nodes t2) (take (c.loop-place.place + 1) xs) ns) (sym c.in_ok-push.ensures.items)
          (paired-next (λ (x : NodeHyp) n. IsUnlabelled (nodes t2) x.fact n) xs c.loop-place.facts.items c.loop-place.place c.hyp_at-hyp.result c.in_ok-fact.fact c.hyp_at-hyp.ensures
          (all-grow (nodes t1) (nodes t2) c.without_labels.ensures.grows.nodes (take c.loop-place.place xs) c.loop-place.facts.items c.loop-place.invariant.facts) c.in_ok-fact.ensures.node);
      memo = c.in_ok-fact.ensures.memo;
      grows = extends-trans c.args.table.now t1 t2 c.loop-place.invariant.grows c.without_labels.ensures.grows;
    }

pub returns-clause-facts : goal.returns-clause-facts
returns-clause-facts c =
    let xs = c.args.hyps.now in
    let far : length xs ≤ c.loop-place.place = search arith in
    subst (λ (ys : List NodeHyp). AreUnlabelled (nodes c.loop-place.table) ys c.loop-place.facts.items) (take_all c.loop-place.place xs far) c.loop-place.invariant.facts
