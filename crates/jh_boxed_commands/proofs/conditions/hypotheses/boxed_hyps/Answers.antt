use Rattle.std.proofs.Common.{ap, map}
use Rattle.jh_seq.specs.sequent.Sequents.{hyp_tree}
use Rattle.jh_splitting.specs.Standing.{IsHyp}
use Rattle.jh_boxed_commands.proofs.conditions.SequentSteps.{boxed-next, boxed-all, paired-at}
use Rattle.jh_boxed_commands.proofs.conditions.hypotheses.boxed_hyps.Goals as goal

pub loop-place-init : goal.loop-place-init
loop-place-init c = λ hs h. ap (map hyp_tree) c.new-made.ensures.items

pub boxed_hyp-requires : goal.boxed_hyp-requires
boxed_hyp-requires c =
    let p = paired-at (IsHyp c.args.table.now) c.args.hyps.now c.requires.0 c.loop-place.place c.hyp_at-hyp.result c.requires.1 c.hyp_at-hyp.ensures in
    (p.0, p.2)

pub loop-place-preserved : goal.loop-place-preserved
loop-place-preserved c = λ hs h.
    boxed-next (IsHyp c.args.table.now) hyp_tree c.args.hyps.now hs c.loop-place.place c.hyp_at-hyp.result c.loop-place.made.items c.push.new.self.items c.in_ok-one.one c.loop-place.invariant c.hyp_at-hyp.ensures c.in_ok-one.ensures c.in_ok-push.ensures.items h

pub returns : goal.returns
returns c = λ hs h. boxed-all (IsHyp c.args.table.now) hyp_tree c.args.hyps.now hs c.loop-place.place c.loop-place.made.items c.loop-place.invariant c.loop-place-test.false h
