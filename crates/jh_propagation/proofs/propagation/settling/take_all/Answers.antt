use Rattle.std.proofs.Common.{refl, sym, subst, arith, List, take_all, inl, inr}
use Rattle.jh_closure.specs.congruence_closure.Nodes.{Has}
use Rattle.jh_closure.proofs.congruence_closure.Having.{has-at}
use Rattle.jh_arena.specs.table.Nodes.{nodes}
use Rattle.jh_models.specs.ground_models.Atoms.{atoms_of, StandsIn}
use Rattle.jh_propagation.specs.declared.trail.decided.Decided.{Decided}
use Rattle.jh_propagation.specs.trail.Listing.{decided}
use Rattle.jh_propagation.specs.trail.Saying.{truth_at}
use Rattle.jh_propagation.specs.propagation.Branches.{IsSaid}
use Rattle.jh_propagation.proofs.propagation.Forcing.{atom-noted, place-noted}
use Rattle.jh_propagation.proofs.propagation.Quieting.{forced-stands, forced-now, take-has, more-same, more-twice, has-more, waits-twice}
use Rattle.jh_propagation.proofs.propagation.settling.take_all.Goals as goal

pub loop-index-init : goal.loop-index-init
loop-index-init c = record {
  branch = c.requires.branch;
  more = more-same c.args.problem.now c.args.branch.now;
  said = λ d h. absurd h;
  waits = inl refl;
}

pub take_one-requires-clause-branch : goal.take_one-requires-clause-branch
take_one-requires-clause-branch c = c.loop-index.invariant.branch

pub take_one-requires-clause-atom : goal.take_one-requires-clause-atom
take_one-requires-clause-atom c =
    let l : Decided = c.literal_at.result in
    let ts = nodes c.args.problem.now.table in
    let stands : StandsIn (atoms_of (truth_at ts c.args.instance)) (truth_at ts l.atom) = forced-stands c.forced_stands.ensures ts c.args.branch.now.trail (truth_at ts c.args.instance) c.args.list.now l c.requires.forced (has-at c.args.list.now c.loop-index.index l c.literal_at.ensures) in
    atom-noted ts c.args.problem.now c.requires.branch.problem.posed c.nodes_differ.ensures.different c.args.place c.args.instance l.atom c.requires.here stands

pub take_one-requires-clause-occurs : goal.take_one-requires-clause-occurs
take_one-requires-clause-occurs c =
    let l : Decided = c.literal_at.result in
    let ts = nodes c.args.problem.now.table in
    let stands : StandsIn (atoms_of (truth_at ts c.args.instance)) (truth_at ts l.atom) = forced-stands c.forced_stands.ensures ts c.args.branch.now.trail (truth_at ts c.args.instance) c.args.list.now l c.requires.forced (has-at c.args.list.now c.loop-index.index l c.literal_at.ensures) in
    place-noted ts c.args.problem.now c.requires.branch.problem.posed c.nodes_differ.ensures.different c.args.place c.args.instance l.atom c.requires.here stands

pub take_one-requires-clause-forced : goal.take_one-requires-clause-forced
take_one-requires-clause-forced c =
    let l : Decided = c.literal_at.result in
    forced-now c.args.problem.now c.args.branch.now c.loop-index.branch c.loop-index.invariant.more c.args.place c.args.instance l c.requires.here (c.requires.forced.only l (has-at c.args.list.now c.loop-index.index l c.literal_at.ensures))

pub loop-index-preserved : goal.loop-index-preserved
loop-index-preserved c = record {
  branch = c.in_ok-take_one.ensures.branch;
  more = more-twice c.args.problem.now c.args.branch.now c.loop-index.branch c.take_one.new.branch c.loop-index.invariant.more c.in_ok-take_one.ensures.more;
  said = λ d h. elim (take-has c.args.list.now c.loop-index.index c.literal_at.result d c.literal_at.ensures h) [
    | inl old ↦ let there = c.loop-index.invariant.said d old in (there.0, has-more c.args.problem.now c.loop-index.branch c.take_one.new.branch c.in_ok-take_one.ensures.more (decided d.atom there.0) there.1)
    | inr e ↦ subst (λ (z : Decided). IsSaid c.take_one.new.branch.trail z.atom) e c.in_ok-take_one.ensures.said
  ];
  waits = waits-twice c.args.problem.now c.args.branch.now c.loop-index.branch c.take_one.new.branch c.args.place c.in_ok-take_one.ensures.more c.loop-index.invariant.branch.begun c.loop-index.invariant.waits c.in_ok-take_one.ensures.waits;
}

pub returns-clause-branch : goal.returns-clause-branch
returns-clause-branch c = c.loop-index.invariant.branch

pub returns-clause-more : goal.returns-clause-more
returns-clause-more c = c.loop-index.invariant.more

pub returns-clause-said : goal.returns-clause-said
returns-clause-said c = λ l h. c.loop-index.invariant.said l (subst (λ (xs : List Decided). Has xs l) (sym (take_all c.loop-index.index c.args.list.now (omega (arith, c.loop-index-test.false)))) h)

pub returns-clause-waits : goal.returns-clause-waits
returns-clause-waits c = c.loop-index.invariant.waits
