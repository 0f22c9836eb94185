use Rattle.std.proofs.Common.{◌≤◌, ap, subst, List, take, length, arith}
use Rattle.std.proofs.lemmas.List.{take_all}
use Rattle.jh_form.specs.declared.mark.Mark.{Mark}
use Rattle.jh_arena.specs.table.Nodes.{nodes}
use Rattle.jh_arena.proofs.table.Listed.{extends-refl, extends-trans}
use Rattle.jh_seq.specs.sequent.Sequents.{HypTree}
use Rattle.jh_seq.specs.splitting.Split.{mark_of}
use Rattle.jh_approx.specs.definition.Links.{named_in}
use Rattle.jh_abstraction.specs.choice_of_hypotheses.Asking.{AreNodes, HasName, HasFact}
use Rattle.jh_abstraction.specs.choice_of_hypotheses.Choosing.{said_of}
use Rattle.jh_abstraction.proofs.choice_of_hypotheses.Lists.{paired-length}
use Rattle.jh_abstraction.proofs.choice_of_hypotheses.Askings.{label-grows, asked-grows, nodes-grow, said-none, said-adds, hyp-there}
use Rattle.jh_abstraction.proofs.choice_of_hypotheses.choosing.kept_by_names.Goals as goal

pub loop-place-init : goal.loop-place-init
loop-place-init c = record {
  chosen = λ s asked. said-none (nodes c.args.table.now) (λ h. named_in s.mark.from h.name) c.new-kept.result.items c.new-kept.ensures.items;
  right = c.requires.memo;
  grows = extends-refl c.args.table.now;
}

pub number_at-fact-requires : goal.number_at-fact-requires
number_at-fact-requires c =
    let s = c.requires.sequent.0 in
    let asked = c.requires.sequent.1 in
    let a = paired-length (HasName c.args.table.now) c.args.hyps.now s.hyps asked.called in
    let b = paired-length (HasFact (nodes c.args.table.now)) c.args.facts.now s.hyps asked.stated.said in
    search (arith, a, b)

pub add_named-requires-clause-label : goal.add_named-requires-clause-label
add_named-requires-clause-label c =
    (c.requires.sequent.1.mark, label-grows c.args.table.now c.loop-place.table c.loop-place.invariant.grows c.args.label c.requires.sequent.1.mark c.requires.sequent.1.is_label)

pub add_named-requires-clause-hyp : goal.add_named-requires-clause-hyp
add_named-requires-clause-hyp c =
    let s = c.requires.sequent.0 in
    let there =
    hyp-there c.loop-place.table c.args.hyps.now c.args.label c.args.facts.now c.args.goal s (asked-grows c.args.table.now c.loop-place.table c.loop-place.invariant.grows c.args.hyps.now c.args.label c.args.facts.now c.args.goal s c.requires.sequent.1) c.loop-place.place
    c.hyp_at-hyp.result c.number_at-fact.result c.hyp_at-hyp.ensures c.number_at-fact.ensures in
    (there.0, there.2, there.3)

pub loop-place-preserved : goal.loop-place-preserved
loop-place-preserved c =
    let t0 = c.args.table.now in
    let t1 = c.loop-place.table in
    let t2 = c.add_named.new.table in
    record {
      chosen = λ s asked.
          let now = asked-grows t0 t1 c.loop-place.invariant.grows c.args.hyps.now c.args.label c.args.facts.now c.args.goal s asked in
          let there = hyp-there t1 c.args.hyps.now c.args.label c.args.facts.now c.args.goal s now c.loop-place.place c.hyp_at-hyp.result c.number_at-fact.result c.hyp_at-hyp.ensures c.number_at-fact.ensures in
          said-adds (nodes t2) (λ h. named_in s.mark.from h.name) s.hyps c.loop-place.place there.0 c.loop-place.kept.items c.add_named.new.kept.items (named_in (mark_of now.mark).from there.0.name) there.1
          (nodes-grow (nodes t1) (nodes t2) c.add_named.ensures.grows.nodes c.loop-place.kept.items (said_of (λ h. named_in s.mark.from h.name) (take c.loop-place.place s.hyps)) (c.loop-place.invariant.chosen s asked))
          (ap (λ (m : Mark). named_in m.from there.0.name) now.under) (c.in_ok-add_named.ensures.kept there.0 now.mark there.2 there.3 now.is_label);
      right = c.in_ok-add_named.ensures.memo;
      grows = extends-trans t0 t1 t2 c.loop-place.invariant.grows c.add_named.ensures.grows;
    }

pub returns-clause-kept : goal.returns-clause-kept
returns-clause-kept c = λ s asked.
    let count = paired-length (HasName c.args.table.now) c.args.hyps.now s.hyps asked.called in
    let far : length s.hyps ≤ c.loop-place.place = search (arith, count) in
    subst (λ (hs : List HypTree). AreNodes (nodes c.loop-place.table) c.loop-place.kept.items (said_of (λ h. named_in s.mark.from h.name) hs)) (take_all c.loop-place.place s.hyps far) (c.loop-place.invariant.chosen s asked)
