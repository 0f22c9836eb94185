use Rattle.std.proofs.Common.{◌≡◌, ◌≤◌, sym, subst, List, [], ◌∷◌, ◌++◌, if◌then◌else◌, map, take, length, arith}
use Rattle.std.specs.Prelude.{filter}
use Rattle.std.proofs.lemmas.List.{take_all}
use Rattle.jh_form.specs.declared.mark.Mark.{Mark}
use Rattle.jh_arena.specs.table.Nodes.{nodes}
use Rattle.jh_seq.specs.sequent.Sequents.{HypTree}
use Rattle.jh_seq.specs.splitting.Split.{mark_of}
use Rattle.jh_reach.specs.Standing.{AreFormulas}
use Rattle.jh_reach.proofs.Standings.{formulas-none}
use Rattle.jh_abstraction.specs.choice_of_hypotheses.Asking.{HasName, HasFact}
use Rattle.jh_fca.specs.local_form.Chosen.{is_chosen}
use Rattle.jh_local_form.proofs.local_sequents.Forms.{chosen-next}
use Rattle.jh_local_form.proofs.local_sequents.Marked.{paired-length, hyp-there}
use Rattle.jh_local_form.proofs.local_sequents.choosing.chosen_facts.Goals as goal

pub loop-place-init : goal.loop-place-init
loop-place-init c = λ wanted s asked. formulas-none c.args.table.now c.new-made.result.items c.new-made.ensures.items

pub node_at-requires : goal.node_at-requires
node_at-requires c =
    let s = c.requires.1 in
    let a = paired-length (HasName c.args.table.now) c.args.hyps.now s.hyps c.requires.2.called in
    let b = paired-length (HasFact (nodes c.args.table.now)) c.args.facts.now s.hyps c.requires.2.stated.said in
    search (arith, a, b)

pub add_chosen-requires-clause-label : goal.add_chosen-requires-clause-label
add_chosen-requires-clause-label c = (c.requires.2.mark, c.requires.2.is_label)

pub add_chosen-requires-clause-hyp : goal.add_chosen-requires-clause-hyp
add_chosen-requires-clause-hyp c =
    let there = hyp-there c.args.table.now c.args.hyps.now c.args.label c.args.facts.now c.requires.0 c.requires.1 c.requires.2 c.loop-place.place c.hyp_at.result c.node_at.result c.hyp_at.ensures c.node_at.ensures in
    (there.0, there.2)

pub loop-place-preserved : goal.loop-place-preserved
loop-place-preserved c = λ wanted s asked.
    let t = c.args.table.now in
    let made = c.loop-place.made.items in
    let more = c.add_chosen.new.chosen.items in
    let there = hyp-there t c.args.hyps.now c.args.label c.args.facts.now wanted s asked c.loop-place.place c.hyp_at.result c.node_at.result c.hyp_at.ensures c.node_at.ensures in
    chosen-next (is_chosen s.mark.from) t s.hyps c.loop-place.place c.node_at.result there.0 made more there.1 there.3 (c.loop-place.invariant wanted s asked)
    (subst (λ (m : Mark). more ≡ (if is_chosen m.from there.0 then made ++ c.node_at.result ∷ [] else made)) (sym asked.under) (c.in_ok-add_chosen.ensures.chosen asked.mark there.0 asked.is_label there.2))

pub returns : goal.returns
returns c = λ wanted s asked.
    let t = c.args.table.now in
    let count = paired-length (HasName t) c.args.hyps.now s.hyps asked.called in
    let far : length s.hyps ≤ c.loop-place.place = search (arith, count) in
    subst (λ (hs : List HypTree). AreFormulas t c.loop-place.made.items (map (λ (h : HypTree). h.fact) (filter (is_chosen s.mark.from) hs))) (take_all c.loop-place.place s.hyps far) (c.loop-place.invariant wanted s asked)
