use Rattle.std.proofs.lemmas.Result.{IfOk-weaker}
use Rattle.jh_arena.specs.table.Nodes.{nodes}
use Rattle.jh_arena.proofs.table.Listed.{grows-refl, extends-trans}
use Rattle.jh_seq.specs.sequent.Sequents.{SequentTree}
use Rattle.jh_approx.specs.definition.Links.{is_linked}
use Rattle.jh_query_names.specs.mentioned_names.Memos.{found}
use Rattle.jh_query_names.proofs.mentioned_names.Growing.{truth-there, notes-grow, on-ok}
use Rattle.jh_abstraction.specs.choice_of_hypotheses.Asking.{AreNodes, IsStated}
use Rattle.jh_abstraction.specs.choice_of_hypotheses.Choosing.{IsOver, is_near, said_of}
use Rattle.jh_abstraction.proofs.choice_of_hypotheses.Askings.{stated-truths, stated-grows, over-of}
use Rattle.jh_abstraction.proofs.choice_of_hypotheses.choosing.kept_by_links.Goals as goal

pub mention_all-requires-clause-facts : goal.mention_all-requires-clause-facts
mention_all-requires-clause-facts c = stated-truths (nodes c.args.table.now) c.args.facts.now c.args.goal c.requires.sequent.0 c.requires.sequent.1

pub shown-requires-clause-formula : goal.shown-requires-clause-formula
shown-requires-clause-formula c =
    let s = c.requires.sequent.0 in
    let us = nodes c.mention_all.new.table in
    truth-there us c.args.goal s.goal (stated-grows (nodes c.args.table.now) us c.mention_all.ensures.grows.nodes c.args.facts.now c.args.goal s c.requires.sequent.1).wanted

pub shown-requires-clause-memo : goal.shown-requires-clause-memo
shown-requires-clause-memo c = c.in_ok-places.ensures.memo.shown_before

pub near_goal-requires : goal.near_goal-requires
near_goal-requires c =
    let s = c.requires.sequent.0 in (
      s,
      over-of (nodes c.args.table.now) (nodes c.mention_all.new.table) (nodes c.shown.new.table) c.mention_all.ensures.grows.nodes c.shown.ensures.grows.nodes c.args.facts.now c.in_ok-places.places.items c.mention_all.new.memo.notes.items c.args.goal c.in_ok-said.said s c.requires.sequent.1 c.in_ok-places.ensures.places
          c.in_ok-said.ensures.tree c.as_slice-notes.result.now c.as_slice-held.result.now c.as_slice-notes.ensures.value c.as_slice-held.ensures.value,
    )

pub returns-clause-kept : goal.returns-clause-kept
returns-clause-kept c =
    let ts = nodes c.args.table.now in
    let us = nodes c.shown.new.table in
    IfOk-weaker
    c.near_goal.result
    (λ made. (s : SequentTree) → IsOver us c.as_slice-notes.result.now c.as_slice-held.result.now c.args.goal c.in_ok-said.said s → AreNodes us made.items (said_of (λ h. is_near s.goal (is_linked s) h.fact) s.hyps))
    (λ made. (s : SequentTree) → IsStated ts c.args.facts.now c.args.goal s → AreNodes us made.items (said_of (λ h. is_near s.goal (is_linked s) h.fact) s.hyps))
    (λ made h s stated. h s
    (over-of ts (nodes c.mention_all.new.table) us c.mention_all.ensures.grows.nodes c.shown.ensures.grows.nodes c.args.facts.now c.in_ok-places.places.items c.mention_all.new.memo.notes.items c.args.goal c.in_ok-said.said s stated c.in_ok-places.ensures.places
    c.in_ok-said.ensures.tree c.as_slice-notes.result.now c.as_slice-held.result.now c.as_slice-notes.ensures.value c.as_slice-held.ensures.value))
    c.near_goal.ensures

pub returns-clause-memo : goal.returns-clause-memo
returns-clause-memo c =
    let notes = c.mention_all.new.memo.notes.items in
    on-ok c.near_goal.result (record {
      shown_before = c.in_ok-said.ensures.memo;
      noted_before = notes-grow (nodes c.mention_all.new.table) (nodes c.shown.new.table) c.shown.ensures.grows.nodes (found c.mention_all.new.memo.places) notes notes (grows-refl notes) c.in_ok-places.ensures.memo.noted_before;
    })

pub returns-clause-grows : goal.returns-clause-grows
returns-clause-grows c = extends-trans c.args.table.now c.mention_all.new.table c.shown.new.table c.mention_all.ensures.grows c.shown.ensures.grows
