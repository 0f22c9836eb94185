use Rattle.std.proofs.Common.{◌≤◌, ◌+◌, sym, ap, subst, ◌∙◌, List, take, length, ℕ, arith}
use Rattle.std.proofs.lemmas.List.{take_all}
use Rattle.std.proofs.lemmas.Option.{slice_get_within}
use Rattle.jh_arena.specs.table.Nodes.{nodes}
use Rattle.jh_seq.specs.sequent.Sequents.{HypTree}
use Rattle.jh_abstraction.specs.choice_of_hypotheses.Asking.{AreNodes}
use Rattle.jh_abstraction.specs.choice_of_hypotheses.Choosing.{HasNote, is_near, said_of}
use Rattle.jh_abstraction.proofs.choice_of_hypotheses.Lists.{paired-at, paired-length}
use Rattle.jh_abstraction.proofs.choice_of_hypotheses.Askings.{said-none, said-passing, said-failing, note-there}
use Rattle.jh_abstraction.proofs.choice_of_hypotheses.choosing.near_facts.Goals.{then-is_near+in_ok-push, else-is_near}
use Rattle.jh_abstraction.proofs.choice_of_hypotheses.choosing.near_facts.Goals as goal

pub loop-place-init : goal.loop-place-init
loop-place-init c = λ hs goal linked noted free decides. said-none (nodes c.args.table.now) (λ h. is_near goal linked h.fact) c.new-kept.result.items c.new-kept.ensures.items

pub note_at-note-requires : goal.note_at-note-requires
note_at-note-requires c =
    let there = paired-at (λ p (a : HypTree). HasNote (nodes c.args.table.now) c.args.notes.now p a.fact) c.args.places.now c.requires.0 c.loop-place.place c.number_at.result c.requires.1 c.number_at.ensures in
    slice_get_within c.args.notes.now c.number_at.result there.2.note there.2.at

pub is_near-requires : goal.is_near-requires
is_near-requires c =
    let there = note-there (nodes c.args.table.now) c.args.notes.now c.args.places.now c.requires.0 c.requires.1 c.loop-place.place c.number_at.result c.number_at.ensures c.note_at-note.result.now c.note_at-note.ensures in
    (there.0.fact, there.2)

pub loop-place-preserved : goal.loop-place-preserved
loop-place-preserved c = elim c.if-is_near.branch [
  | then-is_near+in_ok-push w ↦ λ hs goal linked noted free decides.
      let ts = nodes c.args.table.now in
      let there = note-there ts c.args.notes.now c.args.places.now hs noted c.loop-place.place c.number_at.result c.number_at.ensures c.note_at-note.result.now c.note_at-note.ensures in
      said-passing ts (λ h. is_near goal linked h.fact) hs c.loop-place.place there.0 c.loop-place.kept.items c.if-is_near.kept.items c.note_at-note.result.now.shown there.1 (c.loop-place.invariant hs goal linked noted free decides)
      (sym (c.is_near.ensures there.0.fact goal linked there.2 free decides) ∙ w.if-is_near.true) (ap (λ ns. ns.items) w.kept-is ∙ w.in_ok-push.ensures.items) there.2.said
  | else-is_near w ↦ λ hs goal linked noted free decides.
      let ts = nodes c.args.table.now in
      let there = note-there ts c.args.notes.now c.args.places.now hs noted c.loop-place.place c.number_at.result c.number_at.ensures c.note_at-note.result.now c.note_at-note.ensures in
      subst (λ (ns : List ℕ). AreNodes ts ns (said_of (λ h. is_near goal linked h.fact) (take (c.loop-place.place + 1) hs))) (sym (ap (λ ns. ns.items) w.kept-is))
      (said-failing ts (λ h. is_near goal linked h.fact) hs c.loop-place.place there.0 c.loop-place.kept.items there.1 (c.loop-place.invariant hs goal linked noted free decides)
      (sym (c.is_near.ensures there.0.fact goal linked there.2 free decides) ∙ w.if-is_near.false))
]

pub returns : goal.returns
returns c = λ hs goal linked noted free decides.
    let ts = nodes c.args.table.now in
    let count = paired-length (λ p (a : HypTree). HasNote ts c.args.notes.now p a.fact) c.args.places.now hs noted in
    let far : length hs ≤ c.loop-place.place = search (arith, count) in
    subst (λ (xs : List HypTree). AreNodes ts c.loop-place.kept.items (said_of (λ h. is_near goal linked h.fact) xs)) (take_all c.loop-place.place hs far) (c.loop-place.invariant hs goal linked noted free decides)
