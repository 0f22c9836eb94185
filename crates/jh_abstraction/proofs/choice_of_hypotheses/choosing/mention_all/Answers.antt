use Rattle.std.proofs.Common.{◌≤◌, ◌+◌, sym, subst, List, [], take, length, ℕ, arith}
use Rattle.std.proofs.lemmas.List.{take_all}
use Rattle.jh_arena.specs.table.Nodes.{nodes}
use Rattle.jh_arena.proofs.table.Listed.{extends-refl, extends-trans}
use Rattle.jh_splitting.specs.Pairs.{ArePaired}
use Rattle.jh_query_names.specs.mentioned_names.Notes.{IsNoted}
use Rattle.jh_query_names.proofs.mentioned_names.Growing.{still-truth, noted-grows}
use Rattle.jh_abstraction.proofs.choice_of_hypotheses.Lists.{paired-grows, paired-next}
use Rattle.jh_abstraction.proofs.choice_of_hypotheses.choosing.mention_all.Goals as goal

pub loop-place-init : goal.loop-place-init
loop-place-init c = record {
  noted = subst (λ (ps : List ℕ). ArePaired (IsNoted (nodes c.args.table.now) c.args.memo.now.notes.items) [] ps) (sym c.new-places.ensures.items) tt;
  right = c.requires.memo;
  grows = extends-refl c.args.table.now;
}

pub mention-requires-clause-fact : goal.mention-requires-clause-fact
mention-requires-clause-fact c =
    still-truth (nodes c.args.table.now) (nodes c.loop-place.table) c.loop-place.invariant.grows.nodes c.number_at.result (c.requires.facts c.loop-place.place c.number_at.result c.number_at.ensures)

pub loop-place-preserved : goal.loop-place-preserved
loop-place-preserved c =
    let t1 = c.loop-place.table in
    let t2 = c.mention.new.table in
    let old = c.loop-place.memo.notes.items in
    let new = c.mention.new.memo.notes.items in
    let facts = c.args.facts.now in
    record {
      noted = subst (λ (ps : List ℕ). ArePaired (IsNoted (nodes t2) new) (take (c.loop-place.place + 1) facts) ps) (sym c.in_ok-push.ensures.items)
          (paired-next (IsNoted (nodes t2) new) facts c.loop-place.places.items c.loop-place.place c.number_at.result c.in_ok-noted.noted c.number_at.ensures
          (paired-grows (IsNoted (nodes t1) old) (IsNoted (nodes t2) new) (noted-grows (nodes t1) (nodes t2) c.mention.ensures.grows.nodes old new c.in_ok-noted.ensures.stays) (take c.loop-place.place facts) c.loop-place.places.items c.loop-place.invariant.noted)
          c.in_ok-noted.ensures.noted);
      right = c.in_ok-noted.ensures.memo;
      grows = extends-trans c.args.table.now t1 t2 c.loop-place.invariant.grows c.mention.ensures.grows;
    }

pub returns-clause-places : goal.returns-clause-places
returns-clause-places c =
    let facts = c.args.facts.now in
    let far : length facts ≤ c.loop-place.place = search arith in
    subst (λ (ns : List ℕ). ArePaired (IsNoted (nodes c.loop-place.table) c.loop-place.memo.notes.items) ns c.loop-place.places.items) (take_all c.loop-place.place facts far) c.loop-place.invariant.noted
