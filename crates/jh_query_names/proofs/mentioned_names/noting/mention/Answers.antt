use Rattle.std.proofs.Common.{sym, subst, ◌∙◌}
use Rattle.jh_arena.specs.table.Nodes.{nodes}
use Rattle.jh_arena.proofs.table.Listed.{grows-refl}
use Rattle.jh_query_names.specs.declared.visible_part.memo.Memo.{Memo}
use Rattle.jh_query_names.specs.visible_part.Memos.{found as found_shown}
use Rattle.jh_query_names.specs.visible_part.Showing.{HoldsShown}
use Rattle.jh_query_names.specs.mentioned_names.Memos.{found}
use Rattle.jh_query_names.proofs.mentioned_names.Growing.{notes-grow, notes-more, noted-one, notes-longer}
use Rattle.jh_query_names.proofs.mentioned_names.noting.mention.Goals as goal

pub returns-in-Some-clause-noted : goal.returns-in-Some-clause-noted
returns-in-Some-clause-noted c = c.requires.memo.noted_before.at c.args.fact c.in-Some.place (sym c.find.ensures ∙ c.in-Some.is)

pub returns-in-Some-clause-stays : goal.returns-in-Some-clause-stays
returns-in-Some-clause-stays c = grows-refl c.args.memo.now.notes.items

pub note_of-requires-clause-memo : goal.note_of-requires-clause-memo
note_of-requires-clause-memo c = c.requires.memo.shown_before

pub returns-in_ok-place-in-None-clause-noted : goal.returns-in_ok-place-in-None-clause-noted
returns-in_ok-place-in-None-clause-noted c =
    noted-one (nodes c.note_of.new.table) c.args.memo.now.notes.items c.add.new.self.notes.items c.args.fact c.in_ok-place-in-None.place c.in_ok-note-in-None.note
    c.in_ok-place-in-None.ensures.notes c.in_ok-place-in-None.ensures.place c.in_ok-note-in-None.ensures.note

pub returns-in_ok-place-in-None-clause-memo : goal.returns-in_ok-place-in-None-clause-memo
returns-in_ok-place-in-None-clause-memo c =
    let ts = nodes c.args.table.now in
    let us = nodes c.note_of.new.table in
    let notes = c.args.memo.now.notes.items in
    record {
      shown_before = subst (λ (m : Memo). HoldsShown us (found_shown m.answers)) (sym c.in_ok-place-in-None.ensures.shown) c.in_ok-note-in-None.ensures.memo;
      noted_before = notes-more us (found c.args.memo.now.places) (found c.add.new.self.places) notes c.add.new.self.notes.items c.args.fact c.in_ok-note-in-None.note
          (notes-grow ts us c.note_of.ensures.grows.nodes (found c.args.memo.now.places) notes notes (grows-refl notes) c.requires.memo.noted_before)
          c.in_ok-place-in-None.ensures.notes c.in_ok-note-in-None.ensures.note c.in_ok-place-in-None.ensures.others;
    }

pub returns-in_ok-place-in-None-clause-stays : goal.returns-in_ok-place-in-None-clause-stays
returns-in_ok-place-in-None-clause-stays c = notes-longer c.args.memo.now.notes.items c.add.new.self.notes.items c.in_ok-note-in-None.note c.in_ok-place-in-None.ensures.notes
