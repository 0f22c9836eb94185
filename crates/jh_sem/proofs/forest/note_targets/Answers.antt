use Rattle.std.proofs.Common.{rules, ◌≡◌, ◌+◌, ◌<◌, ℕ, true, false, Bool, List, sym, ap, subst, ◌∙◌, length, inl, inr, arith}
use Rattle.jh_containers.proofs.transitive_closure.Places.{same-or-not}
use Rattle.jh_sem.specs.Graphs.{listed_fields, IsNoted}
use Rattle.jh_sem.proofs.Walks.{listed-length}
use Rattle.jh_sem.proofs.Forests.{noted-null, noted-new, noted-shared, noted-object}
use Rattle.jh_sem.proofs.forest.note_targets.Goals as goal

pub loop-place-preserved : goal.loop-place-preserved
loop-place-preserved c =
    let fs = listed_fields c.args.fields.now in
    let n = listed-length c.args.fields.now in
    let known = c.loop-place.invariant in
    let o = c.target-object.result in
    let old = c.loop-place.seen.items in
    record {
      sized = c.note.ensures.sized ∙ known.sized;
      noted =
          elim (same-or-not o 0) [
            | inl null ↦ subst (λ (ms : List Bool). IsNoted fs c.args.at (c.loop-place.place + 1) ms) (sym (c.note.ensures.null null).1) (noted-null fs c.args.at c.loop-place.place old (sym c.target-object.ensures.edge ∙ null) known.noted)
            | inr some ↦
                let new = c.note.ensures.noted c.if-not-note.false some in
                subst (λ (ms : List Bool). IsNoted fs c.args.at (c.loop-place.place + 1) ms) (sym new.1) (noted-new fs c.args.at c.loop-place.place old o c.target-object.ensures.edge (omega arith) new.0 known.noted)
          ];
    }

pub returns-then-not-note-clause-shared : goal.returns-then-not-note-clause-shared
returns-then-not-note-clause-shared c = λ h.
    let fs = listed_fields c.args.fields.now in
    let n = listed-length c.args.fields.now in
    let old = c.note.ensures.shared c.if-not-note.true in
    noted-shared c.args.last fs c.args.at c.loop-place.place c.loop-place.seen.items c.target-object.result c.target-object.ensures.edge c.requires.at (omega arith) old.1 old.0 c.loop-place.invariant.noted

pub returns-clause-noted : goal.returns-clause-noted
returns-clause-noted c = λ h.
    let n = listed-length c.args.fields.now in
    noted-object (listed_fields c.args.fields.now) c.args.at c.loop-place.place c.loop-place.seen.items (omega arith) (omega arith) c.loop-place.invariant.noted
