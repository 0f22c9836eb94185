use Rattle.std.proofs.Common.{◌≡◌, ◌∙◌, ap, subst, ℕ, [], ◌∷◌, ◌++◌, ◌==◌, if◌then◌else◌, length}
use Rattle.jh_closure.specs.congruence_closure.Uses.{row}
use Rattle.jh_closure.proofs.congruence_closure.Oks.{on-ok-then}
use Rattle.jh_propagation.proofs.trail.Gathering.{Rows, noted-row, gathered-more}
use Rattle.jh_propagation.proofs.trail.occurring.note.Goals as goal

abbrev Added : ℕ → ℕ → Rows → Rows → Type 0
Added atom place new old = (r : ℕ) → row new r ≡ (if r == atom then row old atom ++ place ∷ [] else row old r)

pub returns-clause-gathered : goal.returns-clause-gathered
returns-clause-gathered c =
    let first = c.args.found.now.rows.items in
    let new = c.add_place.new.rows.items in
    on-ok-then c.add_place.result
    (λ f. gathered-more first new c.args.atom c.args.place (subst (Added c.args.atom c.args.place new) c.add_atom.ensures.rows f) c.args.found.now.atoms.items c.add_atom.new.found.atoms.items c.requires.gathered c.in_ok-add_atom.ensures.atoms c.in_ok-add_atom.ensures.there)
    c.add_place.ensures.added

pub returns-clause-noted : goal.returns-clause-noted
returns-clause-noted c =
    let first = c.args.found.now.rows.items in
    let new = c.add_place.new.rows.items in
    on-ok-then c.add_place.result
    (λ f. noted-row first new c.args.atom c.args.place (subst (Added c.args.atom c.args.place new) c.add_atom.ensures.rows f) (c.add_place.ensures.count ∙ ap length c.add_atom.ensures.rows))
    c.add_place.ensures.added
