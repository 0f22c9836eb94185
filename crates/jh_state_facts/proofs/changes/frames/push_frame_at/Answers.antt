use Rattle.std.proofs.Common.{◌≡◌, arith, [], ◌∷◌, ap, map, sym, subst, Some, None, slice_get}
use Rattle.std.specs.Option.{option_map_or}
use Rattle.jh_form.specs.Tree as tree
use Rattle.jh_command_terms.specs.jh_guard.Frames.{frame_fact}
use Rattle.jh_state_facts.specs.schemas.Meant.{name_in}
use Rattle.jh_state_facts.specs.well_formedness.Facts.{AddsFacts}
use Rattle.jh_state_facts.specs.well_formedness.States.{member_in}
use Rattle.jh_state_facts.proofs.well_formedness.FactSteps.{adds-none, at-place}
use Rattle.jh_state_facts.proofs.changes.AddedSteps.{on-ok, nothing-at}
use Rattle.jh_state_facts.proofs.changes.frames.push_frame_at.Goals as goal

pub returns-then-place-members-clause-facts : goal.returns-then-place-members-clause-facts
returns-then-place-members-clause-facts c = λ classes.
    let nowhere : slice_get c.args.members.now c.args.place ≡ None = nothing-at c.args.members.now c.args.place (omega (arith, c.if-place-members.true)) in
    subst (λ xs. AddsFacts c.args.table.now c.args.facts.now.items c.args.facts.now.items (map (frame_fact (tree.free_set (name_in c.args.old_alloc)) c.args.turn) xs)) (sym (ap (λ o. option_map_or (λ x. member_in classes x ∷ []) o []) nowhere))
    (adds-none c.args.table.now c.args.facts.now.items)

pub returns-clause-facts : goal.returns-clause-facts
returns-clause-facts c =
    let x = c.index-members-place.result in
    let there : slice_get c.args.members.now c.args.place ≡ Some x = at-place c.args.members.now x c.args.place (omega (arith, c.if-place-members.false)) c.index-members-place.is in
    on-ok c.push_frame.result
    (λ h classes.
    subst (λ xs. AddsFacts c.push_frame.new.table c.args.facts.now.items c.push_frame.new.facts.items (map (frame_fact (tree.free_set (name_in c.args.old_alloc)) c.args.turn) xs)) (sym (ap (λ o. option_map_or (λ x. member_in classes x ∷ []) o []) there))
    (h classes))
    c.push_frame.ensures.facts
