use Rattle.std.proofs.Common.{◌≡◌, sym, ap, ◌∙◌, List, Some, slice_get}
use Rattle.std.proofs.lemmas.Option.{slice_get_within}
use Rattle.std.proofs.lemmas.Result.{IfOk-weaker}
use Rattle.jh_form.specs.Tree.{TermTree, FieldTree, ValueTree, of_object, of_field}
use Rattle.jh_arena.specs.table.Nodes.{nodes, fits_in}
use Rattle.jh_arena.proofs.table.PartSteps.{part-Update-a, part-Update-b, part-Update-c}
use Rattle.jh_arena.proofs.table.Children.{it-is-field, it-is-object, it-is-value}
use Rattle.jh_local_form.specs.updates.Updating.{IsNaming}
use Rattle.jh_local_form.specs.updates.NamedUpdates.{HasParts, IsNamedUpdate}
use Rattle.jh_fca.specs.local_form.Named.{is_whole_update}
use Rattle.jh_local_form.proofs.updates.Apart.{passes-at}
use Rattle.jh_local_form.proofs.updates.Places.{value-at}
use Rattle.jh_local_form.proofs.updates.Parted.{update-named, not-else}
use Rattle.jh_local_form.proofs.updates.Renamed.{update-within}
use Rattle.jh_local_form.proofs.updates.facts.named_update.Goals as goal

pub update_at-requires : goal.update_at-requires
update_at-requires c = update-within c.args.table.now c.args.names.now c.requires.names.0 c.requires.names.1 c.args.place c.requires.place

pub named_parts-requires-clause-field : goal.named_parts-requires-clause-field
named_parts-requires-clause-field c =
    let t = c.args.table.now in
    it-is-field (slice_get (nodes t) c.in-Update.field) (part-Update-a t.pools (nodes t) c.in-Update.field c.in-Update.at c.in-Update.value (ap (fits_in t) (sym c.in-Update.is) ∙ c.shape.ensures.fits))

pub named_parts-requires-clause-at : goal.named_parts-requires-clause-at
named_parts-requires-clause-at c =
    let t = c.args.table.now in
    it-is-object (slice_get (nodes t) c.in-Update.at) (part-Update-b t.pools (nodes t) c.in-Update.field c.in-Update.at c.in-Update.value (ap (fits_in t) (sym c.in-Update.is) ∙ c.shape.ensures.fits))

pub named_parts-requires-clause-value : goal.named_parts-requires-clause-value
named_parts-requires-clause-value c =
    let t = c.args.table.now in
    slice_get_within (nodes t) c.in-Update.value _ (it-is-value (slice_get (nodes t) c.in-Update.value) (part-Update-c t.pools (nodes t) c.in-Update.field c.in-Update.at c.in-Update.value (ap (fits_in t) (sym c.in-Update.is) ∙ c.shape.ensures.fits)))

pub returns-clause-update : goal.returns-clause-update
returns-clause-update c =
    let t0 = c.args.table.now in
    let t1 = c.named_parts.new.table in
    let n = c.args.names.now in
    IfOk-weaker
    c.named_parts.result
    (λ made. (made.name ≡ c.name_at-name.result) × ((us : List ValueTree) (f : FieldTree) (a : TermTree) (v : ValueTree) → IsNaming t0 n us → slice_get (nodes t0) c.in-Update.field ≡ Some (of_field f) → slice_get (nodes t0) c.in-Update.at ≡ Some (of_object a) → slice_get (nodes t0) c.in-Update.value ≡ Some v → HasParts (nodes t1) made us n.first f a v))
    (λ made. (us : List ValueTree) → IsNaming t0 n us → (u : ValueTree) × (slice_get us c.args.place ≡ Some u) × IsNamedUpdate (nodes t1) made us n.first u)
    (λ made h us is.
    update-named t0 t1 n us is c.named_parts.ensures.grows c.args.place c.update_at.result c.name_at-name.result c.shape.result c.in-Update.field c.in-Update.at c.in-Update.value made c.update_at.ensures c.name_at-name.ensures c.shape.ensures.tree c.shape.ensures.fits c.in-Update.is h.0 (λ f a v. h.1 us f a v is))
    c.named_parts.ensures.parts

pub shape-requires : goal.shape-requires
shape-requires c =
    let t = c.args.table.now in
    let u = value-at (nodes t) c.args.names.now.updates c.requires.names.0 c.args.place c.update_at.result c.requires.names.1.updates.are c.update_at.ensures in
    slice_get_within (nodes t) c.update_at.result u.0 u.2

pub unreachable-requires : goal.unreachable-requires
unreachable-requires c =
    let t = c.args.table.now in
    let us = c.requires.names.0 in
    let u = value-at (nodes t) c.args.names.now.updates us c.args.place c.update_at.result c.requires.names.1.updates.are c.update_at.ensures in
    not-else t c.update_at.result c.shape.result u.0 c.shape.ensures.tree c.in_default.not-Update u.2 (passes-at is_whole_update us c.args.place u.0 c.requires.names.1.updates.whole u.1)
