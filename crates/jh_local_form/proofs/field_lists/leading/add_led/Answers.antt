use Rattle.std.proofs.Common.{[], drop, ◌+◌, arith}
use Rattle.std.proofs.lemmas.Result.{on_ok_weaker}
use Rattle.jh_arena.specs.table.Nodes.{nodes}
use Rattle.jh_arena.proofs.table.Listed.{extends-refl, extends-trans}
use Rattle.jh_local_form.specs.field_lists.Leading.{LeadsOn}
use Rattle.jh_local_form.proofs.field_lists.Standing.{change-at, change-grows, are-as}
use Rattle.jh_local_form.proofs.field_lists.Led.{turn, leads, ended, led-as, all-gone}
use Rattle.jh_local_form.proofs.field_lists.leading.add_led.Goals as goal

pub loop-place-init : goal.loop-place-init
loop-place-init c = record { led = λ cs whole are led. led; fields = c.requires.fields; made = c.requires.made; grows = extends-refl c.args.table.now }

pub go_on-requires-clause-change : goal.go_on-requires-clause-change
go_on-requires-clause-change c =
    let d = change-at (nodes c.args.table.now) c.args.changes.now c.requires.changes.0 c.loop-place.place c.change_at.result c.requires.changes.1 c.change_at.ensures in
    (d.0, change-grows (nodes c.args.table.now) (nodes c.loop-place.table) c.loop-place.invariant.grows.nodes c.change_at.result d.0 d.2)

pub loop-place-preserved : goal.loop-place-preserved
loop-place-preserved c =
    let t = c.args.table.now in
    let u = c.loop-place.table in
    let i = c.loop-place.place in
    let made = c.go_on.new.made.items in
    let ns = c.go_on.new.fields.items in
    record {
      led = λ cs whole are led.
          leads c.go_on.new.table made ns (drop (i + 1) cs) whole c.in_ok-go_on.field-0 c.if-not-branch.false
          (turn t u c.loop-place.invariant.grows c.args.changes.now cs are c.loop-place.made.items c.loop-place.fields.items whole i c.change_at.result c.change_at.ensures (c.loop-place.invariant.led cs whole are led)
          (LeadsOn c.in_ok-go_on.field-0 c.go_on.new.table made ns (drop (i + 1) cs) whole)
          (λ d is here. c.in_ok-go_on.ensures.led d (drop (i + 1) cs) whole is here));
      fields = c.in_ok-go_on.ensures.fields;
      made = c.in_ok-go_on.ensures.made;
      grows = extends-trans t u c.go_on.new.table c.loop-place.invariant.grows c.go_on.ensures.grows;
    }

pub returns-then-not-branch-clause-made : goal.returns-then-not-branch-clause-made
returns-then-not-branch-clause-made c = λ cs whole are led.
    let i = c.loop-place.place in
    let made = c.go_on.new.made.items in
    let ns = c.go_on.new.fields.items in
    ended c.go_on.new.table made ns (drop (i + 1) cs) whole c.in_ok-go_on.field-0 c.if-not-branch.true
    (turn c.args.table.now c.loop-place.table c.loop-place.invariant.grows c.args.changes.now cs are c.loop-place.made.items c.loop-place.fields.items whole i c.change_at.result c.change_at.ensures (c.loop-place.invariant.led cs whole are led)
    (LeadsOn c.in_ok-go_on.field-0 c.go_on.new.table made ns (drop (i + 1) cs) whole)
    (λ d is here. c.in_ok-go_on.ensures.led d (drop (i + 1) cs) whole is here))

pub add_last-requires-clause-fields : goal.add_last-requires-clause-fields
add_last-requires-clause-fields c = are-as (nodes c.loop-place.table) c.loop-place.fields.items c.as_slice.result.now c.as_slice.ensures.value c.loop-place.invariant.fields

pub returns-clause-made : goal.returns-clause-made
returns-clause-made c =
    let t = c.args.table.now in
    let u = c.loop-place.table in
    let made = c.loop-place.made.items in
    let ns = c.loop-place.fields.items in
    on_ok_weaker c.add_last.result
    (λ h cs whole are led.
    h whole (led-as u made ns [] whole c.as_slice.result.now c.as_slice.ensures.value (all-gone t u c.loop-place.invariant.grows c.args.changes.now cs are made ns whole c.loop-place.place (search arith) (c.loop-place.invariant.led cs whole are led))))
    c.add_last.ensures.made
