use Rattle.std.proofs.Common.{subst, List, [], take, arith}
use Rattle.std.specs.List.{flat_map}
use Rattle.std.proofs.lemmas.List.{take_all}
use Rattle.std.proofs.lemmas.Option.{slice_get_within}
use Rattle.jh_form.specs.Tree.{ValueTree}
use Rattle.jh_arena.specs.table.Nodes.{nodes}
use Rattle.jh_arena.proofs.table.Listed.{extends-refl, extends-trans}
use Rattle.jh_reach.specs.Axioms.{BackboneTree}
use Rattle.jh_local_form.proofs.updates.Places.{value-at, values-length}
use Rattle.jh_local_form.specs.field_lists.Leading.{AreBackbones, led_of, with_backbones}
use Rattle.jh_local_form.proofs.field_lists.Standing.{changes-grow, backbones-none}
use Rattle.jh_local_form.proofs.field_lists.Reached.{led-next}
use Rattle.jh_local_form.proofs.field_lists.reaching.backbones.Goals as goal

pub loop-place-init : goal.loop-place-init
loop-place-init c = record { made = λ cs vs are values. backbones-none c.args.table.now c.new-made.result.items c.new-made.ensures.items; grows = extends-refl c.args.table.now }

pub add_lists_of-requires-clause-node : goal.add_lists_of-requires-clause-node
add_lists_of-requires-clause-node c =
    let v = value-at (nodes c.args.table.now) c.args.formulas.now c.requires.formulas.0 c.loop-place.place c.at.result c.requires.formulas.1 c.at.ensures in
    slice_get_within (nodes c.loop-place.table) c.at.result v.0 (c.loop-place.invariant.grows.nodes.keeps c.at.result v.0 v.2)

pub add_lists_of-requires-clause-changes : goal.add_lists_of-requires-clause-changes
add_lists_of-requires-clause-changes c =
    (c.requires.changes.0, changes-grow (nodes c.args.table.now) (nodes c.loop-place.table) c.loop-place.invariant.grows.nodes c.args.changes.now c.requires.changes.0 c.requires.changes.1)

pub add_lists_of-requires-clause-made : goal.add_lists_of-requires-clause-made
add_lists_of-requires-clause-made c = (_, c.loop-place.invariant.made c.requires.changes.0 c.requires.formulas.0 c.requires.changes.1 c.requires.formulas.1)

pub loop-place-preserved : goal.loop-place-preserved
loop-place-preserved c =
    let t0 = c.args.table.now in
    let t1 = c.loop-place.table in
    let t2 = c.add_lists_of.new.table in
    let i = c.loop-place.place in
    record {
      made = λ cs vs are values.
          let v = value-at (nodes t0) c.args.formulas.now vs i c.at.result values c.at.ensures in
          subst (λ (bs : List BackboneTree). AreBackbones t2 c.add_lists_of.new.made.items bs) (led-next cs vs i v.0 v.1)
          (c.in_ok-add_lists_of.ensures.made cs v.0 (with_backbones [] (flat_map (led_of cs) (take i vs)))
          (changes-grow (nodes t0) (nodes t1) c.loop-place.invariant.grows.nodes c.args.changes.now cs are)
          (c.loop-place.invariant.grows.nodes.keeps c.at.result v.0 v.2) (c.loop-place.invariant.made cs vs are values));
      grows = extends-trans t0 t1 t2 c.loop-place.invariant.grows c.add_lists_of.ensures.grows;
    }

pub returns-clause-made : goal.returns-clause-made
returns-clause-made c = λ cs vs are values.
    let long = values-length (nodes c.args.table.now) c.args.formulas.now vs values in
    subst (λ (ws : List ValueTree). AreBackbones c.loop-place.table c.loop-place.made.items (with_backbones [] (flat_map (led_of cs) ws))) {y = vs} (take_all c.loop-place.place vs (search (arith, long)))
    (c.loop-place.invariant.made cs vs are values)
