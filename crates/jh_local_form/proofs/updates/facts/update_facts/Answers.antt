use Rattle.std.proofs.Common.{subst, List, take, length, arith, map}
use Rattle.std.specs.List.{flat_map}
use Rattle.std.proofs.lemmas.List.{take_all, length-map}
use Rattle.jh_form.specs.Tree.{ValueTree}
use Rattle.jh_arena.specs.table.Nodes.{nodes}
use Rattle.jh_arena.proofs.table.Listed.{extends-refl, extends-trans}
use Rattle.jh_reach.specs.Standing.{AreFormulas}
use Rattle.jh_reach.proofs.Standings.{formulas-none}
use Rattle.jh_fca.specs.local_form.Named.{update_fact}
use Rattle.jh_local_form.specs.updates.Updating.{named_as}
use Rattle.jh_local_form.specs.updates.Remaining.{naming-grows}
use Rattle.jh_local_form.proofs.updates.Renamed.{update-there, all-named}
use Rattle.jh_local_form.proofs.updates.Told.{told-next}
use Rattle.jh_local_form.proofs.updates.facts.update_facts.Goals as goal

pub loop-place-init : goal.loop-place-init
loop-place-init c = record {
  told = λ us is. formulas-none c.args.table.now c.new-facts.result.items c.new-facts.ensures.items;
  grows = extends-refl c.args.table.now;
}

pub add_fact-requires-clause-names : goal.add_fact-requires-clause-names
add_fact-requires-clause-names c = (c.requires.names.0, naming-grows c.args.table.now c.loop-place.table c.loop-place.invariant.grows c.args.names.now c.requires.names.0 c.requires.names.1)

pub loop-place-preserved : goal.loop-place-preserved
loop-place-preserved c =
    let t0 = c.args.table.now in
    let t1 = c.loop-place.table in
    let t2 = c.add_fact.new.table in
    let n = c.args.names.now in
    record {
      told = λ us is.
          let now = naming-grows t0 t1 c.loop-place.invariant.grows n us is in
          let u = update-there t0 n us is c.loop-place.place (search arith) in
          told-next t2 (update_fact us n.first) us c.loop-place.place u.0 c.add_fact.new.facts.items u.1 (c.in_ok-add_fact.ensures.fact us u.0 (flat_map (update_fact us n.first) (take c.loop-place.place us)) now u.1 (c.loop-place.invariant.told us is));
      grows = extends-trans t0 t1 t2 c.loop-place.invariant.grows c.add_fact.ensures.grows;
    }

pub returns-clause-facts : goal.returns-clause-facts
returns-clause-facts c = λ us is.
    subst (λ (vs : List ValueTree). AreFormulas c.loop-place.table c.loop-place.facts.items (flat_map (update_fact us c.args.names.now.first) vs)) (take_all c.loop-place.place us (all-named c.args.table.now c.args.names.now us is c.loop-place.place (search arith)))
    (c.loop-place.invariant.told us is)
