use Rattle.std.proofs.Common.{ap, ◌∙◌, nat_eq, arith}
use Rattle.indexmap.specs.IndexSet.{insert_key}
use Rattle.jh_arena.specs.table.Nodes.{nodes}
use Rattle.jh_arena.proofs.table.Listed.{extends-refl, extends-trans}
use Rattle.jh_local_form.specs.updates.Remaining.{updates-grow}
use Rattle.jh_local_form.proofs.updates.Places.{values-none}
use Rattle.jh_local_form.proofs.updates.Apart.{noted-next}
use Rattle.jh_local_form.proofs.updates.Noted.{field-there, names-next, naming-all}
use Rattle.jh_local_form.proofs.updates.naming.names.Goals as goal

pub loop-place-init : goal.loop-place-init
loop-place-init c = record {
  updates = ap (λ n. n.updates) c.new-naming.ensures;
  names = λ us are. values-none (nodes c.args.table.now) c.new-naming.result.names (ap (λ n. n.names) c.new-naming.ensures);
  first = ap (λ n. n.first) c.new-naming.ensures;
  grows = extends-refl c.args.table.now;
}

pub add_name-requires : goal.add_name-requires
add_name-requires c =
    let us = c.requires.updates.0 in
    let are = updates-grow (nodes c.args.table.now) (nodes c.loop-place.table) c.loop-place.invariant.grows.nodes c.args.updates.now us c.requires.updates.1 in
    field-there (nodes c.loop-place.table) c.args.updates.now us c.loop-place.place c.at-update.result are c.at-update.ensures

pub loop-place-preserved : goal.loop-place-preserved
loop-place-preserved c =
    let t0 = nodes c.args.table.now in
    let t1 = nodes c.loop-place.table in
    let t2 = nodes c.add_name.new.table in
    record {
      updates = c.in_ok-add_name.ensures.updates ∙ ap (λ ks. insert_key nat_eq ks c.at-update.result) c.loop-place.invariant.updates
          ∙ noted-next t0 c.args.updates.now c.requires.updates.0 c.loop-place.place c.at-update.result c.requires.updates.1.are c.requires.updates.1.differ c.at-update.ensures;
      names = λ us are. names-next t0 t1 t2 c.loop-place.invariant.grows.nodes c.add_name.ensures.grows.nodes c.args.updates.now us c.loop-place.place c.at-update.result c.args.first c.loop-place.naming.first c.loop-place.naming.names c.add_name.new.naming.names are c.at-update.ensures
          c.loop-place.invariant.first (c.loop-place.invariant.names us are) c.in_ok-add_name.ensures.names;
      first = c.in_ok-add_name.ensures.first ∙ c.loop-place.invariant.first;
      grows = extends-trans c.args.table.now c.loop-place.table c.add_name.new.table c.loop-place.invariant.grows c.add_name.ensures.grows;
    }

pub returns-clause-names : goal.returns-clause-names
returns-clause-names c = λ us are.
    naming-all c.args.table.now c.loop-place.table c.loop-place.invariant.grows c.args.updates.now us c.loop-place.place c.args.first c.loop-place.naming are (search arith) c.loop-place.invariant.updates c.loop-place.invariant.first (c.loop-place.invariant.names us are)
