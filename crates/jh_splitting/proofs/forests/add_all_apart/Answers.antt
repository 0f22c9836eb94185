use Rattle.std.proofs.Common.{◌+◌, refl, ◌++◌, slice_get}
use Rattle.jh_arena.specs.table.Nodes.{nodes}
use Rattle.jh_arena.proofs.table.Listed.{extends-refl, extends-trans}
use Rattle.jh_seq.specs.splitting.Forests.{apart_from, all_apart}
use Rattle.jh_splitting.specs.Edges.{list_at, fields_from}
use Rattle.jh_splitting.proofs.Edging.{list-there, list-grows, holds-field, adding-end, adding-many}
use Rattle.jh_splitting.proofs.forests.add_all_apart.Goals as goal

pub loop-index-init : goal.loop-index-init
loop-index-init c = record { goals = λ fs gs h k. record { done = gs; paired = k; is = refl }; grows = extends-refl c.args.table.now }

pub field_of-requires : goal.field_of-requires
field_of-requires c = record { list = list-there c.loop-index.table c.args.list (list_at c.args.table.now c.args.list) (list-grows c.args.table.now c.loop-index.table c.args.list (list_at c.args.table.now c.args.list) c.loop-index.invariant.grows c.requires.list) }

pub returns-in-None-clause-goals : goal.returns-in-None-clause-goals
returns-in-None-clause-goals c = λ fs gs h k.
    adding-end c.loop-index.table c.loop-index.goals.items all_apart (fields_from c.loop-index.index fs) (gs ++ all_apart fs) refl
    (c.field_of.ensures.none c.in-None.is fs (list-grows c.args.table.now c.loop-index.table c.args.list fs c.loop-index.invariant.grows h)) (c.loop-index.invariant.goals fs gs h k)

pub add_apart_from-requires : goal.add_apart_from-requires
add_apart_from-requires c =
    let now = list-grows c.args.table.now c.loop-index.table c.args.list (list_at c.args.table.now c.args.list) c.loop-index.invariant.grows c.requires.list in
    let at = c.in-Some.ensures.some (list_at c.args.table.now c.args.list) now in
    record { list = list-there c.loop-index.table c.args.list (list_at c.args.table.now c.args.list) now; field = holds-field (slice_get (nodes c.loop-index.table) c.in-Some.field) at.0 at.1 }

pub loop-index-preserved : goal.loop-index-preserved
loop-index-preserved c = record {
  goals = λ fs gs h k.
      let now = list-grows c.args.table.now c.loop-index.table c.args.list fs c.loop-index.invariant.grows h in
      let at = c.in-Some.ensures.some fs now in
      let rest = fields_from (c.loop-index.index + 1) fs in
      let before = c.loop-index.invariant.goals fs gs h k in
      adding-many c.loop-index.table c.add_apart_from.new.table c.loop-index.goals.items c.add_apart_from.new.goals.items all_apart (fields_from c.loop-index.index fs) rest at.0 (apart_from at.0 rest) (gs ++ all_apart fs)
      at.2 refl before (λ p. c.in_ok-add_apart_from-in-Some.ensures.goals fs at.0 before.done now at.1 p);
  grows = extends-trans c.args.table.now c.loop-index.table c.add_apart_from.new.table c.loop-index.invariant.grows c.add_apart_from.ensures.grows;
}
