use Rattle.std.proofs.Common.{◌+◌, refl, ◌++◌, slice_get}
use Rattle.jh_arena.specs.table.Nodes.{nodes}
use Rattle.jh_arena.proofs.table.Listed.{extends-refl, extends-trans}
use Rattle.jh_seq.specs.splitting.Forests.{no_cycles, no_cycle_at}
use Rattle.jh_splitting.specs.Edges.{list_at, fields_from}
use Rattle.jh_splitting.proofs.Edging.{list-there, list-grows, holds-field, adding-end, adding-one}
use Rattle.jh_splitting.proofs.forests.add_cycles.Goals as goal

pub loop-index-init : goal.loop-index-init
loop-index-init c = record { goals = λ fs gs h k. record { done = gs; paired = k; is = refl }; grows = extends-refl c.args.table.now }

pub field_of-requires : goal.field_of-requires
field_of-requires c = record { list = list-there c.loop-index.table c.args.list (list_at c.args.table.now c.args.list) (list-grows c.args.table.now c.loop-index.table c.args.list (list_at c.args.table.now c.args.list) c.loop-index.invariant.grows c.requires.list) }

pub returns-in-None-clause-goals : goal.returns-in-None-clause-goals
returns-in-None-clause-goals c = λ fs gs h k.
    adding-end c.loop-index.table c.loop-index.goals.items (no_cycles fs) (fields_from c.loop-index.index fs) (gs ++ no_cycles fs fs) refl
    (c.field_of.ensures.none c.in-None.is fs (list-grows c.args.table.now c.loop-index.table c.args.list fs c.loop-index.invariant.grows h)) (c.loop-index.invariant.goals fs gs h k)

pub no_cycle-requires : goal.no_cycle-requires
no_cycle-requires c =
    let now = list-grows c.args.table.now c.loop-index.table c.args.list (list_at c.args.table.now c.args.list) c.loop-index.invariant.grows c.requires.list in
    let at = c.in-Some.ensures.some (list_at c.args.table.now c.args.list) now in
    record { list = list-there c.loop-index.table c.args.list (list_at c.args.table.now c.args.list) now; field = holds-field (slice_get (nodes c.loop-index.table) c.in-Some.field) at.0 at.1 }

pub loop-index-preserved : goal.loop-index-preserved
loop-index-preserved c = record {
  goals = λ fs gs h k.
      let now = list-grows c.args.table.now c.loop-index.table c.args.list fs c.loop-index.invariant.grows h in
      let at = c.in-Some.ensures.some fs now in
      adding-one c.loop-index.table c.no_cycle.new.table c.loop-index.goals.items c.push.new.self.items (no_cycles fs) (fields_from c.loop-index.index fs) (fields_from (c.loop-index.index + 1) fs) at.0 c.in_ok-goal-in-Some.goal (no_cycle_at fs at.0) (gs ++ no_cycles fs fs)
      c.no_cycle.ensures.grows at.2 refl (c.in_ok-goal-in-Some.ensures.node fs at.0 now at.1) c.in_ok-push-in-Some.ensures.items (c.loop-index.invariant.goals fs gs h k);
  grows = extends-trans c.args.table.now c.loop-index.table c.no_cycle.new.table c.loop-index.invariant.grows c.no_cycle.ensures.grows;
}
