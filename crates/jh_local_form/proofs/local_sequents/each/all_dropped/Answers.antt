use Rattle.std.proofs.Common.{ap, ◌∙◌, Some, slice_get, arith}
use Rattle.jh_form.specs.Tree.{of_truth}
use Rattle.jh_arena.specs.table.Nodes.{nodes}
use Rattle.jh_arena.proofs.table.Listed.{extends-refl, extends-trans}
use Rattle.jh_reach.proofs.Standings.{formulas-none}
use Rattle.jh_normal_forms.specs.idle_updates.Dropped.{dropped}
use Rattle.jh_local_form.proofs.local_sequents.Forms.{truth-there, each-next, each-all, truth-of}
use Rattle.jh_local_form.proofs.local_sequents.each.all_dropped.Goals as goal

pub loop-place-init : goal.loop-place-init
loop-place-init c = record {
  made = λ facts are. formulas-none c.args.table.now c.new-made.result.items c.new-made.ensures.items;
  grows = extends-refl c.args.table.now;
}

pub dropped-requires : goal.dropped-requires
dropped-requires c =
    record { formula = truth-there c.args.table.now c.loop-place.table c.loop-place.invariant.grows c.args.formulas.now c.requires.formulas.0 c.loop-place.place c.node_at.result c.requires.formulas.1 c.node_at.ensures }

pub loop-place-preserved : goal.loop-place-preserved
loop-place-preserved c = record {
  made = λ facts are. each-next c.args.table.now c.loop-place.table c.dropped.new.table c.loop-place.invariant.grows c.dropped.ensures.grows dropped c.args.formulas.now facts c.loop-place.place c.node_at.result c.in_ok-node.node c.loop-place.made.items c.push.new.self.items are c.node_at.ensures
      (c.loop-place.invariant.made facts are) (λ a at. c.in_ok-node.ensures.tree ∙ ap (λ b. Some (of_truth (dropped b))) (truth-of (slice_get (nodes c.loop-place.table) c.node_at.result) a at)) c.in_ok-push.ensures.items;
  grows = extends-trans c.args.table.now c.loop-place.table c.dropped.new.table c.loop-place.invariant.grows c.dropped.ensures.grows;
}

pub returns-clause-all : goal.returns-clause-all
returns-clause-all c = λ facts are. each-all c.args.table.now c.loop-place.table dropped c.args.formulas.now facts c.loop-place.place c.loop-place.made.items are (search arith) (c.loop-place.invariant.made facts are)
