use Rattle.std.proofs.Common.{ap, ◌∙◌, Some, slice_get, arith}
use Rattle.jh_form.specs.Tree.{of_truth}
use Rattle.jh_arena.specs.table.Nodes.{nodes}
use Rattle.jh_arena.proofs.table.Listed.{extends-refl, extends-trans}
use Rattle.jh_reach.proofs.Standings.{formulas-none}
use Rattle.jh_fca.specs.local_form.Named.{named}
use Rattle.jh_local_form.specs.updates.Remaining.{naming-grows}
use Rattle.jh_local_form.proofs.local_sequents.Forms.{truth-there, each-next, each-all, truth-of}
use Rattle.jh_local_form.proofs.local_sequents.each.all_named.Goals as goal

pub loop-place-init : goal.loop-place-init
loop-place-init c = record {
  made = λ us facts is are. formulas-none c.args.table.now c.new-made.result.items c.new-made.ensures.items;
  grows = extends-refl c.args.table.now;
}

pub named-requires-clause-formula : goal.named-requires-clause-formula
named-requires-clause-formula c =
    truth-there c.args.table.now c.loop-place.table c.loop-place.invariant.grows c.args.formulas.now c.requires.formulas.0 c.loop-place.place c.node_at.result c.requires.formulas.1 c.node_at.ensures

pub named-requires-clause-names : goal.named-requires-clause-names
named-requires-clause-names c = (c.requires.names.0, naming-grows c.args.table.now c.loop-place.table c.loop-place.invariant.grows c.args.names.now c.requires.names.0 c.requires.names.1)

pub loop-place-preserved : goal.loop-place-preserved
loop-place-preserved c = record {
  made = λ us facts is are. each-next c.args.table.now c.loop-place.table c.named.new.table c.loop-place.invariant.grows c.named.ensures.grows (named us c.args.names.now.first) c.args.formulas.now facts c.loop-place.place c.node_at.result c.in_ok-node.node c.loop-place.made.items c.push.new.self.items are c.node_at.ensures
      (c.loop-place.invariant.made us facts is are) (λ a at. c.in_ok-node.ensures.tree us (naming-grows c.args.table.now c.loop-place.table c.loop-place.invariant.grows c.args.names.now us is) ∙ ap (λ b. Some (of_truth (named us c.args.names.now.first b))) (truth-of (slice_get (nodes c.loop-place.table) c.node_at.result) a at)) c.in_ok-push.ensures.items;
  grows = extends-trans c.args.table.now c.loop-place.table c.named.new.table c.loop-place.invariant.grows c.named.ensures.grows;
}

pub returns-clause-all : goal.returns-clause-all
returns-clause-all c = λ us facts is are. each-all c.args.table.now c.loop-place.table (named us c.args.names.now.first) c.args.formulas.now facts c.loop-place.place c.loop-place.made.items are (search arith) (c.loop-place.invariant.made us facts is are)
