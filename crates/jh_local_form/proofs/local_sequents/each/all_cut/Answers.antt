use Rattle.std.proofs.Common.{arith}
use Rattle.jh_arena.specs.table.Nodes.{nodes}
use Rattle.jh_arena.proofs.table.Listed.{extends-refl, extends-trans}
use Rattle.jh_reach.proofs.Standings.{formulas-none}
use Rattle.jh_normal_forms.specs.declared.rebuilding.polarity.Polarity.TheVariants as pol
use Rattle.jh_normal_forms.specs.set_opening.SetsOpened.{sets_opened}
use Rattle.jh_fca.specs.cutting.Cut.{cut}
use Rattle.jh_local_form.proofs.local_sequents.Forms.{truth-there, each-next, each-all}
use Rattle.jh_local_form.proofs.local_sequents.each.all_cut.Goals as goal

pub loop-place-init : goal.loop-place-init
loop-place-init c = record {
  made = λ all are. formulas-none c.args.table.now c.new-made.result.items c.new-made.ensures.items;
  grows = extends-refl c.args.table.now;
}

pub cut_one-requires : goal.cut_one-requires
cut_one-requires c =
    record { formula = truth-there c.args.table.now c.loop-place.table c.loop-place.invariant.grows c.args.facts.now c.requires.facts.0 c.loop-place.place c.node_at.result c.requires.facts.1 c.node_at.ensures }

pub loop-place-preserved : goal.loop-place-preserved
loop-place-preserved c = record {
  made = λ all are. each-next c.args.table.now c.loop-place.table c.cut_one.new.table c.loop-place.invariant.grows c.cut_one.ensures.grows (λ a. cut (sets_opened a) pol.Negative) c.args.facts.now all c.loop-place.place c.node_at.result c.in_ok-node.node c.loop-place.made.items c.push.new.self.items are c.node_at.ensures
      (c.loop-place.invariant.made all are) (λ a at. c.in_ok-node.ensures.node a at) c.in_ok-push.ensures.items;
  grows = extends-trans c.args.table.now c.loop-place.table c.cut_one.new.table c.loop-place.invariant.grows c.cut_one.ensures.grows;
}

pub returns-clause-all : goal.returns-clause-all
returns-clause-all c = λ all are. each-all c.args.table.now c.loop-place.table (λ a. cut (sets_opened a) pol.Negative) c.args.facts.now all c.loop-place.place c.loop-place.made.items are (search arith) (c.loop-place.invariant.made all are)
