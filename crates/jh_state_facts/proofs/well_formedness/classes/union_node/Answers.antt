use Rattle.jh_arena.proofs.table.Listed.{extends-trans}
use Rattle.jh_state_facts.specs.well_formedness.States.{texts_in}
use Rattle.jh_state_facts.proofs.well_formedness.ClassSteps.{joins-next}
use Rattle.jh_state_facts.proofs.well_formedness.classes.union_node.Goals as goal

pub loop-place-preserved : goal.loop-place-preserved
loop-place-preserved c =
    let t = c.loop-place.table in
    let u = c.set_node-in-loop-place.new.table in
    let v = c.union_of.new.table in
    record {
      grows = extends-trans c.args.table.now t v c.loop-place.invariant.grows (extends-trans t u v c.set_node-in-loop-place.ensures.grows c.union_of.ensures.grows);
      joins =
          joins-next t u v c.loop-place.made c.in_ok-set.set c.in_ok-made-2.made c.loop-place.place c.text_at-in-loop-place.result.now (texts_in c.args.texts.now) c.loop-place.invariant.joins c.text_at-in-loop-place.ensures
          c.set_node-in-loop-place.ensures.grows c.in_ok-set.ensures.node c.in_ok-made-2.ensures.node;
    }
