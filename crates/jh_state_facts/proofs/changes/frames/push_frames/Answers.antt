use Rattle.std.proofs.Common.{map, subst, arith, slice_index_or}
use Rattle.jh_form.specs.Tree as tree
use Rattle.jh_arena.proofs.table.Listed.{extends-trans}
use Rattle.jh_command_terms.specs.jh_guard.Frames.{frame_fact}
use Rattle.jh_state_facts.specs.schemas.Meant.{name_in}
use Rattle.jh_state_facts.specs.well_formedness.Facts.{AddsFacts}
use Rattle.jh_state_facts.proofs.well_formedness.FactSteps.{adds-next, adds-all}
use Rattle.jh_state_facts.specs.changes.Added.{chosen_at}
use Rattle.jh_state_facts.proofs.changes.AddedSteps.{at-index, map-each}
use Rattle.jh_state_facts.proofs.changes.frames.push_frames.Goals as goal

pub loop-index-preserved : goal.loop-index-preserved
loop-index-preserved c =
    let t = c.loop-index.table in
    let u = c.push_frame_at.new.table in
    record {
      grows = extends-trans c.args.table.now t u c.loop-index.invariant.grows c.push_frame_at.ensures.grows;
      facts = λ classes.
          adds-next (λ i. map (frame_fact (tree.free_set (name_in c.args.old_alloc)) c.args.turn) (chosen_at classes c.args.members.now i)) (λ i. i) c.args.places.now (slice_index_or c.args.places.now c.loop-index.index 0) c.loop-index.index t u c.args.facts.now.items c.loop-index.facts.items c.push_frame_at.new.facts.items
          (at-index c.args.places.now c.loop-index.index 0 c.loop-index-test.true) c.push_frame_at.ensures.grows (c.loop-index.invariant.facts classes) (c.in_ok-push_frame_at.ensures.facts classes);
    }

pub returns-clause-facts : goal.returns-clause-facts
returns-clause-facts c = λ classes.
    let old_alloc = tree.free_set (name_in c.args.old_alloc) in
    subst (λ fs. AddsFacts c.loop-index.table c.args.facts.now.items c.loop-index.facts.items fs) (map-each (frame_fact old_alloc c.args.turn) (chosen_at classes c.args.members.now) c.args.places.now)
    (adds-all (λ i. map (frame_fact old_alloc c.args.turn) (chosen_at classes c.args.members.now i)) (λ i. i) c.args.places.now c.loop-index.index c.loop-index.table c.args.facts.now.items c.loop-index.facts.items (omega (arith, c.loop-index-test.false)) (c.loop-index.invariant.facts classes))
