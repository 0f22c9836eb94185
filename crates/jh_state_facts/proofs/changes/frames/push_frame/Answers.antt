use Rattle.jh_form.specs.Tree as tree
use Rattle.jh_command_terms.specs.jh_guard.Frames.{frame_fact}
use Rattle.jh_state_facts.specs.schemas.Meant.{name_in}
use Rattle.jh_state_facts.specs.well_formedness.States.{member_in}
use Rattle.jh_state_facts.proofs.well_formedness.FactSteps.{adds-one}
use Rattle.jh_state_facts.proofs.changes.frames.push_frame.Goals as goal

pub returns-clause-facts : goal.returns-clause-facts
returns-clause-facts c = λ classes.
    adds-one c.frame_fact.new.table c.args.facts.now.items c.push.new.self.items c.in_ok-fact.fact (frame_fact (tree.free_set (name_in c.args.old_alloc)) c.args.turn (member_in classes c.args.member.now)) c.in_ok-push.ensures.items (c.in_ok-fact.ensures.node classes)
