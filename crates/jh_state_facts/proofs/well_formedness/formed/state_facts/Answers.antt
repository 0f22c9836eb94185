use Rattle.std.proofs.Common.{List, ℕ, sym, subst}
use Rattle.jh_state_facts.specs.well_formedness.Facts.{AreFacts}
use Rattle.jh_state_facts.specs.well_formedness.Formed.{head_facts}
use Rattle.jh_state_facts.specs.well_formedness.States.{members_in}
use Rattle.jh_state_facts.proofs.well_formedness.FactSteps.{facts-grow}
use Rattle.jh_state_facts.proofs.well_formedness.formed.state_facts.Goals as goal

pub returns-clause-head : goal.returns-clause-head
returns-clause-head c =
    let fs = head_facts c.args.classes.now (members_in c.args.classes.now c.args.members.now) in
    subst (λ (xs : List ℕ). AreFacts c.tail_of.new.table xs fs) (sym c.of.ensures) (facts-grow c.head_of.new.table c.tail_of.new.table c.in_ok-head.head.items fs c.tail_of.ensures.grows c.in_ok-head.ensures.facts)
