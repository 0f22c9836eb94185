use Rattle.std.proofs.Common.{List, ℕ, ◌∙◌, ap, map, Some, sym, subst}
use Rattle.jh_form.specs.Tree.{of_truth}
use Rattle.jh_arena.specs.makers.Joined.{joined}
use Rattle.jh_state_facts.specs.well_formedness.Facts.{AreFacts}
use Rattle.jh_state_facts.specs.well_formedness.Formed.{formed_facts}
use Rattle.jh_state_facts.specs.well_formedness.States.{members_in, local_of}
use Rattle.jh_state_facts.proofs.well_formedness.FactSteps.{if-ok}
use Rattle.jh_state_facts.proofs.well_formedness.FormedSteps.{facts-at, formed-are}
use Rattle.jh_state_facts.proofs.well_formedness.formed.well_formed.Goals as goal

pub returns-clause-node : goal.returns-clause-node
returns-clause-node c = λ p e f.
    let u = c.all_facts.new.table in
    let members = members_in c.args.classes.now c.args.members.now in
    let scope = map local_of c.args.scope.now in
    let fs = formed_facts c.args.classes.now members scope c.args.this in
    let are = subst (λ (xs : List ℕ). AreFacts u xs fs) (sym c.as_slice.ensures.value) c.in_ok-all.ensures.facts in
    if-ok c.conjunction_of.result
    (λ made node. node ∙ ap (λ gs. Some (of_truth (joined gs))) (facts-at u c.as_slice.result.now fs are ∙ formed-are p c.args.classes.now members scope c.args.this e f))
    c.conjunction_of.ensures.node
