use Rattle.std.proofs.Common.{[], List, ℕ, subst}
use Rattle.std.specs.List.{flat_map}
use Rattle.jh_semantics.specs.WellFormed.{static_facts}
use Rattle.jh_state_facts.specs.well_formedness.Facts.{AddsFacts}
use Rattle.jh_state_facts.specs.well_formedness.Formed.{set_facts}
use Rattle.jh_state_facts.specs.well_formedness.States.{members_in}
use Rattle.jh_state_facts.proofs.well_formedness.FactSteps.{adds-two}
use Rattle.jh_state_facts.proofs.well_formedness.FormedSteps.{added-to-none}
use Rattle.jh_state_facts.proofs.well_formedness.formed.head_of.Goals as goal

pub returns-clause-facts : goal.returns-clause-facts
returns-clause-facts c =
    let t1 = c.push_sets.new.table in
    let t2 = c.push_statics.new.table in
    let f1 = c.push_sets.new.facts.items in
    let f2 = c.push_statics.new.facts.items in
    let members = members_in c.args.classes.now c.args.members.now in
    let first = subst (λ (xs : List ℕ). AddsFacts t1 xs f1 (set_facts c.args.classes.now)) c.new-facts.ensures.items c.in_ok-push_sets.ensures.facts in
    added-to-none t2 f2 _ (adds-two t1 t2 [] f1 f2 (set_facts c.args.classes.now) (flat_map (static_facts c.args.classes.now) members) first c.push_statics.ensures.grows c.in_ok-push_statics.ensures.facts)
