use Rattle.std.proofs.Common.{Some}
use Rattle.jh_arena.specs.table.Nodes.{nodes}
use Rattle.jh_reach.specs.Axioms.{BackboneTree}
use Rattle.jh_reach.specs.Based.{IsBaseAt}
use Rattle.jh_reach.proofs.Standings.{fields-grow}
use Rattle.jh_derivation_steps.specs.premises.Nodes.{field_at, base_at}
use Rattle.jh_derivation_steps.proofs.premises.Cited.{fields-still, base-sorted, there-grows, told-given}
use Rattle.jh_derivation_steps.proofs.premises.citing.told.Goals as goal

pub axiom_at-requires-clause-fields : goal.axiom_at-requires-clause-fields
axiom_at-requires-clause-fields c = fields-still c.args.table.now c.needed.new.table c.needed.ensures.grows c.args.fields.now c.requires.fields

pub axiom_at-requires-clause-base : goal.axiom_at-requires-clause-base
axiom_at-requires-clause-base c =
    base-sorted c.args.table.now c.needed.new.table c.needed.ensures.grows c.args.base (base_at (nodes c.args.table.now) c.args.base.place c.args.update) c.requires.base

pub returns-clause-rule : goal.returns-clause-rule
unfolding IsBaseAt
returns-clause-rule c = λ fs are.
    let t0 = c.args.table.now in
    let t1 = c.needed.new.table in
    let u = base_at (nodes t0) c.args.base.place c.args.update in
    let b : BackboneTree = record { fields = fs; base = Some u } in
    let made = c.in_ok-made.ensures.made b (fields-grow t0 t1 c.args.fields.now fs c.needed.ensures.grows are) (there-grows t0 t1 c.needed.ensures.grows c.args.base u c.requires.base) in
    told-given t1 c.axiom_at.new.table c.axiom_at.ensures.grows fs u (field_at (nodes t0) c.args.member) c.in_ok-needs.needs c.in_ok-made.made c.adding.result
    c.in_ok-needs.ensures.needs c.in_ok-needs.ensures.there made (c.adding.ensures.rule (nodes c.axiom_at.new.table)) (c.adding.ensures.there (nodes c.axiom_at.new.table))
