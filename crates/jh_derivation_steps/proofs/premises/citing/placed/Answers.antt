use Rattle.jh_arena.specs.table.Nodes.{nodes}
use Rattle.std.proofs.Common.{sym, ◌∙◌}
use Rattle.jh_derivation_steps.specs.premises.Nodes.{base_at}
use Rattle.jh_derivation_steps.proofs.premises.Cited.{no-member, member-there, member-given}
use Rattle.jh_derivation_steps.proofs.premises.citing.placed.Goals as goal

pub told-requires-clause-member : goal.told-requires-clause-member
told-requires-clause-member c = member-there c.args.table.now c.args.fields.now c.args.place c.in-Some.member c.requires.fields (sym c.item_at.ensures ∙ c.in-Some.is)

pub returns-in-None-clause-rule : goal.returns-in-None-clause-rule
returns-in-None-clause-rule c = λ fs are.
    let t0 = c.args.table.now in
    no-member t0 (nodes t0) c.args.fields.now fs c.args.place (base_at (nodes t0) c.args.place c.args.update) are (sym c.item_at.ensures ∙ c.in-None.is)

pub returns-in-Some-clause-rule : goal.returns-in-Some-clause-rule
returns-in-Some-clause-rule c = λ fs are.
    member-given c.args.table.now (nodes c.told.new.table) c.args.fields.now fs c.args.place c.base_of-base.result.place c.in-Some.member c.args.update c.told.result are (sym c.item_at.ensures ∙ c.in-Some.is) c.base_of-base.ensures.place (c.told.ensures.rule fs are)
