use Rattle.std.proofs.Common.{subst, sym}
use Rattle.jh_outline.specs.jh_method_commands.environment.Outlines.{program_in, writes_in}
use Rattle.jh_obligations.specs.program_sequents.Owed.{IsOwnWhy}
use Rattle.jh_obligations.specs.program_sequents.Owing.{owing_in}
use Rattle.jh_obligations.specs.declared.program_sequents.fault.LogicError.{LogicError}
use Rattle.jh_obligations.proofs.program_sequents.Shown.{none-there, owes, owes-many}
use Rattle.jh_obligations.proofs.program_sequents.listed.owed.Goals as goal

-- src/listed.rt
pub returns-in-Err-clause-why : goal.returns-in-Err-clause-why
returns-in-Err-clause-why c =
    subst (λ (e : LogicError). IsOwnWhy (program_in c.args.outline.now) (writes_in c.args.outline.now) (owing_in c.args.owner.now) e) (sym c.fault_of.ensures)
    (owes-many c.args.outline.now c.in-Some.method c.args.owner.now.id c.args.owner.now.name.now c.in-Some.ensures.some.0 c.in-Some.ensures.some.1 c.in-Err.fault c.in-Err.ensures.fault)

-- src/listed.rt
pub returns-in-Ok-clause-owed : goal.returns-in-Ok-clause-owed
returns-in-Ok-clause-owed c =
    let h = c.in-Ok.ensures.sequents in
    owes c.args.outline.now c.in-Some.method c.args.owner.now.id c.args.owner.now.name.now c.in-Some.ensures.some.0 c.in-Some.ensures.some.1 c.method_sequents.new.table c.in-Ok.made h.0 h.1 h.2 c.in-Ok.ensures.few c.in-Ok.ensures.of_method

-- src/listed.rt
pub unreachable-requires : goal.unreachable-requires
unreachable-requires c = c.requires.there (none-there c.args.outline.now (record { class = c.args.owner.now.id.class; name = c.args.owner.now.name.now }) (c.callable.ensures.none c.in-None.is))
