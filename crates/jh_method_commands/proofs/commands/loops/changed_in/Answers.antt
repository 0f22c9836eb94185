use Rattle.std.proofs.Common.{refl}
use Rattle.jh_method_commands.proofs.commands.OutlinedSteps.{the-outline}
use Rattle.jh_method_commands.proofs.commands.SideSteps.{if-ok}
use Rattle.jh_method_commands.proofs.commands.LoopSteps.{tells, are-states}
use Rattle.jh_method_commands.specs.environment.Outlines.{source_of, program_in, writes_in}
use Rattle.jh_method_commands.proofs.commands.loops.changed_in.Goals as goal

pub returns-clause-names : goal.returns-clause-names
returns-clause-names c =
    let o = c.args.outline.now in
    let t = c.args.table.now in
    if-ok c.changed_by.result (λ found h. h (source_of o) (program_in o) (writes_in o) (tells o t _ (the-outline t o c.requires) refl refl refl refl) (are-states o t _ (the-outline t o c.requires) refl refl)) c.changed_by.ensures.names

pub returns-clause-sets : goal.returns-clause-sets
returns-clause-sets c =
    let o = c.args.outline.now in
    let t = c.args.table.now in
    if-ok c.changed_by.result (λ found h. h (source_of o) (program_in o) (writes_in o) (tells o t _ (the-outline t o c.requires) refl refl refl refl) (are-states o t _ (the-outline t o c.requires) refl refl)) c.changed_by.ensures.sets
