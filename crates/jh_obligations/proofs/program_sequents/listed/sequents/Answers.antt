use Rattle.std.proofs.Common.{sym, ◌∙◌, ap, subst, List, map}
use Rattle.jh_outline.specs.jh_method_commands.environment.Outlines.{program_in}
use Rattle.jh_obligations.specs.program_sequents.Owed.{AreThere}
use Rattle.jh_obligations.specs.program_sequents.Owing.{Owing, owing_in}
use Rattle.jh_obligations.proofs.program_sequents.listed.sequents.Goals as goal

-- src/listed.rt
pub all_owed-requires-clause-there : goal.all_owed-requires-clause-there
all_owed-requires-clause-there c =
    subst (λ (list : List Owing). AreThere (program_in c.args.outline.now) list) (sym (ap (map owing_in) c.as_slice.ensures.value ∙ c.in_ok-owners.ensures)) c.requires.there
