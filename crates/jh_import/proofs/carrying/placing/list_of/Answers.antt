use Rattle.jh_arena.proofs.table.Lists.{list-lacks}
use Rattle.jh_import.proofs.carrying.placing.list_of.Goals as goal

pub returns-in-None-clause-listed : goal.returns-in-None-clause-listed
returns-in-None-clause-listed c = λ h. absurd (list-lacks c.args.shape c.in-None.ensures h)
