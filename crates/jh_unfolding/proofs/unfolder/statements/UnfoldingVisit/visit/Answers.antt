use Rattle.std.proofs.Common.{refl}
use Rattle.jh_unfolding.proofs.unfolder.Addings.{on-ok}
use Rattle.jh_unfolding.proofs.unfolder.statements.UnfoldingVisit.visit.Goals as goal

pub returns-clause-visited : goal.returns-clause-visited
returns-clause-visited c = on-ok c.add_statement.result (λ h. record { context = refl; adds = h }) c.add_statement.ensures.adds
