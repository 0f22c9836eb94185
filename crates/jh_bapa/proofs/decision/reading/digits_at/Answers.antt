use Rattle.std.proofs.Common.{Bool, List, ap, ◌∙◌}
use Rattle.jh_digits.specs.solver.Solution as system
use Rattle.jh_query.specs.queries.Sizing.{spelled}
use Rattle.jh_bapa.proofs.decision.Spelling.{spelled-column}
use Rattle.jh_bapa.proofs.decision.reading.digits_at.Goals as goal

pub returns : goal.returns
returns c = ap spelled c.in_ok-row.ensures ∙ spelled-column c.items.result.now c.args.column ∙ ap (λ (ls : List (List Bool)). system.spelled ls c.args.column) c.items.ensures
