use Rattle.jh_effects.proofs.written_state.Rowing.{rows-empty}
use Rattle.jh_effects.proofs.written_state.rows.Rows.none.Goals as goal

-- src/rows.rt
pub returns-clause-none : goal.returns-clause-none
returns-clause-none c = rows-empty c.loop-thing.rows.items c.loop-thing.invariant.empty
