use Rattle.jh_obligations.proofs.program_sequents.Counted.{owed-little, little-much, first-one}
use Rattle.jh_obligations.proofs.program_sequents.laws.too_many_is_exact.Goals as goal

pub returns-clause-little : goal.returns-clause-little
returns-clause-little c = owed-little

pub returns-clause-much : goal.returns-clause-much
returns-clause-much c = little-much

pub returns-clause-first : goal.returns-clause-first
returns-clause-first c = first-one
