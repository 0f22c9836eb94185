use Rattle.std.proofs.Common.{subst}
use Rattle.jh_store.specs.memory.Held.{AreApart}
use Rattle.jh_store.proofs.memory.Apart.{are_apart}
use Rattle.jh_store.proofs.memory.names.Names.len.Goals as goal

-- src/names.rt:26:5
pub returns-clause-apart : goal.returns-clause-apart
returns-clause-apart c = subst AreApart c.self.view_is (are_apart c.self.inside.names.keys c.len.ensures.unique)
