use Rattle.std.proofs.Common.{length}
use Rattle.jh_operators.proofs.lookahead.modifying.+allowed.Given as goal

abbrev pub decreases-allowed : goal.decreases-allowed
decreases-allowed l = length l.symbols.now
