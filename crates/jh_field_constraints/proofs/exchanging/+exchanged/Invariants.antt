use Rattle.std.proofs.Common.{◌+◌, ◌*◌, length}
use Rattle.jh_field_constraints.proofs.exchanging.+exchanged.Given as goal

-- the terms that are left
abbrev pub decreases-exchanged : goal.decreases-exchanged
decreases-exchanged l = 2 * length l.reads.now

abbrev pub decreases-first_exchanged : goal.decreases-first_exchanged
decreases-first_exchanged l = 2 * length l.rest.now + 1
