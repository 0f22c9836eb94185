use Rattle.jh_closure.proofs.congruence_closure.Having.{has-at}
use Rattle.jh_cong.proofs.classes.clashing.is_broken_at.Goals as goal

pub is_broken-requires-clause-left : goal.is_broken-requires-clause-left
is_broken-requires-clause-left c = c.requires.left c.said_at.result (has-at c.args.said.now c.args.place c.said_at.result c.said_at.ensures)

pub is_broken-requires-clause-right : goal.is_broken-requires-clause-right
is_broken-requires-clause-right c = c.requires.right c.said_at.result (has-at c.args.said.now c.args.place c.said_at.result c.said_at.ensures)
