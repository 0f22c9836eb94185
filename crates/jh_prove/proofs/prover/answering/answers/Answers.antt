use Rattle.jh_arena.specs.table.Nodes.{nodes}
use Rattle.jh_prove.specs.prover.Memos.{found}
use Rattle.jh_prove.proofs.prover.Bareness.{holds-none}
use Rattle.jh_prove.proofs.prover.answering.answers.Goals as goal

pub add_answers-requires-clause-memo : goal.add_answers-requires-clause-memo
add_answers-requires-clause-memo c = holds-none (nodes c.args.table.now) (found c.new-memo.result.answers) c.new-memo.ensures

pub add_answers-requires-clause-seen : goal.add_answers-requires-clause-seen
add_answers-requires-clause-seen c = c.new-seen.ensures (nodes c.args.table.now)
