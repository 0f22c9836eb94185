use Rattle.std.proofs.Common.{sym, ◌∙◌}
use Rattle.jh_arena.specs.table.Nodes.{nodes}
use Rattle.jh_prove.specs.prover.Memos.{found}
use Rattle.jh_prove.proofs.prover.Bareness.{holds-grow, holds-note}
use Rattle.jh_prove.proofs.prover.unlabelling.without_labels.Goals as goal

pub returns-in-Some-clause-node : goal.returns-in-Some-clause-node
returns-in-Some-clause-node c = c.requires.memo.at c.args.node c.in-Some.answer (sym c.known.ensures ∙ c.in-Some.is)

pub returns-in_ok-note-in-None-clause-memo : goal.returns-in_ok-note-in-None-clause-memo
returns-in_ok-note-in-None-clause-memo c =
    let us = nodes c.made_without_labels.new.table in
    holds-note us (found c.args.memo.now.answers) (found c.note.new.self.answers) c.args.node c.in_ok-answer-in-None.answer
    (holds-grow (nodes c.args.table.now) us c.made_without_labels.ensures.grows.nodes (found c.args.memo.now.answers) c.requires.memo)
    c.in_ok-answer-in-None.ensures.node c.in_ok-note-in-None.ensures.others
