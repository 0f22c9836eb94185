use Rattle.std.proofs.Common.{rules, ◌≡◌, sym}
use Rattle.jh_sem.proofs.Walks.{edge-listed, row-inside}
use Rattle.jh_sem.proofs.graph.target.Goals as goal

pub returns-clause-edge : goal.returns-clause-edge
returns-clause-edge c =
    sym (edge-listed c.args.fields.now c.args.place c.row_at.result.now c.args.at c.row_at.ensures)

pub returns-clause-inside : goal.returns-clause-inside
returns-clause-inside c =
    row-inside c.args.last c.args.fields.now c.args.place c.row_at.result.now c.args.at c.requires.rows c.row_at.ensures c.requires.at
