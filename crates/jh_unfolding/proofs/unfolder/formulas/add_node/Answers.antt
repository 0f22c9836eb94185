use Rattle.jh_unfolding.proofs.unfolder.Addings.{on-ok, holds-note}
use Rattle.jh_unfolding.proofs.unfolder.formulas.add_node.Goals as goal

pub returns-clause-adds : goal.returns-clause-adds
returns-clause-adds c = on-ok c.note.result (λ noted p v at ys h. holds-note p c.args.gathered.now.table c.args.gathered.now.places c.note.new.self c.args.number c.args.node v noted at ys h) c.note.ensures
