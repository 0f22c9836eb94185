use Rattle.std.proofs.Common.{◌++◌, subst}
use Rattle.jh_arena.specs.table.Nodes.{nodes}
use Rattle.jh_cong.specs.classes.Saying.{Asserted, IsUnmet, picked}
use Rattle.jh_cong.proofs.classes.Answering.{state-met}
use Rattle.jh_cong.proofs.classes.Oks.{on-ok-always}
use Rattle.jh_cong.proofs.classes.classes.Classes.assert.Goals as goal

pub returns-clause-met : goal.returns-clause-met
returns-clause-met c = on-ok-always c.add.result (state-met c.add.new.state c.add.ensures.state)

pub returns-clause-conflict : goal.returns-clause-conflict
returns-clause-conflict c listed e = subst (λ (t : Asserted). IsUnmet (nodes t.table) (picked (t.said ++ c.args.said.now) listed)) c.self.view_is (c.add.ensures.conflict listed e)
