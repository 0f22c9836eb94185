use Rattle.std.proofs.Common.{◌∙◌, sym}
use Rattle.jh_arena.specs.table.Nodes.{nodes}
use Rattle.jh_normal_forms.proofs.parts.Collections.{collected-one, grows-one}
use Rattle.jh_normal_forms.proofs.parts.finding.add_itself.Goals as goal

pub returns-in_ok-add-clause-found : goal.returns-in_ok-add-clause-found
returns-in_ok-add-clause-found g c =
    collected-one (nodes c.args.table.now) (g.T.PartTest.test c.args.test.now) c.args.list.now c.add.new.self c.args.node c.requires.inside (sym c.asks.ensures ∙ c.if-asks.true) c.in_ok-add.ensures.added

pub returns-in_ok-add-clause-grows : goal.returns-in_ok-add-clause-grows
returns-in_ok-add-clause-grows g c = grows-one c.args.list.now c.add.new.self c.args.node c.in_ok-add.ensures.added
