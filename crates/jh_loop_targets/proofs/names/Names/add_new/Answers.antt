use Rattle.jh_loop_targets.proofs.Enterings.{entered}
use Rattle.jh_loop_targets.proofs.names.Names.add_new.Goals as goal

pub returns : goal.returns
returns c = entered c.args.self.now.sorts.entries c.insert.new.self.entries c.args.text c.args.sort c.requires c.in_ok-insert.ensures.entries
