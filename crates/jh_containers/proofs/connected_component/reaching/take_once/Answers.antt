use Rattle.jh_containers.proofs.connected_component.Passes.{more-none}
use Rattle.jh_containers.proofs.connected_component.reaching.take_once.Goals as goal

pub returns-else-is_new : goal.returns-else-is_new
returns-else-is_new c = more-none c.args.rows.now c.args.known.now.numbers.keys
