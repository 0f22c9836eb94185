use Rattle.std.proofs.Common.{refl}
use Rattle.jh_arena.specs.table.Nodes.{fits}
use Rattle.jh_proof_builder.proofs.nodes.shape_of.Goals as goal

pub returns-else-node-len : goal.returns-else-node-len
unfolding fits
returns-else-node-len c = refl
