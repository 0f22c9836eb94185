use Rattle.std.proofs.Common.{sym, subst}
use Rattle.jh_arena.specs.table.Nodes.{nodes}
use Rattle.jh_propagation.specs.trail.Occurring.{AreOccurrences}
use Rattle.jh_propagation.proofs.trail.Gathering.{all-occurrences}
use Rattle.jh_propagation.proofs.trail.occurring.Ground.new.Goals as goal

pub returns : goal.returns
returns c =
    let ts = nodes c.args.table.now in
    let found = c.in_ok-found.found in
    subst (AreOccurrences ts c.args.instances.now) (sym c.ground_of.ensures)
    (all-occurrences ts c.args.instances.now found.atoms.items found.rows.items c.nodes_differ.ensures.different c.in_ok-found.ensures.gathered c.in_ok-found.ensures.begun)
