use Rattle.std.proofs.Common.{◌≡◌, false, arith}
use Rattle.jh_closure.specs.congruence_closure.Nodes.{Follows}
use Rattle.jh_cong.specs.declared.classes.literal.Said.{Said}
use Rattle.jh_cong.proofs.classes.Looking.{looked-all}
use Rattle.jh_cong.proofs.classes.clashing.first_new.Goals as goal

pub returns-clause-none : goal.returns-clause-none
returns-clause-none c =
    looked-all (λ (e : Said). e.holds ≡ false → Follows c.args.closure.now.nodes c.args.closure.now.said e.left e.right → ⊥) c.args.said.now c.loop-place.place (omega (arith, c.loop-place, c.requires.count)) c.loop-place.invariant
