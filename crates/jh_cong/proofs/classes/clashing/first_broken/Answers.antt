use Rattle.std.proofs.Common.{◌≡◌, ℕ, false, Some, slice_get, arith}
use Rattle.jh_closure.specs.congruence_closure.Nodes.{Follows}
use Rattle.jh_closure.proofs.congruence_closure.Having.{place-of}
use Rattle.jh_cong.specs.declared.classes.literal.Said.{Said}
use Rattle.jh_cong.proofs.classes.Looking.{looked-all}
use Rattle.jh_cong.proofs.classes.clashing.first_broken.Goals as goal

pub returns-clause-none : goal.returns-clause-none
returns-clause-none c e h off =
    let r = place-of c.args.said.now e h in
    looked-all (λ (k : ℕ). (x : Said) → slice_get c.args.said.now k ≡ Some x → x.holds ≡ false → Follows c.args.closure.now.nodes c.args.closure.now.said x.left x.right → ⊥) c.args.denied.now c.loop-index.index (omega (arith, c.loop-index)) c.loop-index.invariant r.0
    (c.requires.listed r.0 e r.1 off) e r.1 off
