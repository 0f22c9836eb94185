use Rattle.std.proofs.Common.{◌<◌, length, arith}
use Rattle.jh_arena.specs.table.Nodes.{nodes}
use Rattle.jh_models.specs.ground_models.Atoms.{atoms_of}
use Rattle.jh_closure.proofs.congruence_closure.Oks.{on-ok-then}
use Rattle.jh_propagation.specs.trail.Saying.{truth_at}
use Rattle.jh_propagation.proofs.trail.Shaped.{inside}
use Rattle.jh_propagation.proofs.trail.Gathering.{added-both}
use Rattle.jh_propagation.proofs.trail.occurring.+gather.Goals as goal

pub gather-note-requires-clause-inside : goal.gather-note-requires-clause-inside
gather-note-requires-clause-inside τ c =
    let l : c.in-Literal.literal.atom < length (nodes c.args.table.now) = inside (nodes c.args.table.now) c.in-Literal.literal.atom c.in-Literal.ensures.parts in
    omega (arith, l, c.requires.long)

pub gather_both-returns-clause-added : goal.gather_both-returns-clause-added
gather_both-returns-clause-added τ c =
    let ts = nodes c.args.table.now in
    on-ok-then c.gather-2.result
    (λ f. added-both ts c.args.place (atoms_of (truth_at ts c.args.a)) (atoms_of (truth_at ts c.args.b)) c.args.found.now.rows.items c.gather.new.found.rows.items c.gather-2.new.found.rows.items c.in_ok-gather.ensures.added f)
    c.gather-2.ensures.added
