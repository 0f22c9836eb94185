use Rattle.std.proofs.Common.{subst}
use Rattle.jh_arena.specs.table.Nodes.{nodes}
use Rattle.jh_propagation.specs.trail.Looks.{IsSought}
use Rattle.jh_propagation.specs.trail.Saying.{truth_at}
use Rattle.jh_propagation.proofs.trail.Reasoning.{or-both}
use Rattle.jh_propagation.proofs.trail.reasons.+sought.Goals as goal

pub sought_or-returns : goal.sought_or-returns
sought_or-returns τ c =
    let ts = nodes c.args.table.now in
    let ds = c.args.trail.now in
    let a = truth_at ts c.args.a in
    let b = truth_at ts c.args.b in
    let old = c.args.places.now.items in
    let mid = c.sought_in.new.places.items in
    let new = c.sought_in-2.new.places.items in
    or-both ts ds c.args.except c.args.before a b old mid new
    (subst (IsSought ts ds c.args.except c.args.before a old mid) c.if-not-branch.false c.in_ok-sought_in.ensures)
    (subst (IsSought ts ds c.args.except c.args.before b mid new) c.if-not-branch-2.false c.in_ok-sought_in-2.ensures)
