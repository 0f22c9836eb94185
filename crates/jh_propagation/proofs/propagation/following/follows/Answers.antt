use Rattle.std.proofs.Common.{refl, sym, subst, true}
use Rattle.std.proofs.lemmas.Bool.{true≢false}
use Rattle.jh_arena.specs.table.Nodes.{nodes}
use Rattle.jh_propagation.specs.trail.Listing.{decided}
use Rattle.jh_propagation.specs.propagation.Problems.{IsProblem}
use Rattle.jh_propagation.specs.propagation.Resting.{IsUntold}
use Rattle.jh_propagation.specs.propagation.Speaking.{Speaks}
use Rattle.jh_propagation.proofs.propagation.Implied.{entailed-told}
use Rattle.jh_propagation.proofs.propagation.following.follows.Goals as goal

pub named_sides-requires-clause-problem : goal.named_sides-requires-clause-problem
named_sides-requires-clause-problem c = subst (λ t. IsProblem (nodes t) c.args.problem.now) (sym c.table.ensures) c.requires.branch.problem

pub same-requires : goal.same-requires
same-requires c = (subst (λ t. Speaks (nodes t) (nodes c.args.problem.now.table) (record { left = c.in-Some.left; right = c.in-Some.right; holds = true }) (decided c.args.atom true)) c.table.ensures (c.in-Some.ensures.speaks true)).can

pub returns-then-same-clause-some : goal.returns-then-same-clause-some
returns-then-same-clause-some c =
    let a = c.args.branch.now.classes in
    let ts = nodes c.args.problem.now.table in
    let speaks = subst (λ t. Speaks (nodes t) ts (record { left = c.in-Some.left; right = c.in-Some.right; holds = true }) (decided c.args.atom true)) c.table.ensures (c.in-Some.ensures.speaks true) in
    ((λ e. refl), entailed-told (nodes a.table) ts a.said c.in-Some.left c.in-Some.right (decided c.args.atom true) speaks (c.if-same.ensures.0 refl))

pub returns-else-same-clause-none : goal.returns-else-same-clause-none
returns-else-same-clause-none c =
    let a = c.args.branch.now.classes in
    let ts = nodes c.args.problem.now.table in
    let speaks = subst (λ t. Speaks (nodes t) ts (record { left = c.in-Some.left; right = c.in-Some.right; holds = true }) (decided c.args.atom true)) c.table.ensures (c.in-Some.ensures.speaks true) in
    λ holds may. subst (λ q. IsUntold (nodes a.table) ts a.said (decided c.args.atom q)) (sym (may c.in-Some.ensures.equation))
    (record { left = c.in-Some.left; right = c.in-Some.right; speaks = speaks; apart = λ h. true≢false (sym (c.if-same.ensures.1 h)) })
