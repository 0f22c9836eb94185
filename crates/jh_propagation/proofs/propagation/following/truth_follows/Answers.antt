use Rattle.std.proofs.Common.{refl, sym, true, false}
use Rattle.std.proofs.lemmas.Bool.{true≢false}
use Rattle.jh_arena.specs.table.Nodes.{nodes}
use Rattle.jh_propagation.specs.trail.Listing.{decided}
use Rattle.jh_propagation.specs.propagation.Resting.{IsUntold}
use Rattle.jh_propagation.proofs.propagation.Implied.{entailed-told, may-both}
use Rattle.jh_propagation.proofs.propagation.Names.{yes-speaks, no-speaks}
use Rattle.jh_propagation.proofs.propagation.Resting.{either-way}
use Rattle.jh_propagation.proofs.propagation.following.truth_follows.Goals as goal

pub same-requires : goal.same-requires
same-requires c = (yes-speaks c.args.branch.now.classes.table c.args.problem.now c.requires.branch.problem c.args.atom c.requires.atom c.name-name.result c.name-name.ensures c.requires.no_equation).can

pub same-requires-else-same : goal.same-requires-else-same
same-requires-else-same c = (no-speaks c.args.branch.now.classes.table c.args.problem.now c.requires.branch.problem c.args.atom c.requires.atom c.name-name.result c.name-name.ensures c.requires.no_equation).can

pub returns-then-same-clause-some : goal.returns-then-same-clause-some
returns-then-same-clause-some c =
    let a = c.args.branch.now.classes in
    let ts = nodes c.args.problem.now.table in
    let speaks = yes-speaks a.table c.args.problem.now c.requires.branch.problem c.args.atom c.requires.atom c.name-name.result c.name-name.ensures c.requires.no_equation in
    (may-both ts c.args.atom true c.requires.no_equation, entailed-told (nodes a.table) ts a.said c.name-name.result c.args.problem.now.yes (decided c.args.atom true) speaks (c.if-same.ensures.0 refl))

pub returns-then-same-2-clause-some : goal.returns-then-same-2-clause-some
returns-then-same-2-clause-some c =
    let a = c.args.branch.now.classes in
    let ts = nodes c.args.problem.now.table in
    let speaks = no-speaks a.table c.args.problem.now c.requires.branch.problem c.args.atom c.requires.atom c.name-name.result c.name-name.ensures c.requires.no_equation in
    (may-both ts c.args.atom false c.requires.no_equation, entailed-told (nodes a.table) ts a.said c.name-name.result c.args.problem.now.no (decided c.args.atom false) speaks (c.if-same-2.ensures.0 refl))

pub returns-else-same-2-clause-none : goal.returns-else-same-2-clause-none
returns-else-same-2-clause-none c =
    let a = c.args.branch.now.classes in
    let ts = nodes c.args.problem.now.table in
    let first = yes-speaks a.table c.args.problem.now c.requires.branch.problem c.args.atom c.requires.atom c.name-name.result c.name-name.ensures c.requires.no_equation in
    let second = no-speaks a.table c.args.problem.now c.requires.branch.problem c.args.atom c.requires.atom c.name-name.result c.name-name.ensures c.requires.no_equation in
    either-way (λ q. IsUntold (nodes a.table) ts a.said (decided c.args.atom q))
    (record { left = c.name-name.result; right = c.args.problem.now.yes; speaks = first; apart = λ h. true≢false (sym (c.if-same.ensures.1 h)) })
    (record { left = c.name-name.result; right = c.args.problem.now.no; speaks = second; apart = λ h. true≢false (sym (c.if-same-2.ensures.1 h)) })
