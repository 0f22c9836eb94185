use Rattle.std.proofs.Common.{sym, subst, true}
use Rattle.jh_arena.specs.table.Nodes.{nodes}
use Rattle.jh_propagation.specs.trail.Listing.{decided}
use Rattle.jh_propagation.specs.propagation.Speaking.{Speaks}
use Rattle.jh_propagation.proofs.propagation.Names.{yes-speaks, no-speaks}
use Rattle.jh_propagation.proofs.propagation.speaking.spoken.Goals as goal

pub returns-in-Some-clause-speaks : goal.returns-in-Some-clause-speaks
returns-in-Some-clause-speaks c = c.in-Some.ensures.speaks c.args.literal.holds

pub returns-then-literal-clause-speaks : goal.returns-then-literal-clause-speaks
returns-then-literal-clause-speaks c =
    subst (λ h. Speaks (nodes c.args.table.now) (nodes c.args.problem.now.table) (record { left = c.name.result; right = c.args.problem.now.yes; holds = true }) (decided c.args.literal.atom h)) (sym c.if-literal.true)
    (yes-speaks c.args.table.now c.args.problem.now c.requires.problem c.args.literal.atom c.requires.atom c.name.result c.name.ensures c.in-None.ensures.none)

pub returns-else-literal-clause-speaks : goal.returns-else-literal-clause-speaks
returns-else-literal-clause-speaks c =
    subst (λ h. Speaks (nodes c.args.table.now) (nodes c.args.problem.now.table) (record { left = c.name.result; right = c.args.problem.now.no; holds = true }) (decided c.args.literal.atom h)) (sym c.if-literal.false)
    (no-speaks c.args.table.now c.args.problem.now c.requires.problem c.args.literal.atom c.requires.atom c.name.result c.name.ensures c.in-None.ensures.none)

pub returns-in-Some-clause-equal : goal.returns-in-Some-clause-equal
returns-in-Some-clause-equal c = λ may. may c.in-Some.ensures.equation
