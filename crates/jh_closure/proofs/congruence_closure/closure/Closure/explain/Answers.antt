use Rattle.std.proofs.Common.{◌<◌, sym, subst, List, length}
use Rattle.jh_closure.specs.congruence_closure.Closing.{IsTrail}
use Rattle.jh_closure.specs.congruence_closure.Levels.{Asserted}
use Rattle.jh_closure.specs.congruence_closure.Nodes.{Follows, FollowsFrom}
use Rattle.jh_closure.specs.declared.congruence_closure.node.Node.{Node}
use Rattle.jh_closure.proofs.congruence_closure.Completing.{follows-same}
use Rattle.jh_closure.proofs.congruence_closure.Leveling.{settled-now}
use Rattle.jh_closure.proofs.congruence_closure.closure.Closure.explain.Goals as goal

pub explain-requires-clause-same : goal.explain-requires-clause-same
explain-requires-clause-same c =
    follows-same c.self.inside.state.nodes.items c.self.inside.state.said.items c.self.inside.state.core.forest.merges c.self.inside.state.core.table.nodes.entries (settled-now c.self.inside.state.nodes.items c.self.inside.state.said.items c.self.inside.state.core.forest.merges c.self.inside.state.core.table.nodes.entries c.self.inside.state.marks.items c.self.invariant.opened.levels c.self.invariant.count c.self.invariant.merges c.self.invariant.entries) c.args.left c.args.right
    (subst (λ (t : Asserted). Follows t.nodes t.said c.args.left c.args.right) (sym c.self.view_is) (c.same.ensures.0 c.if-not-same.false))

pub explain-requires-clause-trail : goal.explain-requires-clause-trail
explain-requires-clause-trail c = (c.self.inside.state.said.items, subst (λ (ns : List Node). IsTrail ns c.self.inside.state.said.items c.self.inside.state.core.forest.merges) (sym c.as_slice.ensures.value) (settled-now c.self.inside.state.nodes.items c.self.inside.state.said.items c.self.inside.state.core.forest.merges c.self.inside.state.core.table.nodes.entries c.self.inside.state.marks.items c.self.invariant.opened.levels c.self.invariant.count c.self.invariant.merges c.self.invariant.entries).trail)

pub returns-clause-some : goal.returns-clause-some
returns-clause-some c =
    subst (λ (t : Asserted). FollowsFrom t.nodes t.said c.in_ok-listed.listed.items c.args.left c.args.right) c.self.view_is
    (subst (λ (ns : List Node). FollowsFrom ns c.self.inside.state.said.items c.in_ok-listed.listed.items c.args.left c.args.right) c.as_slice.ensures.value
    (c.in_ok-listed.ensures.follows c.self.inside.state.said.items (subst (λ (ns : List Node). IsTrail ns c.self.inside.state.said.items c.self.inside.state.core.forest.merges) (sym c.as_slice.ensures.value) (settled-now c.self.inside.state.nodes.items c.self.inside.state.said.items c.self.inside.state.core.forest.merges c.self.inside.state.core.table.nodes.entries c.self.inside.state.marks.items c.self.invariant.opened.levels c.self.invariant.count c.self.invariant.merges c.self.invariant.entries).trail)))

pub returns-clause-numbers : goal.returns-clause-numbers
returns-clause-numbers c i w =
    subst (λ (t : Asserted). i < length t.said) c.self.view_is
    (c.in_ok-listed.ensures.numbers c.self.inside.state.said.items (subst (λ (ns : List Node). IsTrail ns c.self.inside.state.said.items c.self.inside.state.core.forest.merges) (sym c.as_slice.ensures.value) (settled-now c.self.inside.state.nodes.items c.self.inside.state.said.items c.self.inside.state.core.forest.merges c.self.inside.state.core.table.nodes.entries c.self.inside.state.marks.items c.self.invariant.opened.levels c.self.invariant.count c.self.invariant.merges c.self.invariant.entries).trail) i w)
