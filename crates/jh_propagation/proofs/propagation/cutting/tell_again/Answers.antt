use Rattle.std.proofs.Common.{sym, ap, ◌∙◌, subst, List, ◌++◌, Err}
use Rattle.jh_closure.specs.congruence_closure.Nodes.{Has}
use Rattle.jh_arena.specs.table.Nodes.{nodes}
use Rattle.jh_cong.specs.classes.Saying.{Asserted, IsUnmet}
use Rattle.jh_cong.specs.classes.Saying as cong
use Rattle.jh_cong.specs.declared.classes.literal.Said.{Said}
use Rattle.jh_propagation.specs.propagation.Problems.{IsProblem}
use Rattle.jh_propagation.specs.propagation.Speaking.{AreSpoken}
use Rattle.jh_propagation.proofs.propagation.Levels.{never-unmet}
use Rattle.jh_propagation.proofs.propagation.Saids.{spoken-can}
use Rattle.jh_propagation.proofs.propagation.cutting.tell_again.Goals as goal

pub spoken_from-requires-clause-problem : goal.spoken_from-requires-clause-problem
spoken_from-requires-clause-problem c = subst (λ t. IsProblem (nodes t) c.args.problem.now) (sym c.table-table.ensures) c.requires.problem

pub assert-requires : goal.assert-requires
assert-requires c = λ e g.
    spoken-can (nodes c.args.branch.now.classes.table) (nodes c.args.problem.now.table) c.args.branch.now.trail c.in_ok-said.said.items
    (subst (λ t. AreSpoken (nodes t) (nodes c.args.problem.now.table) c.args.branch.now.trail c.in_ok-said.said.items) c.table-table.ensures c.in_ok-said.ensures)
    e (subst (λ (xs : List Said). Has xs e) c.as_slice.ensures.value g)

pub unreachable-requires : goal.unreachable-requires
unreachable-requires c =
    let b = c.args.branch.now in
    let ts = nodes b.classes.table in
    let places = c.in-Err-Conflict.field-0-0 in
    let unmet = c.assert.ensures.conflict places (c.in-Err-Conflict.is ∙ ap (λ z. Err z) c.in-Err-Conflict.field-0-is) in
    never-unmet ts (nodes c.args.problem.now.table) b.trail c.in_ok-said.said.items places
    (subst (λ t. AreSpoken (nodes t) (nodes c.args.problem.now.table) b.trail c.in_ok-said.said.items) c.table-table.ensures c.in_ok-said.ensures)
    c.requires.met
    (subst (λ X. X) (λ i. IsUnmet ts (cong.picked (c.requires.said i ++ c.as_slice.ensures.value i) places)) unmet)
