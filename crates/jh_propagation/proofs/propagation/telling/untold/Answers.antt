use Rattle.std.proofs.Common.{sym, subst, IfOk, drop, length}
use Rattle.jh_arena.specs.table.Nodes.{nodes}
use Rattle.jh_propagation.specs.propagation.Problems.{IsProblem}
use Rattle.jh_propagation.specs.propagation.Speaking.{AreSpoken}
use Rattle.jh_propagation.proofs.propagation.telling.untold.Goals as goal

pub spoken_from-requires-clause-problem : goal.spoken_from-requires-clause-problem
spoken_from-requires-clause-problem c = subst (λ t. IsProblem (nodes t) c.args.problem.now) (sym c.table.ensures) c.requires.branch.problem

pub spoken_from-requires-clause-atoms : goal.spoken_from-requires-clause-atoms
spoken_from-requires-clause-atoms c = c.requires.branch.over_atoms

pub returns : goal.returns
returns c =
    subst (λ t. IfOk c.spoken_from.result (λ made. AreSpoken (nodes t) (nodes c.args.problem.now.table) (drop (length c.args.branch.now.classes.said) c.args.branch.now.trail) made.items)) c.table.ensures
    (subst (λ n. IfOk c.spoken_from.result (λ made. AreSpoken (nodes c.table.result.now) (nodes c.args.problem.now.table) (drop n c.args.branch.now.trail) made.items)) c.len.ensures c.spoken_from.ensures)
