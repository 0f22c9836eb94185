use Rattle.std.proofs.Common.{sym, subst}
use Rattle.jh_arena.specs.table.Nodes.{nodes}
use Rattle.jh_propagation.specs.propagation.Problems.{IsProblem}
use Rattle.jh_propagation.specs.propagation.Speaking.{Speaks}
use Rattle.jh_explanations.proofs.places.said_of.Goals as goal

pub spoken-requires-clause-problem : goal.spoken-requires-clause-problem
spoken-requires-clause-problem c = subst (λ t. IsProblem (nodes t) c.args.problem.now) (sym c.table.ensures) c.requires.problem

pub returns-clause-speaks : goal.returns-clause-speaks
returns-clause-speaks c = subst (λ t. Speaks (nodes t) (nodes c.args.problem.now.table) c.spoken.result c.args.literal) c.table.ensures c.spoken.ensures.speaks
