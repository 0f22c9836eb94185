use Rattle.std.proofs.Common.{subst, ℕ, List}
use Rattle.jh_closure.specs.congruence_closure.Nodes.{Has}
use Rattle.jh_closure.proofs.congruence_closure.Having.{has-at}
use Rattle.jh_propagation.proofs.propagation.problem.names_of.Goals as goal

pub carry_all-requires : goal.carry_all-requires
carry_all-requires c = record { inside = λ place node e. c.requires.atoms node (subst (λ (xs : List ℕ). Has xs node) c.atoms-atoms.ensures (has-at c.atoms-atoms.result.now place node e)) }
