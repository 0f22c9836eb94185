use Rattle.std.proofs.lemmas.Option.{slice_get_within}
use Rattle.std.proofs.Common.{slice_get}
use Rattle.jh_form.specs.Tree.{of_truth}
use Rattle.jh_arena.specs.table.Nodes.{nodes}
use Rattle.jh_arena.proofs.table.Children.{it-is-truth}
use Rattle.jh_propagation.specs.trail.Saying.{truth_at}
use Rattle.jh_propagation.proofs.propagation.problem.parts_of.Goals as goal

pub atoms_of-requires : goal.atoms_of-requires
atoms_of-requires c =
    let ts = nodes c.args.table.now in
    record { atoms = λ k h. slice_get_within ts k (of_truth (truth_at ts k)) (it-is-truth (slice_get ts k) (c.in_ok-ground.ensures.truths k h)) }
