-- Which nodes stand for the formulas of a sequent.
use Rattle.std.specs.Prelude.{◌≡◌, map, Some, slice_get}
use Rattle.jh_form.specs.Tree.{of_truth}
use Rattle.jh_arena.specs.table.Entries.{Listing}
use Rattle.jh_arena.specs.table.Nodes.{nodes}
use Rattle.jh_reach.specs.Standing.{AreFormulas}
use Rattle.jh_seq.specs.sequent.Sequents.{SequentTree}
use Rattle.jh_local_form.specs.declared.local_sequents.forming.LocalForm.{LocalForm}

-- The facts of a sequent's hypotheses stand at these nodes, one for each, in the same order, and its goal at this one.
pub record IsFormed (t : Listing) (form : LocalForm) (s : SequentTree) : Type 0 where
  pub facts : AreFormulas t form.facts (map (λ h. h.fact) s.hyps)
  pub goal : slice_get (nodes t) form.goal ≡ Some (of_truth s.goal)
