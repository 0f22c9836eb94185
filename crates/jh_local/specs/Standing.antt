-- Literals whose atoms are formulas of a table.
use Rattle.std.specs.Prelude.{◌≡◌, ℕ, true, List, Some, slice_get}
use Rattle.jh_form.specs.Tree.{ValueTree}
use Rattle.jh_arena.specs.table.Entries.{is_truth}
use Rattle.jh_propagation.specs.declared.trail.decided.Decided.{Decided}
use Rattle.jh_instance_proofs.specs.jh_search.declared.turn.ClosedBranch.{ClosedBranch}

abbrev pub AreFormulas : List ValueTree → List Decided → Type 0
AreFormulas ts ds = (i : ℕ) (d : Decided) → slice_get ds i ≡ Some d → is_truth (slice_get ts d.atom) ≡ true

pub record HasFormulas (ts : List ValueTree) (b : ClosedBranch) : Type 0 where
  pub decisions : AreFormulas ts b.decisions.items
  pub explanation : AreFormulas ts b.explanation.items

abbrev pub EachFormulas : List ValueTree → List ClosedBranch → Type 0
EachFormulas ts bs = (i : ℕ) (b : ClosedBranch) → slice_get bs i ≡ Some b → HasFormulas ts b
