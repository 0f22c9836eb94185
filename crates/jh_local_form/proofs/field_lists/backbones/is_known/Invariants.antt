use Rattle.std.proofs.Common.{◌≡◌, List, drop}
use Rattle.jh_form.specs.Tree.{FieldTree}
use Rattle.jh_reach.specs.Axioms.{BackboneTree}
use Rattle.jh_reach.specs.Standing.{AreFields}
use Rattle.jh_local_form.specs.field_lists.Leading.{AreBackbones, has_list}
use Rattle.jh_local_form.proofs.field_lists.backbones.is_known.Given as goal

-- the list is among all where it is among those that are left
abbrev pub invariant-loop-place : goal.invariant-loop-place
invariant-loop-place l = (bs : List BackboneTree) (fs : List FieldTree) → AreBackbones l.table l.made bs → AreFields l.table l.fields fs → has_list (drop l.place bs) fs ≡ has_list bs fs
