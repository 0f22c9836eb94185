use Rattle.std.proofs.Common.{[], List, map, take}
use Rattle.indexmap.specs.IndexSet.{insert_all}
use Rattle.jh_form.specs.Passing.{name_equal}
use Rattle.jh_seq.specs.sequent.Sequents.{HypTree}
use Rattle.jh_reach.specs.Standing.{AreFormulas}
use Rattle.jh_fca.specs.elimination.Derived.{constrained}
use Rattle.jh_field_constraints.specs.Standing.{AreNames}
use Rattle.jh_field_constraints.proofs.fields.constrained.Given as goal

-- those of the first facts
abbrev pub invariant-loop-place : goal.invariant-loop-place
invariant-loop-place l = (hs : List HypTree) → AreFormulas l.table l.facts (map (λ (h : HypTree). h.fact) hs) → AreNames l.table l.list (insert_all name_equal [] (constrained (take l.place hs)))
