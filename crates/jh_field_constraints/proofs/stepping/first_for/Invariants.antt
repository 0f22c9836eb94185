use Rattle.std.proofs.Common.{List, map}
use Rattle.jh_name.specs.declared.naming.Name.{Name}
use Rattle.jh_seq.specs.sequent.Sequents.{HypTree}
use Rattle.jh_reach.specs.Standing.{AreFormulas}
use Rattle.jh_field_constraints.specs.Standing.{IsNamed}
use Rattle.jh_field_constraints.proofs.Steps.{NoneBefore}
use Rattle.jh_field_constraints.proofs.stepping.first_for.Given as goal

-- none of the facts so far constrains it
abbrev pub invariant-loop-place : goal.invariant-loop-place
invariant-loop-place l = (f : Name) (hs : List HypTree) → IsNamed l.table l.field f → AreFormulas l.table l.facts (map (λ (h : HypTree). h.fact) hs) → NoneBefore f hs l.place
