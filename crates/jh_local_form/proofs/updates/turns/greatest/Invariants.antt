use Rattle.std.proofs.Common.{◌≡◌, List, take}
use Rattle.jh_form.specs.Tree.{FormulaTree}
use Rattle.jh_reach.specs.Standing.{AreFormulas}
use Rattle.jh_fca.specs.local_form.Named.{first_turn}
use Rattle.jh_local_form.proofs.updates.turns.greatest.Given as goal

-- the first turn beyond those of the first formulas
abbrev pub invariant-loop-place : goal.invariant-loop-place
invariant-loop-place l = (facts : List FormulaTree) → AreFormulas l.table l.formulas facts → l.first ≡ first_turn (take l.place facts)
