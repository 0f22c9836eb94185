use Rattle.std.proofs.Common.{List, map, take}
use Rattle.jh_form.specs.Tree.{TermTree}
use Rattle.jh_instantiation.specs.instance_count.Grouping.{AreFormulas}
use Rattle.jh_inst.specs.instances.Rounds.{AtHand}
use Rattle.jh_instantiation.specs.instances.Progressing.{AreAtHand}
use Rattle.jh_instantiation.proofs.instances.counting.formulas_of.Given as goal

-- the formulas of those before the place
abbrev pub invariant-loop-place : goal.invariant-loop-place
invariant-loop-place l = (ts : List TermTree) (hs : List AtHand) → AreAtHand l.table ts l.at_hand hs → AreFormulas l.table l.formulas.items (map (λ (h : AtHand). h.formula) (take l.place hs))
