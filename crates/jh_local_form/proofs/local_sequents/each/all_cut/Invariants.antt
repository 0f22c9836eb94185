use Rattle.std.proofs.Common.{List, map, take}
use Rattle.jh_form.specs.Tree.{FormulaTree}
use Rattle.jh_arena.specs.table.Growth.{Extends}
use Rattle.jh_reach.specs.Standing.{AreFormulas}
use Rattle.jh_normal_forms.specs.declared.rebuilding.polarity.Polarity.TheVariants as pol
use Rattle.jh_normal_forms.specs.set_opening.SetsOpened.{sets_opened}
use Rattle.jh_fca.specs.cutting.Cut.{cut}
use Rattle.jh_local_form.proofs.local_sequents.each.all_cut.Given as goal

-- the first formulas, one by one
abbrev pub invariant-loop-place : goal.invariant-loop-place
invariant-loop-place l = record {
  made : (all : List FormulaTree) → AreFormulas l.initial.table l.facts all → AreFormulas l.table l.made.items (map (λ a. cut (sets_opened a) pol.Negative) (take l.place all));
  grows : Extends l.initial.table l.table;
}
