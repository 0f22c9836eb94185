use Rattle.std.proofs.Common.{List, take}
use Rattle.jh_form.specs.Tree.{FormulaTree}
use Rattle.jh_instantiation.specs.instance_count.Grouping.{AreGroups, AreFormulas, single_groups}
use Rattle.jh_instantiation.proofs.instance_count.counting.groups_of.Given as goal

-- the groups are those of the formulas so far
abbrev pub invariant-loop-index : goal.invariant-loop-index
invariant-loop-index l = (fs : List FormulaTree) → AreFormulas l.table l.formulas fs → AreGroups l.table l.groups.items (single_groups (take l.index fs))
