use Rattle.std.proofs.Common.{◌++◌, List, map, take}
use Rattle.jh_form.specs.Tree.{FormulaTree}
use Rattle.jh_arena.specs.table.Nodes.{nodes}
use Rattle.jh_ground_input.specs.Standing.{IsApart, bare_at}
use Rattle.jh_ground_input.proofs.facts.add_facts.Given as goal

-- the first facts were added
abbrev pub invariant-loop-place : goal.invariant-loop-place
invariant-loop-place l = (fs : List FormulaTree) → IsApart l.initial.apart fs → IsApart l.apart (fs ++ map (bare_at (nodes l.from)) (take l.place l.facts))
