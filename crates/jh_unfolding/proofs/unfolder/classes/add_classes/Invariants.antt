use Rattle.std.proofs.Common.{◌≡◌, map, drop}
use Rattle.jh_ast.specs.Bare.{class_part}
use Rattle.jh_vars.specs.Opened.{in_classes}
use Rattle.jh_unfolding.specs.declared.unfolder.formulas.Gathered.{Gathered}
use Rattle.jh_unfolding.specs.unfolder.Adding.{program_of, IsReady, Adds}
use Rattle.jh_unfolding.proofs.unfolder.classes.add_classes.Given as goal

-- what adds the rest adds all
abbrev pub invariant-loop-number : goal.invariant-loop-number
invariant-loop-number l = record {
  ready : IsReady l.visitor.gathered.table l.visitor.context;
  context : l.visitor.context ≡ l.fn.visitor.context;
  adds : (new : Gathered) → Adds (program_of l.fn.visitor.context) l.visitor.gathered new (in_classes (program_of l.fn.visitor.context) l.number (map class_part (drop l.number l.classes))) → Adds (program_of l.fn.visitor.context) l.fn.visitor.gathered new (in_classes (program_of l.fn.visitor.context) 0 (map class_part l.classes));
}
