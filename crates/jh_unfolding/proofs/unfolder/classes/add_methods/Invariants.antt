use Rattle.std.proofs.Common.{◌≡◌, map, drop}
use Rattle.std.specs.List.{flat_map}
use Rattle.jh_ast.specs.Bare.{method_part}
use Rattle.jh_vars.specs.Opened.{in_method}
use Rattle.jh_unfolding.specs.declared.unfolder.formulas.Gathered.{Gathered}
use Rattle.jh_unfolding.specs.unfolder.Adding.{program_of, IsReady, Adds}
use Rattle.jh_unfolding.proofs.unfolder.classes.add_methods.Given as goal

-- what adds the rest adds all
abbrev pub invariant-loop-next : goal.invariant-loop-next
invariant-loop-next l = record {
  ready : IsReady l.visitor.gathered.table l.visitor.context;
  context : l.visitor.context ≡ l.fn.visitor.context;
  adds : (new : Gathered) → Adds (program_of l.fn.visitor.context) l.visitor.gathered new (flat_map (in_method (program_of l.fn.visitor.context) l.class) (map method_part (drop l.next-index l.methods))) → Adds (program_of l.fn.visitor.context) l.fn.visitor.gathered new (flat_map (in_method (program_of l.fn.visitor.context) l.class) (map method_part l.methods));
}
