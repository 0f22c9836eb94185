use Rattle.std.proofs.Common.{map, drop}
use Rattle.std.specs.List.{flat_map}
use Rattle.jh_ast.specs.Bare.{var_part}
use Rattle.jh_definitions.specs.jh_resolution.Spots.{spot_of}
use Rattle.jh_vars.specs.Opened as opened
use Rattle.jh_ast.specs.Programs.{VarPart}
use Rattle.jh_unfolding.specs.declared.unfolder.formulas.Gathered.{Gathered}
use Rattle.jh_unfolding.specs.unfolder.Adding.{program_of, IsReady, Adds}
use Rattle.jh_unfolding.proofs.unfolder.classes.add_inits.Given as goal

-- what adds the rest adds all
abbrev pub invariant-loop-next : goal.invariant-loop-next
invariant-loop-next l = record {
  ready : IsReady l.gathered.table l.context;
  adds : (new : Gathered) → Adds (program_of l.context) l.gathered new (flat_map (λ (u : VarPart). opened.valued_some (program_of l.context) (spot_of l.at) u.init) (map var_part (drop l.next-index l.vars))) → Adds (program_of l.context) l.fn.gathered new (flat_map (λ (u : VarPart). opened.valued_some (program_of l.context) (spot_of l.at) u.init) (map var_part l.vars));
}
