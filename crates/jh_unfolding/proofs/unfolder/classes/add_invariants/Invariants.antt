use Rattle.std.proofs.Common.{◌∷◌, [], map, drop}
use Rattle.std.specs.List.{flat_map}
use Rattle.jh_ast.specs.Forms.{LabelledPart}
use Rattle.jh_ast.specs.Bare.{labelled_part, class_part}
use Rattle.jh_vars.specs.Opened.{invariant_value}
use Rattle.jh_unfolding.specs.declared.unfolder.formulas.Gathered.{Gathered}
use Rattle.jh_unfolding.specs.unfolder.Adding.{program_of, IsReady, Adds}
use Rattle.jh_unfolding.proofs.unfolder.classes.add_invariants.Given as goal

-- what adds the rest adds all
abbrev pub invariant-loop-next : goal.invariant-loop-next
invariant-loop-next l = record {
  ready : IsReady l.gathered.table l.context;
  adds : (new : Gathered) → Adds (program_of l.context) l.gathered new (flat_map (λ (u : LabelledPart). (u.spec.number, invariant_value (program_of l.context) l.number (class_part l.class) u.spec.form) ∷ []) (map labelled_part (drop l.next-index l.invariants))) → Adds (program_of l.context) l.fn.gathered new (flat_map (λ (u : LabelledPart). (u.spec.number, invariant_value (program_of l.context) l.number (class_part l.class) u.spec.form) ∷ []) (map labelled_part l.invariants));
}
