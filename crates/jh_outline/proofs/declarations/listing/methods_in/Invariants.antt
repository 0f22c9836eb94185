use Rattle.std.proofs.Common.{◌≡◌, ◌++◌, map, drop}
use Rattle.jh_ast.specs.Bare.{class_part}
use Rattle.jh_lowering.specs.Lowering.{source_of}
use Rattle.jh_outline.specs.declarations.Methods.{known_in, methods_from}
use Rattle.jh_outline.proofs.declarations.listing.methods_in.Given as goal

abbrev pub invariant-loop-class : goal.invariant-loop-class
invariant-loop-class l = map (known_in (source_of l.context)) l.made.items ++ methods_from (source_of l.context) l.class (map class_part (drop l.class l.classes)) ≡ methods_from (source_of l.context) 0 (map class_part l.classes)
