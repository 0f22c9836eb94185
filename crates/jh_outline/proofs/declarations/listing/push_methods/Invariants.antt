use Rattle.std.proofs.Common.{◌≡◌, ◌++◌, map, drop}
use Rattle.jh_ast.specs.Bare.{method_part}
use Rattle.jh_lowering.specs.Lowering.{source_of}
use Rattle.jh_outline.specs.declarations.Methods.{known_in, known_of}
use Rattle.jh_outline.proofs.declarations.listing.push_methods.Given as goal

abbrev pub invariant-loop-method : goal.invariant-loop-method
invariant-loop-method l = map (known_in (source_of l.context)) l.made.items ++ map (known_of (source_of l.context) l.class) (map method_part (drop l.method-index l.methods)) ≡ map (known_in (source_of l.context)) l.initial.made.items ++ map (known_of (source_of l.context) l.class) (map method_part l.methods)
