use Rattle.std.proofs.Common.{◌≡◌, ◌++◌, map, drop}
use Rattle.jh_lowering.specs.Lowering.{source_of}
use Rattle.jh_semantics.specs.typed_code.Statements.{method_in}
use Rattle.jh_outline.specs.outline.Listing.{code_of}
use Rattle.jh_outline.proofs.outline.listing.codes_of.Given as goal

abbrev pub invariant-loop-listed : goal.invariant-loop-listed
invariant-loop-listed l = map (method_in (source_of l.context)) l.made.items ++ map (code_of (source_of l.context)) (drop l.listed-index l.list) ≡ map (code_of (source_of l.context)) l.list
