use Rattle.std.proofs.Common.{◌≡◌, ◌++◌, map, drop}
use Rattle.jh_symbols.specs.scopes.Lookings.{declared_by}
use Rattle.jh_definitions.specs.dependency_order.Defining.{row_of}
use Rattle.jh_definitions.proofs.dependency_order.rows.rows_of.Given as goal

abbrev pub invariant-loop-definition : goal.invariant-loop-definition
invariant-loop-definition l = l.made.items ++ map (row_of (declared_by l.lookups) l.numbers) (drop l.definition-index l.definitions) ≡ map (row_of (declared_by l.lookups) l.numbers) l.definitions
