use Rattle.std.proofs.Common.{map, take}
use Rattle.indexmap.specs.IndexMap.{get_by_text}
use Rattle.jh_ast.specs.Bare.{class_part}
use Rattle.jh_symbols.specs.declarations.Entries.{AreTables}
use Rattle.jh_symbols.proofs.declarations.members.put_tables.Given as goal

-- the tables so far are those of the classes so far
abbrev pub invariant-loop-index : goal.invariant-loop-index
invariant-loop-index l = AreTables (λ x. get_by_text l.numbers x) 0 l.tables.items (map class_part (take l.index l.classes))
