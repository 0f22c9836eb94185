use Rattle.indexmap.specs.IndexMap.{get_by_text}
use Rattle.jh_symbols.proofs.declarations.Naming.{Numbers}
use Rattle.jh_symbols.proofs.declarations.numbers.put_numbers.Given as goal

-- what the table says is what the classes behind say
abbrev pub invariant-loop-back : goal.invariant-loop-back
invariant-loop-back l = Numbers (λ x. get_by_text l.table x) l.classes l.back
