use Rattle.indexmap.specs.IndexMap.{get_by_text}
use Rattle.jh_symbols.proofs.declarations.Naming.{Marks}
use Rattle.jh_symbols.proofs.declarations.members.put_defs.Given as goal

-- what the table says is what the definitions behind say
abbrev pub invariant-loop-back : goal.invariant-loop-back
invariant-loop-back l = Marks (λ x. get_by_text l.table x) l.defs l.back
