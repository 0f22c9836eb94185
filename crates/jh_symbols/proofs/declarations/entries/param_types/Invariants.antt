use Rattle.std.proofs.Common.{◌≡◌, ◌++◌, drop}
use Rattle.indexmap.specs.IndexMap.{get_by_text}
use Rattle.jh_symbols.specs.declarations.Entries.{param_types}
use Rattle.jh_symbols.proofs.declarations.entries.param_types.Given as goal

-- what is made and the rest are what all give
abbrev pub invariant-loop-param : goal.invariant-loop-param
invariant-loop-param l = l.made.items ++ param_types (λ x. get_by_text l.numbers x) (drop l.param-index l.params) ≡ param_types (λ x. get_by_text l.numbers x) l.params
