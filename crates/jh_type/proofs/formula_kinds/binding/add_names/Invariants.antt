use Rattle.std.proofs.Common.{◌≡◌, ◌++◌, drop}
use Rattle.jh_type.proofs.formula_kinds.binding.add_names.Given as goal

-- what is made and the rest are what is made in the end
abbrev pub invariant-loop-name : goal.invariant-loop-name
invariant-loop-name l = l.made.items ++ drop l.name-index l.names ≡ l.initial.made.items ++ l.names
