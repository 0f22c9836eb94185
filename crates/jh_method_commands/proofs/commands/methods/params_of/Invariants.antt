use Rattle.std.proofs.Common.{◌≡◌, ◌++◌, map, drop}
use Rattle.jh_semantics.specs.typed_code.Statements.{local_in}
use Rattle.jh_state_facts.specs.well_formedness.States.{local_of}
use Rattle.jh_method_commands.proofs.commands.methods.params_of.Given as goal

-- the parameters so far, with those that are left, are all
abbrev pub invariant-loop-param : goal.invariant-loop-param
invariant-loop-param l = map local_of l.scope.items ++ map local_in (drop l.param-index l.params) ≡ map local_in l.params
