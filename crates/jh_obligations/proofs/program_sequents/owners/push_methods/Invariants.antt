use Rattle.std.proofs.Common.{◌≡◌, ◌++◌, ◌+◌, map, drop}
use Rattle.jh_ast.specs.Bare.{method_part}
use Rattle.jh_outline.specs.jh_effects.written_state.Methods.{gathered_from}
use Rattle.jh_obligations.specs.program_sequents.Owing.{method_owing, owing_in}
use Rattle.jh_obligations.proofs.program_sequents.owners.push_methods.Given as goal

abbrev pub invariant-loop-number : goal.invariant-loop-number
invariant-loop-number l = map owing_in l.made.items ++ gathered_from (method_owing l.class) (0 + l.number) (drop l.number (map method_part l.methods)) ≡ map owing_in l.initial.made.items ++ gathered_from (method_owing l.class) 0 (map method_part l.methods)
