use Rattle.std.proofs.Common.{◌≡◌, ◌++◌, ◌+◌, drop}
use Rattle.jh_ast.specs.Bare.{program_tree}
use Rattle.jh_effects.specs.written_state.Methods.{gathered_from}
use Rattle.jh_effects.specs.modified_state.Modifying.{given_read, link_read, variables_of}
use Rattle.jh_effects.proofs.modified_state.modifying.add_definitions.Given as goal

abbrev pub invariant-loop-at : goal.invariant-loop-at
invariant-loop-at l = record {
  given : l.flow.given.items ++ gathered_from (given_read (program_tree l.program)) (l.start + l.at) (drop l.at (variables_of l.definitions)) ≡ l.initial.flow.given.items ++ gathered_from (given_read (program_tree l.program)) l.start (variables_of l.definitions);
  links : l.flow.links.items ++ gathered_from (link_read (program_tree l.program) l.numbers) (l.start + l.at) (drop l.at (variables_of l.definitions)) ≡ l.initial.flow.links.items ++ gathered_from (link_read (program_tree l.program) l.numbers) l.start (variables_of l.definitions);
}
