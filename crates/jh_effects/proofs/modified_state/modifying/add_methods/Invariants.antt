use Rattle.std.proofs.Common.{◌≡◌, ◌++◌, ◌+◌, drop}
use Rattle.jh_ast.specs.Bare.{program_tree}
use Rattle.jh_effects.specs.written_state.Methods.{callees, gathered_from}
use Rattle.jh_effects.specs.modified_state.Modifying.{given_named, link_named}
use Rattle.jh_effects.proofs.modified_state.modifying.add_methods.Given as goal

abbrev pub invariant-loop-number : goal.invariant-loop-number
invariant-loop-number l = record {
  given : l.flow.given.items ++ gathered_from (given_named (program_tree l.program)) (0 + l.number) (drop l.number (callees l.list)) ≡ l.initial.flow.given.items ++ gathered_from (given_named (program_tree l.program)) 0 (callees l.list);
  links : l.flow.links.items ++ gathered_from (link_named (program_tree l.program) l.numbers) (0 + l.number) (drop l.number (callees l.list)) ≡ l.initial.flow.links.items ++ gathered_from (link_named (program_tree l.program) l.numbers) 0 (callees l.list);
}
