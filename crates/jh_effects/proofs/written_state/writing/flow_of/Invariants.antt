use Rattle.std.proofs.Common.{◌≡◌, ◌++◌, ◌+◌, drop}
use Rattle.jh_ast.specs.Bare.{program_tree}
use Rattle.jh_effects.specs.written_state.Methods.{callees, gathered_from, given_by, links_by}
use Rattle.jh_effects.proofs.written_state.writing.flow_of.Given as goal

abbrev pub invariant-loop-number : goal.invariant-loop-number
invariant-loop-number l = record {
  given : l.flow.given.items ++ gathered_from (given_by (program_tree l.program)) (0 + l.number) (drop l.number (callees l.methods.list.items)) ≡ gathered_from (given_by (program_tree l.program)) 0 (callees l.methods.list.items);
  links : l.flow.links.items ++ gathered_from (links_by (program_tree l.program) l.methods.numbers) (0 + l.number) (drop l.number (callees l.methods.list.items)) ≡ gathered_from (links_by (program_tree l.program) l.methods.numbers) 0 (callees l.methods.list.items);
}
