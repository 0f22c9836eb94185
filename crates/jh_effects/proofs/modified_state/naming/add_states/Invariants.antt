use Rattle.std.proofs.Common.{◌≡◌, ◌++◌, drop}
use Rattle.jh_ast.specs.Bare.{program_tree}
use Rattle.jh_definitions.specs.reads.Listed.{states_in}
use Rattle.jh_effects.specs.modified_state.Modifying.{given_states, link_states}
use Rattle.jh_effects.proofs.modified_state.naming.add_states.Given as goal

abbrev pub invariant-loop-state : goal.invariant-loop-state
invariant-loop-state l = record {
  given : l.flow.given.items ++ given_states (program_tree l.program) l.of (states_in (drop l.state-index l.states)) ≡ l.initial.flow.given.items ++ given_states (program_tree l.program) l.of (states_in l.states);
  links : l.flow.links.items ++ link_states l.numbers l.every l.of (states_in (drop l.state-index l.states)) ≡ l.initial.flow.links.items ++ link_states l.numbers l.every l.of (states_in l.states);
}
