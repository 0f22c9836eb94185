use Rattle.std.proofs.Common.{◌≡◌, ap, ◌∙◌, ◌++◌, Some, slice_get, append-nil}
use Rattle.jh_ast.specs.Bare.{program_tree}
use Rattle.jh_symbols.proofs.member_numbers.Puttings.{item-is}
use Rattle.jh_definitions.specs.reads.Listed.{state_of, states_in}
use Rattle.jh_effects.specs.modified_state.Modifying.{given_state, given_states, link_state, link_states}
use Rattle.jh_effects.proofs.written_state.Gathering.{flat-next}
use Rattle.jh_effects.proofs.modified_state.naming.add_states.Goals as goal

-- src/naming.rt
pub loop-state-preserved : goal.loop-state-preserved
loop-state-preserved c =
    let p = program_tree c.args.program.now in
    let states = c.args.states.now in
    let i = c.loop-state.state-index in
    let state = c.state-item.result in
    let old = c.loop-state.flow in
    let mid = c.give_state.new.flow in
    let new = c.link_state.new.flow in
    let at : slice_get states i ≡ Some state = item-is states i state c.loop-state-test.true c.state-item.is in
    record {
      given = flat-next (given_state p c.args.of) state_of states i state old.given.items new.given.items (c.args.flow.now.given.items ++ given_states p c.args.of (states_in states)) at (c.in_ok-link_state.ensures.given ∙ append-nil mid.given.items ∙ c.in_ok-give_state.ensures.given) c.loop-state.invariant.given;
      links = flat-next (link_state c.args.numbers.now c.args.every c.args.of) state_of states i state old.links.items new.links.items (c.args.flow.now.links.items ++ link_states c.args.numbers.now c.args.every c.args.of (states_in states)) at (c.in_ok-link_state.ensures.links ∙ ap (λ us. us ++ link_state c.args.numbers.now c.args.every c.args.of (state_of state)) (c.in_ok-give_state.ensures.links ∙ append-nil old.links.items)) c.loop-state.invariant.links;
    }
