use Rattle.std.proofs.Common.{◌≡◌, ap, ◌∙◌, ℕ, Some, ◌++◌, length, slice_get, arith}
use Rattle.std.proofs.lemmas.List.{length-map}
use Rattle.jh_ast.specs.Bare.{program_tree}
use Rattle.jh_symbols.proofs.member_numbers.Puttings.{item-is}
use Rattle.jh_definitions.specs.expansion.Opening.{defined_by}
use Rattle.jh_effects.specs.written_state.Methods.{gathered_from}
use Rattle.jh_effects.proofs.written_state.Gathering.{gathered-next, gathered-end, in-map}
use Rattle.jh_effects.specs.modified_state.Modifying.{given_read, link_read, variables_of}
use Rattle.jh_effects.proofs.modified_state.modifying.add_definitions.Goals as goal

-- src/modifying.rt
pub add_definition-requires-clause-sound : goal.add_definition-requires-clause-sound
add_definition-requires-clause-sound c =
    let ds = c.args.definitions.now in
    let n = c.loop-at.at in
    let d = c.index-definitions-at.result in
    c.requires.sound n d (item-is ds n d c.loop-at-test.true c.index-definitions-at.is)

-- src/modifying.rt
pub loop-at-preserved : goal.loop-at-preserved
loop-at-preserved c =
    let p = program_tree c.args.program.now in
    let numbers = c.args.numbers.now in
    let ds = c.args.definitions.now in
    let first = c.args.start in
    let n = c.loop-at.at in
    let d = c.index-definitions-at.result in
    let start = c.args.flow.now in
    let old = c.loop-at.flow in
    let new = c.add_definition.new.flow in
    let at : slice_get ds n ≡ Some d = item-is ds n d c.loop-at-test.true c.index-definitions-at.is in
    record {
      given = gathered-next (given_read p) first (variables_of ds) n (defined_by d) old.given.items new.given.items (start.given.items ++ gathered_from (given_read p) first (variables_of ds)) (in-map defined_by ds d n at) (c.in_ok-add_definition.ensures.given ∙ ap (λ (k : ℕ). old.given.items ++ given_read p k (defined_by d)) c.in_ok-number.ensures) c.loop-at.invariant.given;
      links = gathered-next (link_read p numbers) first (variables_of ds) n (defined_by d) old.links.items new.links.items (start.links.items ++ gathered_from (link_read p numbers) first (variables_of ds)) (in-map defined_by ds d n at) (c.in_ok-add_definition.ensures.links ∙ ap (λ (k : ℕ). old.links.items ++ link_read p numbers k (defined_by d)) c.in_ok-number.ensures) c.loop-at.invariant.links;
    }

-- src/modifying.rt
pub returns : goal.returns
returns c =
    let p = program_tree c.args.program.now in
    let numbers = c.args.numbers.now in
    let ds = c.args.definitions.now in
    let first = c.args.start in
    let start = c.args.flow.now in
    let flow = c.loop-at.flow in
    let long : length (variables_of ds) ≡ length ds = length-map ds defined_by in
    record {
      given = gathered-end (given_read p) first (variables_of ds) c.loop-at.at flow.given.items (start.given.items ++ gathered_from (given_read p) first (variables_of ds)) (omega arith) c.loop-at.invariant.given;
      links = gathered-end (link_read p numbers) first (variables_of ds) c.loop-at.at flow.links.items (start.links.items ++ gathered_from (link_read p numbers) first (variables_of ds)) (omega arith) c.loop-at.invariant.links;
    }
