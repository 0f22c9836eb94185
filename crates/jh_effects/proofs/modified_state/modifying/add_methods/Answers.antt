use Rattle.std.proofs.Common.{◌≡◌, ap, ◌∙◌, ℕ, Some, ◌+◌, ◌++◌, length, slice_get, arith}
use Rattle.std.proofs.lemmas.List.{length-map}
use Rattle.jh_ast.specs.Bare.{program_tree}
use Rattle.jh_symbols.proofs.member_numbers.Puttings.{item-is}
use Rattle.jh_effects.specs.written_state.Methods.{callee_of, callees, gathered_from}
use Rattle.jh_effects.proofs.written_state.Gathering.{gathered-next, gathered-end, in-map}
use Rattle.jh_effects.specs.modified_state.Modifying.{given_named, link_named}
use Rattle.jh_effects.proofs.modified_state.modifying.add_methods.Goals as goal

-- src/modifying.rt
pub add_method-requires-clause-sound : goal.add_method-requires-clause-sound
add_method-requires-clause-sound c =
    let list = c.args.list.now in
    let n = c.loop-number.number in
    let listed = c.index-list-number.result in
    c.requires.sound n listed (item-is list n listed c.loop-number-test.true c.index-list-number.is)

-- src/modifying.rt
pub loop-number-preserved : goal.loop-number-preserved
loop-number-preserved c =
    let p = program_tree c.args.program.now in
    let numbers = c.args.numbers.now in
    let list = c.args.list.now in
    let n = c.loop-number.number in
    let listed = c.index-list-number.result in
    let start = c.args.flow.now in
    let old = c.loop-number.flow in
    let new = c.add_method.new.flow in
    let at : slice_get list n ≡ Some listed = item-is list n listed c.loop-number-test.true c.index-list-number.is in
    let zero : n ≡ 0 + n = omega arith in
    record {
      given = gathered-next (given_named p) 0 (callees list) n (callee_of listed) old.given.items new.given.items (start.given.items ++ gathered_from (given_named p) 0 (callees list)) (in-map callee_of list listed n at) (c.in_ok-add_method.ensures.given ∙ ap (λ (k : ℕ). old.given.items ++ given_named p k (callee_of listed)) zero) c.loop-number.invariant.given;
      links = gathered-next (link_named p numbers) 0 (callees list) n (callee_of listed) old.links.items new.links.items (start.links.items ++ gathered_from (link_named p numbers) 0 (callees list)) (in-map callee_of list listed n at) (c.in_ok-add_method.ensures.links ∙ ap (λ (k : ℕ). old.links.items ++ link_named p numbers k (callee_of listed)) zero) c.loop-number.invariant.links;
    }

-- src/modifying.rt
pub returns : goal.returns
returns c =
    let p = program_tree c.args.program.now in
    let numbers = c.args.numbers.now in
    let list = c.args.list.now in
    let start = c.args.flow.now in
    let flow = c.loop-number.flow in
    let long : length (callees list) ≡ length list = length-map list callee_of in
    record {
      given = gathered-end (given_named p) 0 (callees list) c.loop-number.number flow.given.items (start.given.items ++ gathered_from (given_named p) 0 (callees list)) (omega arith) c.loop-number.invariant.given;
      links = gathered-end (link_named p numbers) 0 (callees list) c.loop-number.number flow.links.items (start.links.items ++ gathered_from (link_named p numbers) 0 (callees list)) (omega arith) c.loop-number.invariant.links;
    }
