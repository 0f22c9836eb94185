use Rattle.std.proofs.Common.{◌≡◌, sym, ap, ◌∙◌, ℕ, List, Some, ◌+◌, ◌++◌, length, slice_get, arith}
use Rattle.std.proofs.lemmas.List.{length-map}
use Rattle.jh_ast.specs.Bare.{program_tree}
use Rattle.jh_symbols.proofs.member_numbers.Puttings.{item-is}
use Rattle.jh_effects.specs.declared.written_state.methods.Listed.{Listed}
use Rattle.jh_effects.specs.written_state.Methods.{callee_of, callees, gathered_from, given_by, links_by}
use Rattle.jh_effects.proofs.written_state.Gathering.{gathered-next, gathered-end, in-map}
use Rattle.jh_effects.proofs.written_state.writing.flow_of.Goals as goal

-- src/writing.rt
pub add_method-requires-clause-sound : goal.add_method-requires-clause-sound
add_method-requires-clause-sound c =
    let list = c.as_slice-list.result.now in
    let n = c.loop-number.number in
    let listed = c.index-list-number.result in
    let at : slice_get list n ≡ Some listed = item-is list n listed c.loop-number-test.true c.index-list-number.is in
    c.requires.sound n listed (ap (λ (ls : List Listed). slice_get ls n) (sym c.as_slice-list.ensures.value) ∙ at)

-- src/writing.rt
pub loop-number-preserved : goal.loop-number-preserved
loop-number-preserved c =
    let p = program_tree c.args.program.now in
    let numbers = c.args.methods.now.numbers in
    let items = c.args.methods.now.list.items in
    let list = c.as_slice-list.result.now in
    let n = c.loop-number.number in
    let listed = c.index-list-number.result in
    let old = c.loop-number.flow in
    let new = c.add_method.new.flow in
    let at : slice_get list n ≡ Some listed = item-is list n listed c.loop-number-test.true c.index-list-number.is in
    let here : slice_get items n ≡ Some listed = ap (λ (ls : List Listed). slice_get ls n) (sym c.as_slice-list.ensures.value) ∙ at in
    let zero : n ≡ 0 + n = omega arith in
    record {
      given = gathered-next (given_by p) 0 (callees items) n (callee_of listed) old.given.items new.given.items (gathered_from (given_by p) 0 (callees items)) (in-map callee_of items listed n here) (c.in_ok-add_method.ensures.given ∙ ap (λ (k : ℕ). old.given.items ++ given_by p k (callee_of listed)) zero) c.loop-number.invariant.given;
      links = gathered-next (links_by p numbers) 0 (callees items) n (callee_of listed) old.links.items new.links.items (gathered_from (links_by p numbers) 0 (callees items)) (in-map callee_of items listed n here) (c.in_ok-add_method.ensures.links ∙ ap (λ (k : ℕ). old.links.items ++ links_by p numbers k (callee_of listed)) zero) c.loop-number.invariant.links;
    }

-- src/writing.rt
pub returns-clause-given : goal.returns-clause-given
returns-clause-given c =
    let p = program_tree c.args.program.now in
    let items = c.args.methods.now.list.items in
    let long : length (callees items) ≡ length items = length-map items callee_of in
    let same : length c.as_slice-list.result.now ≡ length items = ap length c.as_slice-list.ensures.value in
    gathered-end (given_by p) 0 (callees items) c.loop-number.number c.loop-number.flow.given.items (gathered_from (given_by p) 0 (callees items)) (omega arith) c.loop-number.invariant.given

-- src/writing.rt
pub returns-clause-links : goal.returns-clause-links
returns-clause-links c =
    let p = program_tree c.args.program.now in
    let numbers = c.args.methods.now.numbers in
    let items = c.args.methods.now.list.items in
    let long : length (callees items) ≡ length items = length-map items callee_of in
    let same : length c.as_slice-list.result.now ≡ length items = ap length c.as_slice-list.ensures.value in
    gathered-end (links_by p numbers) 0 (callees items) c.loop-number.number c.loop-number.flow.links.items (gathered_from (links_by p numbers) 0 (callees items)) (omega arith) c.loop-number.invariant.links
