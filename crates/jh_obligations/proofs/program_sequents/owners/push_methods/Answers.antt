use Rattle.std.proofs.Common.{◌≡◌, ◌++◌, ◌+◌, ◌∙◌, ap, ℕ, List, [], ◌∷◌, Some, map, slice_get, length, arith}
use Rattle.std.proofs.lemmas.List.{length-map, map-append}
use Rattle.jh_ast.specs.Bare.{method_part}
use Rattle.jh_symbols.proofs.member_numbers.Puttings.{item-is}
use Rattle.jh_outline.specs.jh_effects.written_state.Methods.{gathered_from}
use Rattle.jh_outline.proofs.of_jh_effects.written_state.Gathering.{gathered-next, gathered-end, in-map}
use Rattle.jh_obligations.specs.program_sequents.Owing.{Owing, method_owing, owing_in}
use Rattle.jh_obligations.proofs.program_sequents.owners.push_methods.Goals as goal

-- src/owners.rt
pub loop-number-preserved : goal.loop-number-preserved
loop-number-preserved c =
    let ms = c.args.methods.now in
    let n = c.loop-number.number in
    let m = c.index-methods-number.result in
    let old = c.loop-number.made.items in
    let owner = c.in_ok-owner_of.field-0 in
    let whole : List Owing = map owing_in c.args.made.now.items ++ gathered_from (method_owing c.args.class) 0 (map method_part ms) in
    let at : slice_get ms n ≡ Some m = item-is ms n m c.loop-number-test.true c.index-methods-number.is in
    let zero : n ≡ 0 + n = omega arith in
    gathered-next (method_owing c.args.class) 0 (map method_part ms) n (method_part m) (map owing_in old) (map owing_in c.push.new.self.items) whole (in-map method_part ms m n at)
    (ap (map owing_in) c.in_ok-push.ensures.items ∙ map-append owing_in old (owner ∷ []) ∙ ap (λ ws. map owing_in old ++ ws) (c.in_ok-owner_of.ensures ∙ ap (λ (k : ℕ). method_owing c.args.class k (method_part m)) zero)) c.loop-number.invariant

-- src/owners.rt
pub returns : goal.returns
returns c =
    let ms = c.args.methods.now in
    let long : length (map method_part ms) ≡ length ms = length-map ms method_part in
    gathered-end (method_owing c.args.class) 0 (map method_part ms) c.loop-number.number (map owing_in c.loop-number.made.items) (map owing_in c.args.made.now.items ++ gathered_from (method_owing c.args.class) 0 (map method_part ms)) (omega (arith, long, c.loop-number-test.false)) c.loop-number.invariant
