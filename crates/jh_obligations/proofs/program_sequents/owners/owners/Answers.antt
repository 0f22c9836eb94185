use Rattle.std.proofs.Common.{◌≡◌, ◌++◌, ◌+◌, ◌∙◌, ap, sym, ℕ, Some, map, slice_get, length, arith}
use Rattle.std.proofs.lemmas.List.{length-map}
use Rattle.jh_ast.specs.Bare.{class_part, method_part, program_tree}
use Rattle.jh_symbols.proofs.member_numbers.Puttings.{item-is}
use Rattle.jh_outline.specs.jh_effects.written_state.Methods.{gathered_from}
use Rattle.jh_outline.proofs.of_jh_effects.written_state.Gathering.{gathered-next, gathered-end, in-map}
use Rattle.jh_obligations.specs.program_sequents.Owing.{class_owing, method_owing, owing_in}
use Rattle.jh_obligations.proofs.program_sequents.owners.owners.Goals as goal

-- src/owners.rt
pub loop-class-preserved : goal.loop-class-preserved
unfolding class_part
loop-class-preserved c =
    let cs = c.items-classes.result.now in
    let n = c.loop-class.class in
    let k = c.index-classes-class.result in
    let old = map owing_in c.loop-class.made.items in
    let at : slice_get cs n ≡ Some k = item-is cs n k c.loop-class-test.true c.index-classes-class.is in
    let zero : n ≡ 0 + n = omega arith in
    gathered-next class_owing 0 (map class_part cs) n (class_part k) old (map owing_in c.push_methods.new.made.items) (gathered_from class_owing 0 (map class_part cs)) (in-map class_part cs k n at)
    (c.in_ok-push_methods.ensures ∙ ap (λ ms. old ++ gathered_from (method_owing n) 0 (map method_part ms)) (c.items.ensures ∙ ap (λ x. x.methods) (sym c.index-classes-class.is)) ∙ ap (λ (j : ℕ). old ++ class_owing j (class_part k)) zero) c.loop-class.invariant

-- src/owners.rt
pub returns : goal.returns
unfolding program_tree
returns c =
    let cs = c.items-classes.result.now in
    let long : length (map class_part cs) ≡ length cs = length-map cs class_part in
    gathered-end class_owing 0 (map class_part cs) c.loop-class.class (map owing_in c.loop-class.made.items) (gathered_from class_owing 0 (map class_part cs)) (omega (arith, long, c.loop-class-test.false)) c.loop-class.invariant
    ∙ ap (λ xs. gathered_from class_owing 0 (map class_part xs)) c.items-classes.ensures
