use Rattle.std.proofs.Common.{◌≡◌, ◌<◌, sym, subst, ◌∙◌, ℕ, List, Some, length, slice_get, arith}
use Rattle.std.proofs.lemmas.Result.{IfOk-weaker}
use Rattle.jh_symbols.proofs.member_numbers.Puttings.{item-is}
use Rattle.jh_containers.specs.topological_order.Orders.{IsReversed}
use Rattle.jh_containers.specs.transitive_closure.Spreads.{IsIn, passed_to}
use Rattle.jh_definitions.proofs.dependency_order.Readers.{row-is, reversed-next, reads-inside}
use Rattle.jh_definitions.proofs.dependency_order.rows.readers_of.Goals as goal

-- src/rows.rt
pub add_edges-requires : goal.add_edges-requires
add_edges-requires c =
    let reads = c.args.reads.now in
    let r = c.loop-reader.reader in
    let row = c.index-reads-reader.result in
    let at : slice_get reads r ≡ Some row = item-is reads r row c.loop-reader-test.true c.index-reads-reader.is in
    λ d h. subst (λ (n : ℕ). d < n) (sym c.loop-reader.invariant.count) (c.requires r d (subst (λ (ms : List ℕ). IsIn ms d) (c.items.ensures ∙ sym (row-is reads r row at)) h))

-- src/rows.rt
pub loop-reader-preserved : goal.loop-reader-preserved
loop-reader-preserved c =
    let reads = c.args.reads.now in
    let r = c.loop-reader.reader in
    let row = c.index-reads-reader.result in
    let new = c.add_edges.new.edges in
    let at : slice_get reads r ≡ Some row = item-is reads r row c.loop-reader-test.true c.index-reads-reader.is in
    record {
      reversed = reversed-next reads c.loop-reader.edges new r row at (subst (λ (ms : List ℕ). (d : ℕ) → IsIn ms d → IsIn (passed_to new d) r) c.items.ensures c.in_ok-add_edges.ensures.added) c.in_ok-add_edges.ensures.keeps c.loop-reader.invariant.reversed;
      count = c.in_ok-add_edges.ensures.count ∙ c.loop-reader.invariant.count;
    }

-- src/rows.rt
pub returns : goal.returns
returns c =
    let reads = c.args.reads.now in
    IfOk-weaker
    c.into_rows.result
    (λ made. made.items ≡ c.loop-reader.edges)
    (λ made. IsReversed reads made.items)
    (λ made e r d h. let inside : r < length reads = reads-inside reads r d h in subst (λ (rs : List (List ℕ)). IsIn (passed_to rs d) r) (sym e) (c.loop-reader.invariant.reversed r d (omega arith) h))
    c.into_rows.ensures
