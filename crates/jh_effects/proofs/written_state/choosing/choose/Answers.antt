use Rattle.std.proofs.Common.{◌≡◌, ◌<◌, sym, ap, subst, ◌∙◌, ℕ, nat_eq, get_or, length, arith}
use Rattle.std.specs.List.{list_any}
use Rattle.std.proofs.lemmas.Result.{IfOk-weaker}
use Rattle.jh_containers.specs.transitive_closure.Spreads.{passed_to}
use Rattle.jh_effects.specs.written_state.Chosen.{IsChosen}
use Rattle.jh_effects.proofs.written_state.Chosen.{test_at, chosen-none, chosen-next, chosen-end}
use Rattle.jh_effects.proofs.written_state.choosing.choose.Goals as goal

-- src/choosing.rt
pub loop-place-init : goal.loop-place-init
loop-place-init c = record {
  chosen = λ thing lt. chosen-none (test_at c.in_ok-by_fact.by_fact.items c.args.list.now thing) (passed_to c.in_ok-rows.rows thing) (c.in_ok-rows.ensures.none thing);
  count = c.in_ok-rows.ensures.count;
}

-- src/choosing.rt
pub loop-place-preserved : goal.loop-place-preserved
loop-place-preserved c =
    let by_fact = c.in_ok-by_fact.by_fact.items in
    let list = c.args.list.now in
    let old = c.loop-place.rows in
    let new = c.put_all.new.rows in
    let n = c.loop-place.place in
    let here : c.row_of.result.now ≡ passed_to by_fact (get_or list n 0) = c.row_of.ensures ∙ ap (λ rs. passed_to rs (get_or list n 0)) c.as_slice.ensures.value in
    record {
      chosen = λ thing lt.
          chosen-next (test_at by_fact list thing) n (passed_to old thing) (passed_to new thing) (list_any (nat_eq thing) c.row_of.result.now) (ap (list_any (nat_eq thing)) here) (c.loop-place.invariant.chosen thing lt)
          (c.in_ok-put_all.ensures.put thing (subst (λ (k : ℕ). thing < k) (sym c.loop-place.invariant.count) lt));
      count = c.in_ok-put_all.ensures.count ∙ c.loop-place.invariant.count;
    }

-- src/choosing.rt
pub returns-clause-chosen : goal.returns-clause-chosen
returns-clause-chosen c =
    let facts = c.args.facts.now in
    let list = c.args.list.now in
    let long : c.loop-place.place ≡ length list = omega arith in
    IfOk-weaker
    c.into_rows.result
    (λ made. made.items ≡ c.loop-place.rows)
    (λ made. (thing : ℕ) → thing < c.args.things → IsChosen facts list thing (passed_to made.items thing))
    (λ made e thing lt.
    chosen-end facts c.in_ok-by_fact.by_fact.items list c.loop-place.place thing (passed_to made.items thing) long c.in_ok-by_fact.ensures
    (ap (λ rs. passed_to rs thing) e ∙ c.loop-place.invariant.chosen thing lt))
    c.into_rows.ensures
