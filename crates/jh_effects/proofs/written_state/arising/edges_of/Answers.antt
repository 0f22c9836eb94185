use Rattle.std.proofs.Common.{◌≡◌, ◌<◌, ◌↔◌, refl, sym, subst, ◌∙◌, ℕ, List, Some, get_or, slice_get, arith}
use Rattle.std.proofs.lemmas.Result.{IfOk-weaker}
use Rattle.jh_containers.specs.transitive_closure.Spreads.{IsIn, passed_to}
use Rattle.jh_containers.proofs.transitive_closure.Places.{item-get, is-in-item}
use Rattle.jh_effects.specs.declared.written_state.flow.Link.{Link}
use Rattle.jh_effects.proofs.written_state.Pairs.{added-next, only-next, exact-end}
use Rattle.jh_effects.proofs.written_state.arising.edges_of.Goals as goal

-- src/arising.rt
pub loop-link-init : goal.loop-link-init
loop-link-init c = record {
  added = λ k f lt e. absurd (omega arith);
  only = λ from to h. absurd (c.in_ok-edges.ensures.none from to h);
  count = c.in_ok-edges.ensures.count;
}

-- src/arising.rt
pub add-requires : goal.add-requires
add-requires c =
    let links = c.args.links.now in
    let link : Link = get_or links c.loop-link.link-index (record { from = 0; to = 0 }) in
    subst (λ (n : ℕ). link.from < n) (sym c.loop-link.invariant.count) (c.requires link (is-in-item links c.loop-link.link-index (record { from = 0; to = 0 }) c.loop-link-test.true))

-- src/arising.rt
pub loop-link-preserved : goal.loop-link-preserved
loop-link-preserved c =
    let links = c.args.links.now in
    let i = c.loop-link.link-index in
    let link : Link = get_or links i (record { from = 0; to = 0 }) in
    let at : slice_get links i ≡ Some link = item-get links i (record { from = 0; to = 0 }) c.loop-link-test.true in
    let old = c.loop-link.edges in
    let new = c.add.new.self in
    record {
      added = added-next (λ (k : Link). k.from) (λ (k : Link). k.to) (λ from to. record { from = from; to = to }) (λ k. refl) (λ r v. refl) (λ r v. refl) links old new i link at c.in_ok-add.ensures.added c.in_ok-add.ensures.keeps c.loop-link.invariant.added;
      only = only-next (λ (k : Link). k.from) (λ (k : Link). k.to) (λ from to. record { from = from; to = to }) (λ k. refl) (λ r v. refl) (λ r v. refl) links old new i link at c.in_ok-add.ensures.only c.loop-link.invariant.only;
      count = c.in_ok-add.ensures.count ∙ c.loop-link.invariant.count;
    }

-- src/arising.rt
pub returns : goal.returns
returns c =
    let links = c.args.links.now in
    let all = exact-end (λ (k : Link). k.from) (λ (k : Link). k.to) (λ from to. record { from = from; to = to }) (λ k. refl) (λ r v. refl) (λ r v. refl) links c.loop-link.edges c.loop-link.link-index (omega arith) c.loop-link.invariant.added c.loop-link.invariant.only in
    IfOk-weaker
    c.into_rows.result
    (λ made. made.items ≡ c.loop-link.edges)
    (λ made. (from to : ℕ) → IsIn (passed_to made.items from) to ↔ IsIn links (record { from = from; to = to }))
    (λ made e. subst (λ (rs : List (List ℕ)). (from to : ℕ) → IsIn (passed_to rs from) to ↔ IsIn links (record { from = from; to = to })) (sym e) all)
    c.into_rows.ensures
