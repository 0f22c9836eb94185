use Rattle.std.proofs.Common.{◌<◌, ◌↔◌, sym, subst, ℕ, List}
use Rattle.std.proofs.lemmas.Result.{IfOk-weaker}
use Rattle.jh_containers.specs.transitive_closure.Spreads.{IsIn, passed_to}
use Rattle.jh_effects.specs.declared.written_state.flow.Given.{Given}
use Rattle.jh_effects.specs.declared.written_state.flow.Key.{Key}
use Rattle.jh_effects.specs.declared.written_state.flow.Link.{Link}
use Rattle.jh_effects.specs.written_state.Arising.{Arises, ArePlaces, AreTold, AreNumbers}
use Rattle.jh_effects.proofs.written_state.Numbers.{told-inside}
use Rattle.jh_effects.proofs.written_state.arising.all_places.Goals as goal

-- src/arising.rt
pub edges_of-requires : goal.edges_of-requires
edges_of-requires c = subst (λ (ks : List Link). (link : Link) → IsIn ks link → link.from < c.args.things) (sym c.as_slice.ensures.value) c.requires

-- src/arising.rt
pub places_of-requires : goal.places_of-requires
places_of-requires c = told-inside c.in_ok-numbered.numbered.keys.keys c.in_ok-numbered.numbered.facts.items c.args.flow.given.items c.in_ok-numbered.ensures.told

-- src/arising.rt
pub returns-clause-places : goal.returns-clause-places
returns-clause-places c =
    let numbered = c.in_ok-numbered.numbered in
    let links = c.args.flow.links.items in
    let edges = c.as_slice-2.result.now in
    let linked : (from to : ℕ) → IsIn (passed_to edges from) to ↔ IsIn links (record { from = from; to = to }) =
    subst (λ (rs : List (List ℕ)). (from to : ℕ) → IsIn (passed_to rs from) to ↔ IsIn links (record { from = from; to = to })) (sym c.as_slice-2.ensures.value)
    (subst (λ (ks : List Link). (from to : ℕ) → IsIn (passed_to c.in_ok-edges.edges.items from) to ↔ IsIn ks (record { from = from; to = to })) c.as_slice.ensures.value c.in_ok-edges.ensures) in
    IfOk-weaker
    c.places_of.result
    (λ made. (given : List Given) (ls : List Link) (list : List Key) (n : ℕ) → AreTold numbered.keys.keys numbered.facts.items given → AreNumbers numbered.keys.keys numbered.list.items list → ((from to : ℕ) → IsIn (passed_to edges from) to ↔ IsIn ls (record { from = from; to = to })) → n < c.args.things →
    ArePlaces (Arises given ls n) list (passed_to made.items n))
    (λ made. (n : ℕ) → n < c.args.things → ArePlaces (Arises c.args.flow.given.items links n) c.args.list.items (passed_to made.items n))
    (λ made h n lt. h c.args.flow.given.items links c.args.list.items n c.in_ok-numbered.ensures.told c.in_ok-numbered.ensures.numbers linked lt)
    c.places_of.ensures.places
