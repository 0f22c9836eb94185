use Rattle.std.proofs.Common.{◌<◌, ◌↔◌, sym, subst, ℕ, List}
use Rattle.std.proofs.lemmas.Result.{IfOk-weaker}
use Rattle.jh_containers.specs.transitive_closure.Spreads.{IsIn, passed_to}
use Rattle.jh_effects.specs.declared.written_state.flow.Given.{Given}
use Rattle.jh_effects.specs.declared.written_state.flow.Key.{Key}
use Rattle.jh_effects.specs.declared.written_state.flow.Link.{Link}
use Rattle.jh_effects.specs.written_state.Arising.{Arises, ArePlaces, AreTold, AreNumbers}
use Rattle.jh_effects.proofs.written_state.Numbers.{told-inside, told-of}
use Rattle.jh_effects.proofs.written_state.reaching.first_places.Goals as goal

-- src/reaching.rt
pub sources_of-requires : goal.sources_of-requires
sources_of-requires c = subst (λ (ks : List Link). (link : Link) → IsIn ks link → link.to < c.args.things) (sym c.as_slice.ensures.value) c.requires.links

-- src/reaching.rt
pub places_reached-requires-clause-numbers : goal.places_reached-requires-clause-numbers
places_reached-requires-clause-numbers c = told-inside c.in_ok-numbered.numbered.keys.keys c.in_ok-numbered.numbered.facts.items c.args.flow.given.items c.in_ok-numbered.ensures.told

-- src/reaching.rt
pub places_reached-requires-clause-things : goal.places_reached-requires-clause-things
places_reached-requires-clause-things c = λ fact h.
    let w = told-of c.in_ok-numbered.numbered.keys.keys c.in_ok-numbered.numbered.facts.items c.args.flow.given.items fact c.in_ok-numbered.ensures.told h in
    subst (λ (n : ℕ). n < c.args.things) (sym w.3) (c.requires.given w.0 w.1)

-- src/reaching.rt
pub returns-clause-places : goal.returns-clause-places
returns-clause-places c =
    let numbered = c.in_ok-numbered.numbered in
    let links = c.args.flow.links.items in
    let sources = c.as_slice-2.result.now in
    let linked : (to from : ℕ) → IsIn (passed_to sources to) from ↔ IsIn links (record { from = from; to = to }) =
    subst (λ (rs : List (List ℕ)). (to from : ℕ) → IsIn (passed_to rs to) from ↔ IsIn links (record { from = from; to = to })) (sym c.as_slice-2.ensures.value)
    (subst (λ (ks : List Link). (to from : ℕ) → IsIn (passed_to c.in_ok-sources.sources.items to) from ↔ IsIn ks (record { from = from; to = to })) c.as_slice.ensures.value c.in_ok-sources.ensures) in
    IfOk-weaker
    c.places_reached.result
    (λ made. (given : List Given) (ls : List Link) (list : List Key) (n : ℕ) → AreTold numbered.keys.keys numbered.facts.items given → AreNumbers numbered.keys.keys numbered.list.items list → ((to from : ℕ) → IsIn (passed_to sources to) from ↔ IsIn ls (record { from = from; to = to })) → n < c.args.wanted →
    ArePlaces (Arises given ls n) list (passed_to made.items n))
    (λ made. (n : ℕ) → n < c.args.wanted → ArePlaces (Arises c.args.flow.given.items links n) c.args.list.items (passed_to made.items n))
    (λ made h n lt. h c.args.flow.given.items links c.args.list.items n c.in_ok-numbered.ensures.told c.in_ok-numbered.ensures.numbers linked lt)
    c.places_reached.ensures.places
