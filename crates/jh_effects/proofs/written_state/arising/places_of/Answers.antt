use Rattle.std.proofs.Common.{◌↔◌, ◌<◌, sym, subst, ℕ, List, length}
use Rattle.std.proofs.lemmas.Result.{IfOk-weaker}
use Rattle.jh_containers.specs.declared.transitive_closure.facts.Fact.{Fact}
use Rattle.jh_containers.specs.transitive_closure.Spreads.{IsIn, Spreads, passed_to}
use Rattle.jh_effects.specs.declared.written_state.flow.Given.{Given}
use Rattle.jh_effects.specs.declared.written_state.flow.Key.{Key}
use Rattle.jh_effects.specs.declared.written_state.flow.Link.{Link}
use Rattle.jh_effects.specs.written_state.Arising.{Arises, ArePlaces, AreTold, AreNumbers}
use Rattle.jh_effects.specs.written_state.Chosen.{IsChosen}
use Rattle.jh_effects.proofs.written_state.Spreading.{places-are, spread-arises, arises-spread, spread-inside}
use Rattle.jh_effects.proofs.written_state.arising.places_of.Goals as goal

-- src/arising.rt
pub choose-requires : goal.choose-requires
choose-requires c =
    let inside = subst (λ (fs : List Fact). (f : Fact) → IsIn fs f → f.what < length c.args.numbered.now.keys.keys) (sym c.as_slice.ensures.value) c.requires in
    λ fact h. subst (λ (n : ℕ). fact.what < n) (sym c.len.ensures.len) (spread-inside c.as_slice.result.now c.args.edges.now (length c.args.numbered.now.keys.keys) inside fact ((c.in_ok-spread.ensures.exact fact).0 h))

-- src/arising.rt
pub returns-clause-places : goal.returns-clause-places
returns-clause-places c =
    let keys = c.args.numbered.now.keys.keys in
    let edges = c.args.edges.now in
    let spread = c.in_ok-spread.spread in
    IfOk-weaker
    c.choose.result
    (λ made. (n : ℕ) → n < c.args.things → IsChosen spread c.as_slice-2.result.now n (passed_to made.items n))
    (λ made. (gs : List Given) (links : List Link) (list : List Key) (n : ℕ) → AreTold keys c.args.numbered.now.facts.items gs → AreNumbers keys c.args.numbered.now.list.items list → ((from to : ℕ) → IsIn (passed_to edges from) to ↔ IsIn links (record { from = from; to = to })) → n < c.args.things →
    ArePlaces (Arises gs links n) list (passed_to made.items n))
    (λ made chosen gs links list n told are linked lt.
    let exact = subst (λ (fs : List Fact). (f : Fact) → IsIn spread f ↔ Spreads fs edges f) c.as_slice.ensures.value c.in_ok-spread.ensures.exact in
    places-are keys c.len.ensures.unique spread n (Arises gs links n)
    (spread-arises keys c.args.numbered.now.facts.items gs told edges links linked spread exact n)
    (arises-spread keys c.args.numbered.now.facts.items gs told edges links linked spread exact n) c.args.numbered.now.list.items list (passed_to made.items n) are
    (subst (λ (ns : List ℕ). IsChosen spread ns n (passed_to made.items n)) c.as_slice-2.ensures.value (chosen n lt)))
    c.choose.ensures.chosen
