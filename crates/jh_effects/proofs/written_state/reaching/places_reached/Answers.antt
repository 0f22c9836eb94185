use Rattle.std.proofs.Common.{◌↔◌, ◌<◌, sym, subst, ℕ, List}
use Rattle.std.proofs.lemmas.Result.{IfOk-weaker}
use Rattle.jh_containers.specs.declared.transitive_closure.facts.Fact.{Fact}
use Rattle.jh_containers.specs.transitive_closure.Spreads.{IsIn, passed_to}
use Rattle.jh_effects.specs.declared.written_state.flow.Given.{Given}
use Rattle.jh_effects.specs.declared.written_state.flow.Key.{Key}
use Rattle.jh_effects.specs.declared.written_state.flow.Link.{Link}
use Rattle.jh_effects.specs.written_state.Arising.{Arises, ArePlaces, AreTold, AreNumbers}
use Rattle.jh_effects.specs.written_state.Chosen.{IsChosen}
use Rattle.jh_effects.specs.written_state.Reaching.{IsReached}
use Rattle.jh_effects.proofs.written_state.Spreading.{places-are}
use Rattle.jh_effects.proofs.written_state.Reached.{arises-reached, reached-arises}
use Rattle.jh_effects.proofs.written_state.reaching.places_reached.Goals as goal

-- src/reaching.rt
pub given_rows-requires : goal.given_rows-requires
given_rows-requires c = subst (λ (fs : List Fact). (f : Fact) → IsIn fs f → f.of < c.args.things) (sym c.as_slice.ensures.value) c.requires.things

-- src/reaching.rt
pub choose-requires : goal.choose-requires
choose-requires c = λ fact h.
    let r : IsReached c.as_slice-2.result.now c.args.sources.now fact.of fact.what = c.in_ok-reached.ensures.only fact h in
    let given : IsIn (passed_to c.in_ok-given.given.items r.from) fact.what = subst (λ (rows : List (List ℕ)). IsIn (passed_to rows r.from) fact.what) c.as_slice-2.ensures.value r.given in
    let stands : IsIn c.args.numbered.now.facts.items (record { of = r.from; what = fact.what }) = subst (λ (fs : List Fact). IsIn fs (record { of = r.from; what = fact.what })) c.as_slice.ensures.value ((c.in_ok-given.ensures r.from fact.what).0 given) in
    subst (λ (n : ℕ). fact.what < n) (sym c.len.ensures.len) (c.requires.numbers (record { of = r.from; what = fact.what }) stands)

-- src/reaching.rt
pub returns-clause-places : goal.returns-clause-places
returns-clause-places c =
    let numbered = c.args.numbered.now in
    let keys = numbered.keys.keys in
    let facts = numbered.facts.items in
    let sources = c.args.sources.now in
    let rows = c.as_slice-2.result.now in
    let reached = c.in_ok-reached.reached in
    let are : (of what : ℕ) → IsIn (passed_to rows of) what ↔ IsIn facts (record { of = of; what = what }) =
    subst (λ (rs : List (List ℕ)). (of what : ℕ) → IsIn (passed_to rs of) what ↔ IsIn facts (record { of = of; what = what })) (sym c.as_slice-2.ensures.value)
    (subst (λ (fs : List Fact). (of what : ℕ) → IsIn (passed_to c.in_ok-given.given.items of) what ↔ IsIn fs (record { of = of; what = what })) c.as_slice.ensures.value c.in_ok-given.ensures) in
    IfOk-weaker
    c.choose.result
    (λ made. (n : ℕ) → n < c.args.wanted → IsChosen reached c.as_slice-3.result.now n (passed_to made.items n))
    (λ made. (gs : List Given) (links : List Link) (list : List Key) (n : ℕ) → AreTold keys facts gs → AreNumbers keys numbered.list.items list → ((to from : ℕ) → IsIn (passed_to sources to) from ↔ IsIn links (record { from = from; to = to })) → n < c.args.wanted →
    ArePlaces (Arises gs links n) list (passed_to made.items n))
    (λ made chosen gs links list n told numbers linked lt.
    places-are keys c.len.ensures.unique reached n (Arises gs links n)
    (λ k x at h. reached-arises sources links linked keys facts gs told rows are n k x at (c.in_ok-reached.ensures.only (record { of = n; what = k }) h))
    (λ x h. let w = arises-reached sources links linked keys facts gs told rows are n x h in (w.0, w.1, c.in_ok-reached.ensures.added n w.0 lt w.2))
    numbered.list.items list (passed_to made.items n) numbers
    (subst (λ (ns : List ℕ). IsChosen reached ns n (passed_to made.items n)) c.as_slice-3.ensures.value (chosen n lt)))
    c.choose.ensures.chosen
