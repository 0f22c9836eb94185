use Rattle.std.proofs.Common.{◌≡◌, ◌++◌, ◌∷◌, [], List, ap, sym, subst, ◌∙◌, arith, length, rules}
use Rattle.std.proofs.lemmas.List.{length-append}
use Rattle.jh_query.specs.declared.queries.sizes.Spot.{Spot}
use Rattle.jh_query.specs.declared.partial_truth.casing.Atom.{Atom}
use Rattle.jh_query.specs.queries.Bare.{query_tree}
use Rattle.jh_bapa.specs.decision.Cases.{conds_of}
use Rattle.jh_bapa.specs.decision.Searching.{IsCasing, IsPlacement}
use Rattle.jh_bapa.proofs.decision.Known.{none-then}
use Rattle.jh_bapa.proofs.decision.Searches.{none-of}
use Rattle.jh_bapa.proofs.decision.Spoilings.{spoiled-none}
use Rattle.jh_bapa.proofs.decision.Placements.{new-more, next-both, told-both}
use Rattle.jh_bapa.proofs.decision.placing.+place.Goals as goal

pub place_at-returns-then-are_spoiled-clause-none : goal.place_at-returns-then-are_spoiled-clause-none
place_at-returns-then-are_spoiled-clause-none t c =
    spoiled-none (query_tree c.args.query.now) (c.args.spots.now.items ++ c.args.spot ∷ []) c.deref.result.now c.args.atoms.now.items (c.deref.ensures.value ∙ c.in_ok-push.ensures.items)
    (omega (arith, length-append c.args.spots.now.items (c.args.spot ∷ []), c.requires.room))
    (sym (rw c.items.ensures at c.are_spoiled.ensures) ∙ c.if-are_spoiled.true)

pub place_at-returns-in-Some-true-clause-none : goal.place_at-returns-in-Some-true-clause-none
place_at-returns-in-Some-true-clause-none t c =
    told-both (query_tree c.args.query.now) _ c.deref-2.result.now c.args.atoms.now.items c.deref-3.result.now c.in-Some-true.field-0 c.in-Some-true.ensures.tells c.in-Some-true.field-0-test (c.deref-2.ensures.value ∙ c.in_ok-push.ensures.items) c.deref-3.ensures.value

pub place_new-loop-region-preserved : goal.place_new-loop-region-preserved
place_new-loop-region-preserved t c =
    let gone = sym c.is_some.ensures ∙ c.if-is_some.false in
    record {
      atoms = none-of c.in_ok-found.found _ c.in_ok-found.ensures.atoms gone ∙ c.loop-region.invariant.atoms;
      spots = none-of c.in_ok-found.found _ c.in_ok-found.ensures.spots gone ∙ c.loop-region.invariant.spots;
      tried = new-more (query_tree c.args.query.now) c.args.spots.now.items c.loop-region.spots.items _ c.args.atoms.now.items c.loop-region.atoms.items c.new_spot-spot.result c.loop-region.region c.loop-region.invariant.spots c.loop-region.invariant.atoms
          c.deref.ensures.value c.new_spot-spot.ensures c.loop-region.invariant.tried (none-of c.in_ok-found.found _ c.in_ok-found.ensures.none gone);
    }

pub place_new-returns-clause-none : goal.place_new-returns-clause-none
place_new-returns-clause-none t c = λ r h. c.loop-region.invariant.tried r (omega (arith, h, c.region_count-region-end.ensures))

pub place_next-place_new-requires : goal.place_next-place_new-requires
place_next-place_new-requires t c =
    let gone = sym c.is_some.ensures ∙ c.if-is_some.false in
    let spots : c.place_old.new.spots.items ≡ c.args.spots.now.items = none-of c.in_ok-found.found _ c.in_ok-found.ensures.spots gone in
    let atoms : c.place_old.new.atoms.items ≡ c.args.atoms.now.items = none-of c.in_ok-found.found _ c.in_ok-found.ensures.atoms gone in (
      omega (arith, c.decreases, ap length spots),
      (
        c.requires.formed,
        (
          c.requires.within,
          (
            subst (λ (xs : List Atom). IsCasing (query_tree c.args.query.now) (conds_of xs)) (sym atoms) c.requires.casing,
            (
              subst (λ (u : List Spot). IsPlacement c.args.query.now.sets u) (sym spots) c.requires.placement,
              omega (arith, ap length spots, c.requires.room),
            ),
          ),
        ),
      ),
    )

pub place_next-returns-clause-none : goal.place_next-returns-clause-none
place_next-returns-clause-none t c =
    let gone = sym c.is_some.ensures ∙ c.if-is_some.false in
    let spots : c.place_old.new.spots.items ≡ c.args.spots.now.items = none-of c.in_ok-found.found _ c.in_ok-found.ensures.spots gone in
    let atoms : c.place_old.new.atoms.items ≡ c.args.atoms.now.items = none-of c.in_ok-found.found _ c.in_ok-found.ensures.atoms gone in
    none-then c.in_ok-last.last _ _ c.in_ok-last.ensures.none
    (λ new. next-both (query_tree c.args.query.now) c.args.spots.now.items c.place_old.new.spots.items c.args.atoms.now.items c.place_old.new.atoms.items c.requires.placement c.requires.room spots atoms (none-of c.in_ok-found.found _ c.in_ok-found.ensures.none gone) new)

pub place_next-returns-clause-atoms : goal.place_next-returns-clause-atoms
place_next-returns-clause-atoms t c =
    let gone = sym c.is_some.ensures ∙ c.if-is_some.false in
    none-then c.in_ok-last.last _ _ c.in_ok-last.ensures.atoms (λ e. e ∙ none-of c.in_ok-found.found _ c.in_ok-found.ensures.atoms gone)

pub place_next-returns-clause-spots : goal.place_next-returns-clause-spots
place_next-returns-clause-spots t c =
    let gone = sym c.is_some.ensures ∙ c.if-is_some.false in
    none-then c.in_ok-last.last _ _ c.in_ok-last.ensures.spots (λ e. e ∙ none-of c.in_ok-found.found _ c.in_ok-found.ensures.spots gone)
