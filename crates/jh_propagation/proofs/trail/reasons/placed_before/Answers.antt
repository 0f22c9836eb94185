use Rattle.std.proofs.Common.{◌≡◌, ◌<◌, ◌≤◌, ◌∙◌, refl, sym, ap, subst, arith, Some, slice_get}
use Rattle.std.proofs.lemmas.Bool.{true≢false}
use Rattle.std.proofs.lemmas.Option.{slice_get_within}
use Rattle.jh_propagation.specs.trail.Listing.{decided, StandsAt}
use Rattle.jh_propagation.proofs.trail.Formed.{some-is}
use Rattle.jh_propagation.proofs.trail.Noting.{before-found}
use Rattle.jh_propagation.proofs.trail.reasons.placed_before.Goals as goal

pub literal-requires : goal.literal-requires
literal-requires c = let s : StandsAt c.args.trail.now c.args.literal.atom c.args.place = (c.requires c.args.place).0 refl in slice_get_within c.args.trail.now c.args.place (decided c.args.literal.atom s.0) s.1

pub returns-then-place-before-clause-none : goal.returns-then-place-before-clause-none
returns-then-place-before-clause-none c = λ e h.
    let found = before-found c.args.trail.now c.args.before c.args.literal (Some c.args.place) c.requires h in
    let same : c.args.place ≡ found.place = some-is c.args.place found.place found.is in
    let below : found.place < c.args.before = found.below in
    let above : c.args.before ≤ c.args.place = c.if-place-before.true in
    omega (arith, same, below, above)

pub returns-then-is_one-clause-found : goal.returns-then-is_one-clause-found
returns-then-is_one-clause-found c = λ p e.
    let same = some-is c.args.place p e in
    (subst (λ z. z < c.args.before) same c.if-place-before.false, ap (slice_get c.args.trail.now) (sym same) ∙ (c.literal.ensures ∙ ap Some (c.is_one.ensures.0 c.if-is_one.true)))

pub returns-else-is_one-clause-none : goal.returns-else-is_one-clause-none
returns-else-is_one-clause-none c = λ e h.
    let found = before-found c.args.trail.now c.args.before c.args.literal (Some c.args.place) c.requires h in
    let same = some-is c.args.place found.place found.is in
    true≢false (sym (c.is_one.ensures.1 (some-is c.literal.result c.args.literal (sym c.literal.ensures ∙ (ap (slice_get c.args.trail.now) same ∙ found.at)))) ∙ c.if-is_one.false)
