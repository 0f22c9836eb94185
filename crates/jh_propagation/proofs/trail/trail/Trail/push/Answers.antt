use Rattle.std.proofs.Common.{sym, ap, subst, ℕ, List, [], ◌∷◌, ◌++◌, length, slice_set}
use Rattle.jh_propagation.specs.declared.trail.decided.Decided.{Decided}
use Rattle.jh_propagation.specs.trail.Listing.{AreNoted, IsUndecided}
use Rattle.jh_propagation.proofs.trail.Noting.{noted-longer, noted-more}
use Rattle.jh_propagation.proofs.trail.trail.Trail.push.Goals as goal

pub invariant_of-self : goal.invariant_of-self
invariant_of-self c = noted-longer c.self.inside.literals.items c.self.inside.places.items c.reach.new.places.items c.reach.ensures.kept c.self.invariant

pub invariant_of-self-in_err-push : goal.invariant_of-self-in_err-push
invariant_of-self-in_err-push c =
    subst (λ (ds : List Decided). AreNoted ds c.reach.new.places.items) (sym c.in_err-push.ensures.items)
    (noted-longer c.self.inside.literals.items c.self.inside.places.items c.reach.new.places.items c.reach.ensures.kept c.self.invariant)

pub invariant_of-self-2 : goal.invariant_of-self-2
invariant_of-self-2 c =
    let ds = c.self.inside.literals.items in
    let places = c.reach.new.places.items in
    let d = c.args.literal in
    let whole = noted-more ds places d c.in_ok-reach.ensures.long (subst (λ (es : List Decided). IsUndecided es d.atom) (sym c.self.view_is) c.requires) (noted-longer ds c.self.inside.places.items places c.reach.ensures.kept c.self.invariant) in
    subst (λ (es : List Decided). AreNoted es (slice_set places d.atom (length c.as_slice-place.result.now))) (sym c.in_ok-push.ensures.items)
    (subst (λ (n : ℕ). AreNoted (ds ++ d ∷ []) (slice_set places d.atom n)) (sym (ap length c.as_slice-place.ensures.value)) whole)
